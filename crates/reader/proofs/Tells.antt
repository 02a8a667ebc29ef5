-- The numbers of an answer tell it from every other. Assumes nothing.
use Prim.Native.Nat.{ℕ, ◌+◌}
use mathlib.Core.Path.{◌≡◌, refl, sym, ap, ap₂, ◌∙◌}
use mathlib.Core.List.{List}
use mathlib.Core.Bool.{cond}
use lib.ListN.{get_or, drop}
use lib.Dec.{eqb}
use Rattle.laws.proofs.Inverse.{undone_tells}
use Rattle.frame.specs.Limits.{command_wanting_reply, notification, response}
use Rattle.heartbeat.specs.Beat.{seconds_form, form_of, value_of}
use Rattle.heartbeat.specs.declared.Heartbeat.{Heartbeat}
use Rattle.heartbeat.specs.declared.Heartbeat.TheVariants.{InSeconds, InMilliseconds}
use Rattle.fields.specs.declared.Method.{Method}
use Rattle.std.specs.Prelude.{Result, Ok, Err}
use Rattle.numbers.specs.Refusal.{not_refused, refusal_number, refusal_numbers}
use Rattle.numbers.specs.declared.Refusal.{Refusal}
use Rattle.numbers.specs.declared.Refusal.TheVariants as refusal
use Rattle.numbers.proofs.Tables.{numbers_table}
use Rattle.reader.specs.Numbers.{heartbeat_numbers, message_numbers, reading_numbers, command_numbers, notification_numbers, response_numbers, entry_numbers}
use Rattle.reader.specs.Tell.{NumbersTell}
use Rattle.reader.specs.declared.Message.{Message}
use Rattle.reader.specs.declared.Message.TheVariants.{Command, CommandWantingReply, Notification, Response, KeepAlive}
use Rattle.reader.specs.declared.Reading.{Reading}
use Rattle.reader.specs.declared.Entry.{Entry}
use Rattle.reader.specs.declared.Entry.TheVariants as entry

-- each kind of answer made again from its numbers
heartbeat_back : List ℕ → Heartbeat
heartbeat_back l = cond (eqb (get_or l 0 0) seconds_form) (InSeconds (record { 0 = get_or l 1 0 })) (InMilliseconds (record { 0 = get_or l 1 0 }))

heartbeat_back_lem : (h : Heartbeat) → heartbeat_back (heartbeat_numbers h) ≡ h
unfolding heartbeat_back heartbeat_numbers form_of value_of
heartbeat_back_lem (InSeconds x) = refl
heartbeat_back_lem (InMilliseconds x) = refl

message_back : List ℕ → Message
message_back l =
    cond (eqb (get_or l 0 0) 0) (Command (get_or l 1 0))
    (cond (eqb (get_or l 0 0) command_wanting_reply) (CommandWantingReply (get_or l 1 0))
    (cond (eqb (get_or l 0 0) notification) (Notification (get_or l 1 0))
    (cond (eqb (get_or l 0 0) response) (Response (get_or l 1 0)) (KeepAlive (heartbeat_back (drop 2 l))))))

message_back_lem : (m : Message) → message_back (message_numbers m) ≡ m
unfolding message_back message_numbers
message_back_lem (Command n) = refl
message_back_lem (CommandWantingReply n) = refl
message_back_lem (Notification n) = refl
message_back_lem (Response n) = refl
message_back_lem (KeepAlive h) = ap KeepAlive (heartbeat_back_lem h)

-- what an answer tells, where 0 comes first of what is not refused
pub first_told : (r : Refusal) → get_or (refusal_numbers r) 0 0 ≡ refusal_number r
first_told refusal.BadRecord = refl
first_told refusal.BadArea = refl
first_told refusal.NoConnection = refl
first_told refusal.NoRoom = refl
first_told refusal.TableFull = refl
first_told refusal.ClockBack = refl
first_told (refusal.Fault f) = refl
first_told refusal.Short = refl
first_told refusal.TooLong = refl
first_told refusal.BadEntry = refl
first_told refusal.NoEntry = refl

pub answer_tells : {A : Type 0} (told : Result A Refusal → List ℕ) (back : List ℕ → A) → ((a : A) → back (told (Ok a)) ≡ a)
    → ((a : A) → get_or (told (Ok a)) 0 0 ≡ not_refused) → ((r : Refusal) → told (Err r) ≡ refusal_numbers r)
    → (x y : Result A Refusal) → told x ≡ told y → x ≡ y
answer_tells told back undone first refused (Ok a) (Ok b) e = ap Ok (sym (undone a) ∙ ap back e ∙ undone b)
answer_tells told back undone first refused (Ok a) (Err q) e =
    absurd (numbers_table.names.refused q (sym (first_told q) ∙ ap (λ (l : List ℕ). get_or l 0 0) (sym (e ∙ refused q)) ∙ first a))
answer_tells told back undone first refused (Err r) (Ok b) e =
    absurd (numbers_table.names.refused r (sym (first_told r) ∙ ap (λ (l : List ℕ). get_or l 0 0) (sym (refused r) ∙ e) ∙ first b))
answer_tells told back undone first refused (Err r) (Err q) e = ap Err (numbers_table.names.refusal_told r q (sym (refused r) ∙ e ∙ refused q))

reading_back : List ℕ → Reading
reading_back l = record { message = message_back (drop 2 l); length = get_or l 1 0 }

reading_tells : (a b : Result Reading Refusal) → reading_numbers a ≡ reading_numbers b → a ≡ b
unfolding reading_numbers reading_back
reading_tells =
    answer_tells reading_numbers reading_back (λ r. ap (λ (m : Message). record { message = m; length = r.length }) (message_back_lem r.message)) (λ r. refl) (λ r. refl)

method_back : List ℕ → ℕ → Method
method_back l at = record { level = get_or l at 0; index = get_or l (at + 1) 0 }

fields_back : List ℕ → Entry
fields_back l =
    cond (eqb (get_or l 0 0) 0)
    (entry.Command (record { handle = get_or l 1 0; target = get_or l 2 0; method = method_back l 3; count = get_or l 5 0 }))
    (cond (eqb (get_or l 0 0) notification)
    (entry.Notification (record { target = get_or l 1 0; method = method_back l 2; count = get_or l 4 0; context_count = get_or l 5 0; emitter = get_or l 6 0; event = method_back l 7 }))
    (entry.Response (record { handle = get_or l 1 0; status = get_or l 2 0; count = get_or l 3 0 })))

entry_back_lem : (r : Entry) → fields_back (drop 1 (entry_numbers (Ok r))) ≡ r
unfolding fields_back method_back entry_numbers command_numbers notification_numbers response_numbers
entry_back_lem (entry.Command c) = refl
entry_back_lem (entry.Notification n) = refl
entry_back_lem (entry.Response r) = refl

entry_first : (r : Entry) → get_or (entry_numbers (Ok r)) 0 0 ≡ not_refused
unfolding entry_numbers
entry_first (entry.Command c) = refl
entry_first (entry.Notification n) = refl
entry_first (entry.Response r) = refl

entry_tells : (a b : Result Entry Refusal) → entry_numbers a ≡ entry_numbers b → a ≡ b
unfolding entry_numbers
entry_tells = answer_tells entry_numbers (λ l. fields_back (drop 1 l)) entry_back_lem entry_first (λ r. refl)

pub numbers_tell : NumbersTell
numbers_tell =
    record {
      heartbeats = undone_tells heartbeat_numbers heartbeat_back heartbeat_back_lem;
      messages = undone_tells message_numbers message_back message_back_lem;
      readings = reading_tells;
      entries = entry_tells;
      message = λ s a b p q. reading_tells a b (p ∙ sym q);
      entry = λ s i a b p q. entry_tells a b (p ∙ sym q);
      part = λ s i a b p q. p ∙ sym q;
      start = λ s i a b p q. p ∙ sym q;
      place = λ s i a b p q. ap₂ (λ (x y : ℕ). record { start = x; length = y }) (p.0 ∙ sym q.0) (p.1 ∙ sym q.1);
      context = λ s i a b p q. p ∙ sym q;
      context_place_lem = λ s i a b p q. ap₂ (λ (x y : ℕ). record { start = x; length = y }) (p.0 ∙ sym q.0) (p.1 ∙ sym q.1);
    }

-- Keep-alives and notifications are read, and so is what a take leaves in the output. Assumes nothing.
use Prim.Native.Nat.{ℕ, ◌/◌, ◌≤◌}
use mathlib.Core.Path.{◌≡◌, refl, sym, ap}
use mathlib.Core.Logic.{◌⊎◌, inl, inr}
use mathlib.Core.Bool.{Bool, true, false, cond, not, ◌&&◌}
use mathlib.Core.List.{List, [], ◌++◌}
use native.Mathlib.Omega.{arith}
use lib.Dec.{ltb, eqb, leb}
use lib.ListN.{length, get_or, drop}
use borrow.Author.Tests.{eq-eqb, ne_eqb, le-leb, leb-true, eqb-true}
use Rattle.laws.proofs.Conds.{and_left, and_right}
use Rattle.laws.proofs.Tables.{all_get_d}
use Rattle.octets.specs.Numbers.{bytes16, bytes32}
use Rattle.octets.proofs.Digits.{be16_bytes, be32_bytes, length_bytes16, length_bytes32}
use Rattle.octets.specs.Zeros.{all_zero}
use Rattle.numbers.specs.Refusal.{bad_record, no_room}
use Rattle.answers.specs.Numbers.{taking_numbers}
use Rattle.answers.specs.declared.Taking.TheVariants.{Notification, KeepAlive}
use Rattle.heartbeat.specs.Beat.{seconds_form, form_of, value_of, greatest_seconds, greatest_milliseconds}
use Rattle.heartbeat.specs.declared.Heartbeat.{Heartbeat}
use Rattle.heartbeat.specs.declared.Heartbeat.TheVariants.{InSeconds, InMilliseconds}
use Rattle.frame.specs.Limits.{keep_alive, greatest_size}
use Rattle.frame.specs.Header.{pdu_type, count_fault}
use Rattle.frame.specs.Decide.{keep_alive_fill, data_sound}
use Rattle.fields.specs.Fields.{heartbeat_of}
use Rattle.reader.specs.Numbers.{heartbeat_numbers}
use Rattle.reader.specs.Read.{message_of, read_by, read_of}
use Rattle.layout.specs.Message.{size_of, message, beat_bytes, at_front}
use Rattle.layout.proofs.Messages.{length_message}
use Rattle.writer.proofs.Heads.{message_holds}
use Rattle.connection.specs.State.{closed, connection_count, lowest_due}
use Rattle.connection.specs.Obeys.{connection_obeys}
use Rattle.connection.specs.Supervision.{heartbeat_kept}
use Rattle.connection.specs.Kept.{fits_form}
use Rattle.connection.specs.declared.Connection.{Connection}
use Rattle.connection.proofs.Times.{obeys_bound}
use Rattle.subscription.specs.State.{entry_count, free, lowest_waiting}
use Rattle.subscription.specs.Obeys.{is_free, entry_obeys}
use Rattle.subscription.specs.declared.Subscription.{Subscription}
use Rattle.subscription.proofs.Entries.{kept_low}
use Rattle.subscription.proofs.Keeps.{Sound, entry_view, entries_kept}
use Rattle.objects.specs.Methods.{is_mute, first_mute, last_mute, change_event}
use Rattle.replies.specs.Bytes.{least_output, keep_alive_bytes}
use Rattle.device.proofs.Keeps.{obeys_are}
use Rattle.taking.specs.Dispatch.{subscription_at, notification_at, notifying, reminding, taken_by}
use Rattle.endpoint.specs.State.{record_obeys}
use Rattle.endpoint.specs.Outcome.{Outcome, refused}
use Rattle.endpoint.specs.Take.{with_dispatch, take_call}
use Rattle.endpoint.specs.declared.Record.{Record}
use Rattle.endpoint.proofs.States.{device_obeys_lem, connection_obeys_lem}
use Rattle.sent.proofs.Notifications.{Words, Told, notification_read}
use Rattle.sent.specs.Sent.{BeatRead, NotificationRead, waiting_entry, waiting_value}

-- ---- keep-alives
body_read : (h : Heartbeat) (body rest : List ℕ) → size_of body ≤ greatest_size → keep_alive_fill body ≡ true
    → heartbeat_numbers (heartbeat_of body) ≡ heartbeat_numbers h
    → BeatRead (message keep_alive 1 body ++ rest) (length (message keep_alive 1 body)) h
unfolding read_of read_by message_of count_fault data_sound
body_read h body rest z f e =
    let w = message_holds keep_alive 1 body rest (omega arith) z (omega arith) refl f in
    let l = length_message keep_alive 1 body in
    let m = message keep_alive 1 body ++ rest in
    record {
      sound = rw l w.sound;
      message = rw (l, w.sound) (simp (eq-eqb (pdu_type m) keep_alive w.type, w.body, e));
    }

pub beat_read : (h : Heartbeat) (rest : List ℕ) → fits_form h ≡ true → BeatRead (keep_alive_bytes h ++ rest) (length (keep_alive_bytes h)) h
unfolding keep_alive_bytes beat_bytes form_of value_of fits_form keep_alive_fill heartbeat_numbers heartbeat_of
beat_read (InSeconds s) rest f =
    let v = s.0 in
    let l = length_bytes16 v in
    let b = leb-true v greatest_seconds f in
    body_read (InSeconds s) (bytes16 v) rest (omega arith) (simp (eq-eqb (length (bytes16 v)) 2 l))
    (simp (eq-eqb (length (bytes16 v)) 2 l, be16_bytes v (omega arith)))
beat_read (InMilliseconds s) rest f =
    let v = s.0 in
    let l = length_bytes32 v in
    let b = leb-true v greatest_milliseconds f in
    let ns = ne_eqb (length (bytes32 v)) 2 (λ q. omega arith) in
    body_read (InMilliseconds s) (bytes32 v) rest (omega arith) (simp (ns, eq-eqb (length (bytes32 v)) 4 l))
    (simp (ns, be32_bytes v (omega arith)))

-- the heartbeat that a connection keeps fits its form
kept_fits : (c : Connection) → connection_obeys c ≡ true → fits_form (heartbeat_kept c) ≡ true
unfolding heartbeat_kept fits_form
kept_fits c o = go (eqb c.form seconds_form) refl
  where
    go : (b : Bool) → eqb c.form seconds_form ≡ b
        → fits_form (cond b (InSeconds (record { 0 = c.beat / 1000 })) (InMilliseconds (record { 0 = c.beat }))) ≡ true
    go true e =
        let s = (obeys_bound c o).seconds (eqb-true c.form seconds_form e) in
        le-leb (c.beat / 1000) greatest_seconds (omega arith)
    go false e = le-leb c.beat greatest_milliseconds (obeys_bound c o).beat

-- ---- notifications
-- an entry that keeps its rules has a mute and event 1.1, or is all zero
free_zero : (e : Subscription) → is_free e ≡ true → (e.emitter ≡ 0) × (e.event ≡ 0) × (e.context_count ≡ 0)
unfolding is_free
free_zero e f =
    let a = not e.used && not e.waiting && eqb e.connection 0 in
    let b = a && eqb e.emitter 0 in
    let c = b && eqb e.event 0 in
    let o = c && eqb e.object 0 && eqb e.method 0 in
    let j = and_left (o && eqb e.context_count 0) (all_zero e.context) f in
    let k = and_left o (eqb e.context_count 0) j in
    let g = and_left c (eqb e.object 0) (and_left (c && eqb e.object 0) (eqb e.method 0) k) in
    let h = and_left b (eqb e.event 0) g in
    (eqb-true e.emitter 0 (and_right a (eqb e.emitter 0) h), eqb-true e.event 0 (and_right b (eqb e.event 0) g), eqb-true e.context_count 0 (and_right o (eqb e.context_count 0) j))

mute_low : (t : ℕ) → is_mute t ≡ true → t ≤ last_mute
unfolding is_mute
mute_low t m = leb-true t last_mute (and_right (leb first_mute t) (leb t last_mute) m)

entry_told : (cs : List Connection) (e : Subscription) → entry_obeys cs e ≡ true → Words e → Told e
entry_told cs e o w = go (entry_view cs e o)
  where
    go : (is_free e ≡ true) ⊎ Sound cs e → Told e
    go (inl f) =
        let z = free_zero e f in
        record { words = w; emitter = omega (arith, z.0); event = omega (arith, z.1); count = omega (arith, z.2) }
    go (inr s) =
        record {
          words = w;
          emitter = omega (arith, mute_low e.emitter s.mute);
          event = omega (arith, eqb-true e.event change_event s.event);
          count = kept_low e.context_count e.context s.context;
        }

entry_keeps : (r : Record) (i : ℕ) → record_obeys r ≡ true → entry_obeys r.device.connections (subscription_at r.device i) ≡ true
entry_keeps r i o =
    let d = r.device in
    all_get_d (entry_obeys d.connections) d.subscriptions i free (obeys_are d (device_obeys_lem r o)).entries (entries_kept.freed d.connections)

-- ---- the ways of a take
module _ (r : Record) (out : List ℕ) where
  -- a test of the record, of the room, of an entry that waits and of a connection that is due
  abbrev By : Bool → Bool → Bool → Bool → Outcome
  By o short waits due =
      let i = lowest_waiting r.device.subscriptions in
      let n = lowest_due r.device.connections in
      cond o (cond short (refused no_room r [] out) (with_dispatch r (taken_by waits due r.device out i n))) (refused bad_record r [] out)

  abbrev short? : Bool
  short? = ltb (length out) least_output

  abbrev waits? : Bool
  waits? = ltb (lowest_waiting r.device.subscriptions) entry_count

  abbrev due? : Bool
  due? = ltb (lowest_due r.device.connections) connection_count

  reminded_by : (n l : ℕ) (o short waits due : Bool) → record_obeys r ≡ o → (By o short waits due).answer ≡ taking_numbers (KeepAlive n l)
      → BeatRead (By o short waits due).output l (heartbeat_kept (get_or r.device.connections n closed))
  unfolding taken_by notifying reminding at_front
  reminded_by n l false short waits due q e = absurd (omega (arith, ap length e))
  reminded_by n l true true waits due q e = absurd (omega (arith, ap length e))
  reminded_by n l true false true due q e = absurd (omega (arith, ap (λ (x : List ℕ). get_or x 1 0) e))
  reminded_by n l true false false false q e = absurd (omega (arith, ap length e))
  reminded_by n l true false false true q e =
      let k = lowest_due r.device.connections in
      let h = heartbeat_kept (get_or r.device.connections k closed) in
      let m = keep_alive_bytes h in
      let en : k ≡ n = ap (λ (x : List ℕ). get_or x 2 0) e in
      let el : length m ≡ l = ap (λ (x : List ℕ). get_or x 3 0) e in
      rw (← en, ← el) (beat_read h (drop (length m) out) (kept_fits (get_or r.device.connections k closed) (connection_obeys_lem r k q)))

  notified_by : (n l : ℕ) (o short waits due : Bool) → record_obeys r ≡ o → Words (waiting_entry r) → (By o short waits due).answer ≡ taking_numbers (Notification n l)
      → (n ≡ (waiting_entry r).connection) × NotificationRead (By o short waits due).output l (waiting_entry r) (waiting_value r)
  unfolding taken_by notifying reminding at_front
  notified_by n l false short waits due q t e = absurd (omega (arith, ap length e))
  notified_by n l true true waits due q t e = absurd (omega (arith, ap length e))
  notified_by n l true false false true q t e = absurd (omega (arith, ap (λ (x : List ℕ). get_or x 1 0) e))
  notified_by n l true false false false q t e = absurd (omega (arith, ap length e))
  notified_by n l true false true due q t e =
      let i = lowest_waiting r.device.subscriptions in
      let m = notification_at r.device i in
      let el : length m ≡ l = ap (λ (x : List ℕ). get_or x 3 0) e in
      (sym (ap (λ (x : List ℕ). get_or x 2 0) e), rw (← el) (notification_read (waiting_entry r) (waiting_value r) (entry_told r.device.connections (waiting_entry r) (entry_keeps r i q) t) (drop (length m) out)))

  pub reminded : (n l : ℕ) → (take_call r out).answer ≡ taking_numbers (KeepAlive n l)
      → BeatRead (take_call r out).output l (heartbeat_kept (get_or r.device.connections n closed))
  unfolding take_call
  reminded n l e = reminded_by n l (record_obeys r) short? waits? due? refl e

  pub notified : (n l : ℕ) → Words (waiting_entry r) → (take_call r out).answer ≡ taking_numbers (Notification n l)
      → (n ≡ (waiting_entry r).connection) × NotificationRead (take_call r out).output l (waiting_entry r) (waiting_value r)
  unfolding take_call
  notified n l t e = notified_by n l (record_obeys r) short? waits? due? refl t e

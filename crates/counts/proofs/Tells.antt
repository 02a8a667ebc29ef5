-- What the reader tells of an entry's parameters by its count and by its part, and of its context. Assumes nothing.
use Prim.Native.Nat.{ℕ, ◌<◌, ◌≤◌}
use mathlib.Core.Path.{◌≡◌, refl, sym, ap, ◌∙◌}
use mathlib.Core.Bool.{Bool, true, false, cond, not, false≢true, ◌||◌}
use mathlib.Core.List.{List, [], ◌∷◌}
use native.Mathlib.Omega.{arith}
use lib.Dec.{ltb, eqb}
use lib.ListN.{length, get_or, take, drop, length-drop}
use lib.Seq.{length-take-le}
use borrow.Author.Tests.{eq-eqb, ne_eqb, ltb-true, eqb-true, eqb-false}
use Rattle.std.specs.Prelude.{Ok}
use Rattle.laws.proofs.Conds.{cond_right}
use Rattle.laws.proofs.Parts.{nil_of}
use Rattle.octets.specs.Numbers.{be16_at}
use Rattle.numbers.specs.Refusal.{no_entry, not_refused}
use Rattle.frame.specs.Limits.{notification, response, keep_alive, greatest_context}
use Rattle.frame.specs.Header.{pdu_type, message_count}
use Rattle.frame.specs.Entry.{context_count, count_place, least_count, entry_size, well_formed}
use Rattle.frame.specs.Counts.{count_given, NoneIsBare}
use Rattle.frame.specs.Decide.{decide}
use Rattle.frame.specs.declared.Decision.{Decision}
use Rattle.frame.specs.declared.Decision.TheVariants.{Undecided, Faulty, Sound}
use Rattle.frame.proofs.Counts.{count_tells}
use Rattle.frame.proofs.Contexts.{context_tells}
use Rattle.frame.proofs.Entries.{offset_notification, well_make}
use Rattle.frame.proofs.Sounds.{sound_at}
use Rattle.fields.specs.Place.{entries_from, entry_bytes, parameters_of, context_of}
use Rattle.fields.specs.Fields.{command_of, notification_of, response_of}
use Rattle.fields.specs.declared.CommandFields.{CommandFields}
use Rattle.fields.specs.declared.NotificationFields.{NotificationFields}
use Rattle.fields.specs.declared.ResponseFields.{ResponseFields}
use Rattle.fields.proofs.Places.{entries_get}
use Rattle.reader.specs.Numbers.{command_numbers, notification_numbers, response_numbers, entry_numbers}
use Rattle.reader.specs.Read.{data_of}
use Rattle.reader.specs.Entry.{has_entry, fields_of, entry_at, entry_in, entry_by, entry_of, part_in, part_by, part_of, ReadsEntry}
use Rattle.reader.specs.Context.{context_in, context_by, entry_context}
use Rattle.reader.specs.declared.Entry.TheVariants.{Command, Notification, Response}
use Rattle.reader.proofs.Sounds.{kind_low, entries_data}
use Rattle.writer.proofs.Walks.{one_alone}
use Rattle.objects.specs.Methods.{set_method, add_method, remove_method, reset_key_method}
use Rattle.objects.specs.Tests.{count_of, length_of, is_length_bad, is_pair_bad, is_malformed}
use Rattle.counts.specs.Told.{NoneTold, ContextTold}

-- an entry that was answered by its fields: a well formed entry of the message's type, and the part is its own
record Found (s : List ℕ) (i : ℕ) (answer : List ℕ) : Type 0 where
  pub kind : ℕ
  pub bytes : List ℕ
  pub well : well_formed kind bytes ≡ true
  pub fields : fields_of kind bytes ≡ answer
  pub part : part_of s i ≡ parameters_of kind bytes
  pub context : entry_context s i ≡ context_of kind bytes

module _ (s : List ℕ) (i n : ℕ) (e : decide s ≡ Sound n) where
  well_at : has_entry (pdu_type s) (message_count s) i ≡ true → well_formed (pdu_type s) (entry_at s n i) ≡ true
  unfolding has_entry entry_bytes
  well_at h =
      let w = sound_at s n e in
      let p = cond_right (eqb (pdu_type s) keep_alive) false _ true h false≢true in
      let k = eqb-false (pdu_type s) keep_alive p.0 in
      let u = entries_from i (pdu_type s) (data_of s n) in
      let nz = entries_get i (message_count s) (pdu_type s) (data_of s n) (ltb-true i (message_count s) p.1) (entries_data s n w k) in
      well_make (pdu_type s) (take (entry_size (pdu_type s) u) u) (kind_low s n w k) (one_alone (pdu_type s) u nz)

  found_in : (answer : List ℕ) → 2 < length answer → entry_in s n i ≡ answer → Found s i answer
  unfolding entry_in part_of part_by part_in entry_context context_by context_in
  found_in answer l q = go (has_entry (pdu_type s) (message_count s) i) refl q
    where
      part_is : has_entry (pdu_type s) (message_count s) i ≡ true → part_of s i ≡ parameters_of (pdu_type s) (entry_at s n i)
      part_is h = ap (λ (d : Decision). part_by d s i) e ∙ rw h

      context_is : has_entry (pdu_type s) (message_count s) i ≡ true → entry_context s i ≡ context_of (pdu_type s) (entry_at s n i)
      context_is h = ap (λ (d : Decision). context_by d s i) e ∙ rw h

      go : (b : Bool) → has_entry (pdu_type s) (message_count s) i ≡ b → cond b (fields_of (pdu_type s) (entry_at s n i)) (no_entry ∷ []) ≡ answer → Found s i answer
      go true h f = record { kind = pdu_type s; bytes = entry_at s n i; well = well_at h; fields = f; part = part_is h; context = context_is h }
      go false h f = absurd (omega (arith, l, ap length f))

found : (s : List ℕ) (i : ℕ) (answer : List ℕ) → 2 < length answer → entry_of s i ≡ answer → Found s i answer
unfolding entry_of entry_by
found s i answer l q = go (decide s) refl q
  where
    go : (d : Decision) → decide s ≡ d → entry_by d s i ≡ answer → Found s i answer
    go Undecided e f = absurd (omega (arith, l, ap length f))
    go (Faulty x n) e f = absurd (omega (arith, l, ap length f))
    go (Sound n) e f = found_in s i n e answer l f

-- the count stands among the answer's numbers where the type says
counted : (kind : ℕ) (e answer : List ℕ) → fields_of kind e ≡ answer
    → (get_or answer 1 0 ≡ 0 → (least_count kind ≡ 0) × (count_given kind e ≡ get_or answer 6 0))
    × (get_or answer 1 0 ≡ notification → (least_count kind ≡ 1) × (count_given kind e ≡ get_or answer 5 0))
    × (get_or answer 1 0 ≡ response → (least_count kind ≡ 0) × (count_given kind e ≡ get_or answer 4 0))
unfolding fields_of command_numbers notification_numbers response_numbers command_of notification_of response_of count_place least_count
counted kind e answer f = go (ltb kind notification) refl (eqb kind notification) refl f
  where
    go : (x : Bool) → ltb kind notification ≡ x → (y : Bool) → eqb kind notification ≡ y
        → cond x (not_refused ∷ command_numbers (command_of e)) (cond y (not_refused ∷ notification_numbers (notification_of e)) (not_refused ∷ response_numbers (response_of e))) ≡ answer
        → (get_or answer 1 0 ≡ 0 → (cond {A = ℕ} y 1 0 ≡ 0) × (get_or e (cond x 16 (cond y 12 9)) 0 ≡ get_or answer 6 0))
        × (get_or answer 1 0 ≡ notification → (cond {A = ℕ} y 1 0 ≡ 1) × (get_or e (cond x 16 (cond y 12 9)) 0 ≡ get_or answer 5 0))
        × (get_or answer 1 0 ≡ response → (cond {A = ℕ} y 1 0 ≡ 0) × (get_or e (cond x 16 (cond y 12 9)) 0 ≡ get_or answer 4 0))
    go true p true q f = absurd (omega (arith, ltb-true kind notification p, eqb-true kind notification q))
    go true p false q f = let t = ap (λ (l : List ℕ). get_or l 1 0) f in (
      λ z. (refl, ap (λ (l : List ℕ). get_or l 6 0) f),
      λ z. absurd (omega (arith, t, z)),
      λ z. absurd (omega (arith, t, z)),
    )
    go false p true q f = let t = ap (λ (l : List ℕ). get_or l 1 0) f in (
      λ z. absurd (omega (arith, t, z)),
      λ z. (refl, ap (λ (l : List ℕ). get_or l 5 0) f),
      λ z. absurd (omega (arith, t, z)),
    )
    go false p false q f = let t = ap (λ (l : List ℕ). get_or l 1 0) f in (
      λ z. absurd (omega (arith, t, z)),
      λ z. absurd (omega (arith, t, z)),
      λ z. (refl, ap (λ (l : List ℕ). get_or l 4 0) f),
    )

-- with that count, and the part that the reader gives
bare_as : (s : List ℕ) (i : ℕ) (answer : List ℕ) (f : Found s i answer) (least count : ℕ) → least_count f.kind ≡ least → count_given f.kind f.bytes ≡ count
    → NoneIsBare least count (part_of s i)
unfolding parameters_of
bare_as s i answer f least count p q =
    let t = count_tells.tells f.kind f.bytes f.well in
    (λ z. f.part ∙ t.0 (q ∙ z ∙ sym p), λ z. sym q ∙ t.1 (sym f.part ∙ z) ∙ p)

module _ (s : List ℕ) (i : ℕ) where
  command : (c : CommandFields) → ReadsEntry s i (Ok (Command c)) → NoneIsBare 0 c.count (part_of s i)
  unfolding entry_numbers command_numbers
  command c h =
      let f = found s i (entry_numbers (Ok (Command c))) (omega arith) (sym h) in
      let n = (counted f.kind f.bytes (entry_numbers (Ok (Command c))) f.fields).0 refl in
      bare_as s i (entry_numbers (Ok (Command c))) f 0 c.count n.0 n.1

  notified : (n : NotificationFields) → ReadsEntry s i (Ok (Notification n)) → NoneIsBare 1 n.count (part_of s i)
  unfolding entry_numbers notification_numbers
  notified c h =
      let f = found s i (entry_numbers (Ok (Notification c))) (omega arith) (sym h) in
      let n = (counted f.kind f.bytes (entry_numbers (Ok (Notification c))) f.fields).1 refl in
      bare_as s i (entry_numbers (Ok (Notification c))) f 1 c.count n.0 n.1

  responded : (r : ResponseFields) → ReadsEntry s i (Ok (Response r)) → NoneIsBare 0 r.count (part_of s i)
  unfolding entry_numbers response_numbers
  responded c h =
      let f = found s i (entry_numbers (Ok (Response c))) (omega arith) (sym h) in
      let n = (counted f.kind f.bytes (entry_numbers (Ok (Response c))) f.fields).2 refl in
      bare_as s i (entry_numbers (Ok (Response c))) f 0 c.count n.0 n.1

-- ---- a method that takes no parameters
-- status 4 for its count or its length, and for nothing else
none_malformed : (m count : ℕ) (part : List ℕ) → count_of m ≡ 0
    → is_malformed m count part ≡ (not (eqb count 0) || not (eqb (length part) 0) || false)
unfolding is_malformed is_length_bad length_of is_pair_bad count_of
none_malformed m count part h =
    let a = cond_right (eqb m set_method) 1 _ 0 h (λ e. omega arith) in
    let b = cond_right (eqb m add_method) 5 _ 0 a.1 (λ e. omega arith) in
    let c = cond_right (eqb m remove_method) 2 _ 0 b.1 (λ e. omega arith) in
    let d = cond_right (eqb m reset_key_method) 2 0 0 c.1 (λ e. omega arith) in
    simp (a.0, b.0, c.0, d.0)

both_tell : (m count : ℕ) (part : List ℕ) → count_of m ≡ 0 → NoneIsBare 0 count part
    → (is_malformed m count part ≡ not (eqb count 0)) × (is_malformed m count part ≡ not (eqb (length part) 0))
both_tell m count part h t = go (eqb count 0) refl
  where
    go : (b : Bool) → eqb count 0 ≡ b → (is_malformed m count part ≡ not (eqb count 0)) × (is_malformed m count part ≡ not (eqb (length part) 0))
    go true e =
        let l : length part ≡ 0 = ap length (t.0 (eqb-true count 0 e)) in
        let z = eq-eqb (length part) 0 l in
        let w : is_malformed m count part ≡ false = none_malformed m count part h ∙ rw (e, z) refl in
        (w ∙ rw e refl, w ∙ rw z refl)
    go false e =
        let nz = eqb-false count 0 e in
        let z = ne_eqb (length part) 0 (λ q. nz (t.1 (nil_of part q))) in
        let w : is_malformed m count part ≡ true = none_malformed m count part h ∙ rw e refl in
        (w ∙ rw e refl, w ∙ rw z refl)

pub none_told : NoneTold
none_told =
    record {
      command = command;
      notification = λ s i n h. let t = notified s i n h in (λ z. t.0 (omega (arith, z)), λ z. omega (arith, t.1 z));
      response = responded;
      takes_none = λ s i c h m z. both_tell m c.count (part_of s i) z (command s i c h);
    }

-- ---- the context
-- a notification's answer has the type 2 behind the refusal's number, and the context's count behind the parameters'
context_counted : (kind : ℕ) (e answer : List ℕ) → fields_of kind e ≡ answer → get_or answer 1 0 ≡ notification
    → (kind ≡ notification) × (be16_at e 13 ≡ get_or answer 6 0)
unfolding fields_of command_numbers notification_numbers response_numbers command_of notification_of response_of
context_counted kind e answer f z = go (ltb kind notification) refl (eqb kind notification) refl f
  where
    go : (x : Bool) → ltb kind notification ≡ x → (y : Bool) → eqb kind notification ≡ y
        → cond x (not_refused ∷ command_numbers (command_of e)) (cond y (not_refused ∷ notification_numbers (notification_of e)) (not_refused ∷ response_numbers (response_of e))) ≡ answer
        → (kind ≡ notification) × (be16_at e 13 ≡ get_or answer 6 0)
    go true p y q f = absurd (omega (arith, z, ap (λ (l : List ℕ). get_or l 1 0) f))
    go false p true q f = (eqb-true kind notification q, ap (λ (l : List ℕ). get_or l 6 0) f)
    go false p false q f = absurd (omega (arith, z, ap (λ (l : List ℕ). get_or l 1 0) f))

context_long : (e : List ℕ) → well_formed notification e ≡ true → length (context_of notification e) ≡ be16_at e 13
unfolding context_of context_count
context_long e w =
    let o = context_tells.within notification e w in
    length-take-le (be16_at e 13) (drop 15 e) (omega (arith, o, offset_notification e, length-drop 15 e))

context_bound : (e : List ℕ) → well_formed notification e ≡ true → be16_at e 13 ≤ greatest_context
unfolding context_count
context_bound e w = context_tells.bounded notification e w

context_told_at : (s : List ℕ) (i : ℕ) (n : NotificationFields) → ReadsEntry s i (Ok (Notification n))
    → (n.context_count ≡ length (entry_context s i)) × (n.context_count ≤ greatest_context)
unfolding entry_numbers notification_numbers
context_told_at s i n h =
    let answer = entry_numbers (Ok (Notification n)) in
    let f = found s i answer (omega arith) (sym h) in
    let c = context_counted f.kind f.bytes answer f.fields refl in
    let w : well_formed notification f.bytes ≡ true = rw c.0 at f.well in
    let k : entry_context s i ≡ context_of notification f.bytes = rw c.0 at f.context in
    let l = context_long f.bytes w in
    (sym (ap length k ∙ l ∙ c.1), omega (arith, context_bound f.bytes w, c.1))

pub context_told : ContextTold
context_told = record { counted = context_told_at }

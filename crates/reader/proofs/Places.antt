-- Where an entry stands, as the deciding walk finds it. Assumes nothing.
use Prim.Native.Nat.{ℕ, ◌+◌, ◌-◌, ◌≤◌}
use mathlib.Core.Path.{◌≡◌, refl, sym, ap, ◌∙◌}
use mathlib.Core.List.{List, [], ◌∷◌}
use mathlib.Core.Bool.{Bool, cond, true, false, ◌&&◌}
use native.Mathlib.Omega.{arith}
use lib.ListN.{length, drop, length-drop}
use lib.Seq.{length-take-le}
use lib.Dec.{ltb, eqb}
use borrow.Author.Tests.{ne_eqb}
use Rattle.octets.specs.Numbers.{be32_at}
use Rattle.octets.proofs.Digits.{be32_take}
use Rattle.frame.specs.Limits.{notification, keep_alive}
use Rattle.frame.specs.Places.{context_place}
use Rattle.frame.specs.Header.{pdu_type, message_count}
use Rattle.frame.specs.Entry.{least_entry, context_count, parameter_offset, entry_size}
use Rattle.frame.specs.Decide.{decide}
use Rattle.std.specs.Prelude.{Option, Result, Ok, Err, IfOk}
use Rattle.frame.specs.Scaffold.{SoundAt, nonzero, rest_from, data_rest, message_rest, rest_by}
use Rattle.frame.specs.declared.Decision.{Decision}
use Rattle.frame.specs.declared.Decision.TheVariants.{Undecided, Faulty, Sound}
use Rattle.frame.proofs.Entries.{least_holds, entry_at_lem, offset_low}
use Rattle.frame.proofs.Sounds.{sound_at, type_take, count_take}
use Rattle.fields.specs.Place.{entries_from, entry_bytes, parameters_of, context_of}
use Rattle.fields.proofs.Places.{from_rest}
use Rattle.reader.specs.Read.{data_of}
use Rattle.numbers.specs.Refusal.{no_entry, refusal_numbers}
use Rattle.numbers.specs.declared.Refusal.{Refusal}
use Rattle.numbers.specs.declared.Refusal.TheVariants as refusal
use Rattle.reader.specs.Entry.{has_entry, fields_of, entry_at, entry_in, entry_by, entry_of, part_in, part_by, part_of, part_start_in, part_start_by, part_start}
use Rattle.reader.specs.Context.{context_in, context_by, entry_context, has_context, context_start_in, context_start_by, context_start}
use Rattle.reader.specs.Scaffold.{RestStands, AtPlace, place_at, place_by, entry_place, between, entry_placed, start_placed, length_placed, context_start_placed, context_length_placed}
use Rattle.reader.specs.declared.Place.{Place}
use Rattle.reader.proofs.Sounds.{entry_low, entry_start}
use Rattle.reader.proofs.Starts.{from_ends, size_fits, entries_fit, end_placed, entry_stands, context_length}

-- its parameters start within its bytes
pub at_long : {s : List ℕ} {a b : ℕ} → AtPlace s a b → parameter_offset (pdu_type s) (between s a b) ≤ length (between s a b)
at_long {s} {a} {b} w =
    let l : b - a ≤ length (drop a s) = omega (arith, w.low, w.high, length-drop a s) in
    omega (arith, w.low, length-take-le (b - a) (drop a s) l)

pub at_least : {s : List ℕ} {a b : ℕ} → AtPlace s a b → least_entry (pdu_type s) ≤ length (between s a b)
at_least {s} {a} {b} w = omega (arith, at_long w, offset_low (pdu_type s) (between s a b))

-- what an entry is answered by: its fields, and where its part and its context start, and what they are
pub record Told : Type 0 where
  pub answer : List ℕ
  pub start : ℕ
  pub part : List ℕ
  pub begin : ℕ
  pub context : List ℕ

-- that is what is answered of an entry that stands there
pub record Placing (s : List ℕ) (p : Result Place Refusal) (t : Told) : Type 0 where
  pub entry : entry_placed p s ≡ t.answer
  pub start : start_placed p s ≡ t.start
  pub long : length_placed p s ≡ length t.part
  pub begin : context_start_placed p s ≡ t.begin
  pub context : context_length_placed p s ≡ length t.context
  pub stands : (q : Place) → p ≡ Ok q → AtPlace s q.from q.end

-- an entry that is refused: there is no part and no context
abbrev refused_with : List ℕ → Told
refused_with answer = record { answer = answer; start = 0; part = []; begin = 0; context = [] }

placing_none : (s : List ℕ) (r : Refusal) → Placing s (Err r) (refused_with (refusal_numbers r))
unfolding entry_placed start_placed length_placed context_start_placed context_length_placed
placing_none s r =
    record { entry = refl; start = refl; long = refl; begin = refl; context = refl; stands = λ q e. absurd (let z : ◌≡◌ {A = ℕ} 0 1 = cc in omega arith) }

module _ (s : List ℕ) (i n : ℕ) (w : SoundAt s n) where
  -- the bytes from entry i on
  abbrev from : List ℕ
  from = entries_from i (pdu_type s) (data_of s n)

  rest_of : rest_by (Sound n) s i ≡ cond (has_entry (pdu_type s) (message_count s) i) (length from) 0
  unfolding rest_by message_rest data_rest has_entry
  rest_of = rw (type_take n s w.low, count_take n s w.low, from_rest i (pdu_type s) (data_of s n)) (go (eqb (pdu_type s) keep_alive) (ltb i (message_count s)))
    where
      r : ℕ
      r = rest_from i (pdu_type s) (data_of s n)

      go : (a b : Bool) → cond a 0 (cond b r 0) ≡ cond (cond a false b) r 0
      go true b = refl
      go false b = refl

  -- the walk finds none
  none : has_entry (pdu_type s) (message_count s) i ≡ false → rest_by (Sound n) s i ≡ 0
  none h = rest_of ∙ rw h

  module _ (h : has_entry (pdu_type s) (message_count s) i ≡ true) where
    abbrev size : ℕ
    size = entry_size (pdu_type s) from

    some : rest_by (Sound n) s i ≡ length from
    some = rest_of ∙ rw h

    least : least_entry (pdu_type s) ≤ size
    unfolding entry_bytes
    least = omega (arith, entry_low s n w i h, length-take-le (entry_size (pdu_type s) from) from (size_fits (pdu_type s) from))

    fits : size ≤ length from
    fits = size_fits (pdu_type s) from

    -- the size that it gives is its size
    gives : be32_at (drop (n - length from) s) 0 ≡ size
    gives =
        let u = from in
        let e = end_placed s n u w.low w.high (from_ends i (pdu_type s) (data_of s n)) in
        let z = entry_at_lem (pdu_type s) u (λ q. omega (arith, least, (least_holds (pdu_type s)).0)) in
        sym (be32_take (drop (n - length u) s) 0 (length u) (omega (arith, least, fits, (least_holds (pdu_type s)).0))) ∙ ap (λ (l : List ℕ). be32_at l 0) e ∙ sym z.size

    -- what is told of entry i, which is there
    abbrev told : Told
    told =
        record {
          answer = fields_of (pdu_type s) (entry_at s n i);
          start = (n - length from) + parameter_offset (pdu_type s) (entry_at s n i);
          part = parameters_of (pdu_type s) (entry_at s n i);
          begin = cond (eqb (pdu_type s) notification) ((n - length from) + context_place) 0;
          context = context_of (pdu_type s) (entry_at s n i);
        }

    -- the bytes between are the entry's
    same : between s (n - length from) ((n - length from) + size) ≡ entry_at s n i
    unfolding entry_bytes
    same =
        let a = n - length from in
        let e : (a + size) - a ≡ size = omega arith in
        let there = entry_stands s n i w in
        rw e (rw (length-take-le size from fits) at there.there)

    entry_long : length (entry_at s n i) ≡ size
    unfolding entry_bytes
    entry_long = length-take-le size from fits

    placing_some : Placing s (Ok (record { from = n - length from; end = (n - length from) + size })) told
    unfolding entry_placed start_placed length_placed context_start_placed context_length_placed parameters_of
    placing_some =
        let a = n - length from in
        let k = pdu_type s in
        let e = entry_at s n i in
        let l = entry_long in
        let o = entry_start s n w i h in
        let f = entries_fit s n i w in
        record {
          entry = ap (fields_of k) same;
          start = ap (λ (x : List ℕ). a + parameter_offset k x) same;
          long = rw same (omega (arith, length-drop (parameter_offset k e) e, l, o));
          begin = refl;
          context = ap (context_count k) same ∙ sym (context_length k e o);
          stands = λ x q.
              let p : a ≡ x.from = cc in
              let z : a + size ≡ x.end = cc in
              rw (← p, ← z) (record { long = omega (arith, w.low, w.high); low = rw same (omega (arith, l, o)); high = omega (arith, w.high, fits, f.0); near = omega (arith, f.1) });
        }

  -- the place of entry i of a sound message
  placing_in : Placing s (place_at s n (nonzero (rest_by (Sound n) s i))) (record { answer = entry_in s n i; start = part_start_in s n i; part = part_in s n i; begin = context_start_in s n i; context = context_in s n i })
  unfolding entry_in part_start_in part_in context_start_in context_in has_context place_at nonzero
  placing_in = go (has_entry (pdu_type s) (message_count s) i) refl
    where
      go : (b : Bool) → has_entry (pdu_type s) (message_count s) i ≡ b
          → Placing s (place_at s n (nonzero (rest_by (Sound n) s i)))
          (record {
            answer = cond b (fields_of (pdu_type s) (entry_at s n i)) (no_entry ∷ []);
            start = cond b ((n - length from) + parameter_offset (pdu_type s) (entry_at s n i)) 0;
            part = cond b (parameters_of (pdu_type s) (entry_at s n i)) [];
            begin = cond (b && eqb (pdu_type s) notification) ((n - length from) + context_place) 0;
            context = cond b (context_of (pdu_type s) (entry_at s n i)) [];
          })
      go true h = rw (some h, ne_eqb (length from) 0 (λ q. omega (arith, least h, fits h, (least_holds (pdu_type s)).0)), gives h) (placing_some h)
      go false h = rw (none h) (placing_none s refusal.NoEntry)

  -- what the walk leaves is where an entry may stand
  pub rest_stands : RestStands s n (nonzero (rest_by (Sound n) s i))
  unfolding nonzero
  rest_stands = go (has_entry (pdu_type s) (message_count s) i) refl
    where
      f : (length from ≤ n) × (n ≤ 2049)
      f = entries_fit s n i w

      go : (b : Bool) → has_entry (pdu_type s) (message_count s) i ≡ b → RestStands s n (nonzero (rest_by (Sound n) s i))
      go true h =
          let z : length from ≡ 0 → ⊥ = λ q. omega (arith, least h, fits h, (least_holds (pdu_type s)).0) in
          rw (some h, ne_eqb (length from) 0 z) (record { whole = w.high; short = f.1; entry = omega (arith, f.0, least h, fits h, (least_holds (pdu_type s)).0) })
      go false h = rw (none h) (record { whole = w.high; short = f.1; entry = tt })

placing_by : (s : List ℕ) (i : ℕ) (d : Decision) → decide s ≡ d
    → Placing s (place_by d s i) (record { answer = entry_by d s i; start = part_start_by d s i; part = part_by d s i; begin = context_start_by d s i; context = context_by d s i })
unfolding place_by entry_by part_start_by part_by context_start_by context_by entry_placed start_placed length_placed context_start_placed context_length_placed
placing_by s i Undecided e = placing_none s refusal.Short
placing_by s i (Faulty f n) e = placing_none s (refusal.Fault f)
placing_by s i (Sound n) e = placing_in s i n (sound_at s n e)

-- what is answered of the entry asked for, by its place p
pub placing : (s : List ℕ) (i : ℕ) (p : Result Place Refusal) → p ≡ entry_place s i
    → Placing s p (record { answer = entry_of s i; start = part_start s i; part = part_of s i; begin = context_start s i; context = entry_context s i })
unfolding entry_place entry_of part_start part_of context_start entry_context
placing s i p e = rw e (placing_by s i (decide s) refl)

-- the same by what the place is
module _ (s : List ℕ) (i : ℕ) where
  pub place_stands : (p : Result Place Refusal) → p ≡ entry_place s i → IfOk p (λ q. AtPlace s q.from q.end)
  place_stands (Ok q) e = (placing s i (Ok q) e).stands q refl
  place_stands (Err r) e = tt

  -- what the deciding walk finds
  pub rest_found : (d : Decision) (n : ℕ) (r : Option ℕ) → d ≡ decide s → d ≡ Sound n → r ≡ nonzero (rest_by (decide s) s i) → RestStands s n r
  rest_found d n r e f g =
      let h : decide s ≡ Sound n = sym e ∙ f in
      rw (g, h) (rest_stands s i n (sound_at s n h))

  pub place_found : (d : Decision) (n : ℕ) (r : Option ℕ) (p : Result Place Refusal) → d ≡ decide s → d ≡ Sound n → r ≡ nonzero (rest_by (decide s) s i)
      → p ≡ place_at s n r → IfOk p (λ q. AtPlace s q.from q.end)
  unfolding entry_place place_by
  place_found d n r p e f g q =
      let h : decide s ≡ Sound n = sym e ∙ f in
      place_stands p (q ∙ rw (g, h) refl)

  pub entry_ok : (p : Place) → Ok p ≡ entry_place s i → fields_of (pdu_type s) (between s p.from p.end) ≡ entry_of s i
  unfolding entry_placed
  entry_ok p e = (placing s i (Ok p) e).entry

  pub entry_err : (r : Refusal) → Err r ≡ entry_place s i → refusal_numbers r ≡ entry_of s i
  unfolding entry_placed
  entry_err r e = (placing s i (Err r) e).entry

  pub part_ok : (p : Place) (o : ℕ) → Ok p ≡ entry_place s i → o ≡ parameter_offset (pdu_type s) (between s p.from p.end)
      → (p.from + o ≡ part_start s i) × (p.end - (p.from + o) ≡ length (part_of s i))
  unfolding start_placed length_placed
  part_ok p o e q = let w = placing s i (Ok p) e in rw q (w.start, w.long)

  pub part_err : (r : Refusal) → Err r ≡ entry_place s i → (0 ≡ part_start s i) × (0 ≡ length (part_of s i))
  unfolding start_placed length_placed
  part_err r e = let w = placing s i (Err r) e in (w.start, w.long)

  pub context_ok : (p : Place) → Ok p ≡ entry_place s i
      → (cond (eqb (pdu_type s) notification) (p.from + context_place) 0 ≡ context_start s i) × (context_count (pdu_type s) (between s p.from p.end) ≡ length (entry_context s i))
  unfolding context_start_placed context_length_placed
  context_ok p e = let w = placing s i (Ok p) e in (w.begin, w.context)

  pub context_err : (r : Refusal) → Err r ≡ entry_place s i → (0 ≡ context_start s i) × (0 ≡ length (entry_context s i))
  unfolding context_start_placed context_length_placed
  context_err r e = let w = placing s i (Err r) e in (w.begin, w.context)

-- Where an entry's part and its context start. Assumes nothing.
use Prim.Native.Nat.{ℕ, zero, suc, ◌+◌, ◌-◌, ◌≤◌}
use mathlib.Core.Path.{◌≡◌, refl, sym, ap, ◌∙◌}
use mathlib.Core.List.{List, [], ◌∷◌}
use mathlib.Core.Bool.{Bool, cond, true, false, ◌&&◌}
use native.Mathlib.Omega.{arith}
use native.Mathlib.Nat.{sub-zero, add-zero}
use lib.ListN.{length, take, drop, length-drop}
use lib.Seq.{take-take, drop-drop, take_all, length-take-le}
use lib.Dec.{ltb, eqb}
use borrow.Author.Tests.{eqb-true, eqb-false}
use Rattle.laws.proofs.Parts.{drop_take}
use Rattle.octets.specs.Numbers.{be16_at}
use Rattle.frame.specs.Limits.{header_end, notification, least_command, least_notification, least_response}
use Rattle.frame.specs.Places.{context_count_place, context_place}
use Rattle.frame.specs.Header.{pdu_type, message_count}
use Rattle.frame.specs.Entry.{least_entry, context_count, parameter_offset, entry_size}
use Rattle.frame.specs.Decide.{decide}
use Rattle.frame.specs.Scaffold.{SoundAt}
use Rattle.frame.specs.declared.Decision.{Decision}
use Rattle.frame.specs.declared.Decision.TheVariants.{Undecided, Faulty, Sound}
use Rattle.frame.proofs.Headers.{sound_header}
use Rattle.frame.proofs.Entries.{entry_at_lem}
use Rattle.frame.proofs.Sounds.{sound_at}
use Rattle.fields.specs.Place.{entries_from, entry_bytes, parameters_of, context_of}
use Rattle.reader.specs.Read.{data_of}
use Rattle.reader.specs.Entry.{has_entry, entry_at, part_in, part_by, part_of, part_start_in, part_start_by, part_start, PartStands}
use Rattle.reader.specs.Context.{context_in, context_by, entry_context, has_context, context_start_in, context_start_by, context_start, ContextStands}
use Rattle.reader.proofs.Sounds.{entry_start}

-- what stands at the end of t
pub record Ends (u t : List ℕ) : Type 0 where
  pub fits : length u ≤ length t
  pub there : drop (length t - length u) t ≡ u

ends_of : (j : ℕ) (t : List ℕ) → drop (length t - length (drop j t)) t ≡ drop j t
ends_of zero t =
    let e : length t - length t ≡ 0 = omega arith in
    ap (λ (m : ℕ). drop m t) e
ends_of (suc j) [] = refl
ends_of (suc j) (x ∷ t) =
    let e : length (x ∷ t) - length (drop j t) ≡ suc (length t - length (drop j t)) = omega (arith, length-drop j t) in
    ap (λ (m : ℕ). drop m (x ∷ t)) e ∙ ends_of j t

pub ends_self : (t : List ℕ) → Ends t t
ends_self t = record { fits = omega arith; there = ends_of 0 t }

-- the end of what is left is the end of the whole
pub ends_drop : (u : List ℕ) (j : ℕ) (t : List ℕ) → Ends u (drop j t) → Ends u t
ends_drop u j t w =
    let m = j + (length (drop j t) - length u) in
    let e : drop m t ≡ u = sym (drop-drop (length (drop j t) - length u) j t) ∙ w.there in
    record { fits = omega (arith, w.fits, length-drop j t); there = rw (← e) (ends_of m t) }

pub from_ends : (i k : ℕ) (t : List ℕ) → Ends (entries_from i k t) t
unfolding entries_from
from_ends zero k t = ends_self t
from_ends (suc i) k t = ends_drop (entries_from i k (drop (entry_size k t) t)) (entry_size k t) t (from_ends i k (drop (entry_size k t) t))

pub size_fits : (k : ℕ) (t : List ℕ) → entry_size k t ≤ length t
size_fits k t = go (eqb (entry_size k t) 0) refl
  where
    go : (b : Bool) → eqb (entry_size k t) 0 ≡ b → entry_size k t ≤ length t
    go true e = omega (arith, eqb-true (entry_size k t) 0 e)
    go false e = let w = entry_at_lem k t (eqb-false (entry_size k t) 0 e) in omega (arith, w.size, w.high)

-- the data from entry i on is no longer than the message, which is no longer than 2,049 bytes
pub entries_fit : (s : List ℕ) (n i : ℕ) → SoundAt s n → (length (entries_from i (pdu_type s) (data_of s n)) ≤ n) × (n ≤ 2049)
entries_fit s n i w =
    let t = take n s in
    omega (arith, (from_ends i (pdu_type s) (data_of s n)).fits, length-drop header_end t, length-take-le n s w.high, w.size, (sound_header s w.header).high)

-- the end of a message's data, found from the message's start
pub end_placed : (s : List ℕ) (n : ℕ) (u : List ℕ) → header_end ≤ n → n ≤ length s → Ends u (data_of s n) → take (length u) (drop (n - length u) s) ≡ u
end_placed s n u low high w =
    let m = n - length u in
    let t = take n s in
    let c : length (data_of s n) ≡ n - header_end = omega (arith, length-drop header_end t, length-take-le n s high) in
    let e : header_end + (length (data_of s n) - length u) ≡ m = omega (arith, c, w.fits) in
    let d : n - m ≡ length u = omega (arith, c, w.fits) in
    -- the end of the message, and the end of the caller's bytes cut to its length
    let a : drop m t ≡ u = ap (λ (j : ℕ). drop j t) (sym e) ∙ sym (drop-drop (length (data_of s n) - length u) header_end t) ∙ w.there in
    ap (λ (j : ℕ). take j (drop m s)) (sym d) ∙ sym (drop_take m n s) ∙ a

-- an entry from place k of it on: its parameters, or all of it
pub placed : (s : List ℕ) (n k size : ℕ) (u : List ℕ) → header_end ≤ n → n ≤ length s → size ≤ length u → Ends u (data_of s n)
    → take (size - k) (drop ((n - length u) + k) s) ≡ drop k (take size u)
placed s n k size u low high small w =
    let m = n - length u in
    let b = end_placed s n u low high w in
    ap (λ (l : List ℕ). take (size - k) l) (sym (drop-drop k m s)) ∙ sym (drop_take k size (drop m s))
    ∙ ap (λ (l : List ℕ). drop k l) (sym (take-take size (length u) (drop m s) small) ∙ ap (λ (l : List ℕ). take size l) b)

-- an entry that is there: from its first byte on, the caller's bytes are the entry's
pub record EntryStands (s : List ℕ) (a : ℕ) (e : List ℕ) : Type 0 where
  pub there : take (length e) (drop a s) ≡ e
  pub within : a + length e ≤ length s

pub entry_stands : (s : List ℕ) (n i : ℕ) → SoundAt s n → EntryStands s (n - length (entries_from i (pdu_type s) (data_of s n))) (entry_at s n i)
unfolding entry_bytes
entry_stands s n i w =
    let u = entries_from i (pdu_type s) (data_of s n) in
    let size = entry_size (pdu_type s) u in
    let small : size ≤ length u = size_fits (pdu_type s) u in
    let l = length-take-le size u small in
    record {
      there = rw l (rw (sub-zero, add-zero) at (placed s n 0 size u w.low w.high small (from_ends i (pdu_type s) (data_of s n))));
      within = omega (arith, l, small, (entries_fit s n i w).0, w.high);
    }

-- a part from its start on, and where it ends
pub record Stands (s : List ℕ) (start : ℕ) (part : List ℕ) : Type 0 where
  pub there : take (length part) (drop start s) ≡ part
  pub within : start + length part ≤ length s

stands_none : (s : List ℕ) → Stands s 0 []
stands_none s = record { there = refl; within = omega arith }

-- n bytes of an entry from place f of it on
stands_part : (s : List ℕ) (a : ℕ) (e : List ℕ) (f n : ℕ) → EntryStands s a e → f + n ≤ length e → Stands s (a + f) (take n (drop f e))
stands_part s a e f n w h =
    let x = drop a s in
    let l : length (take n (drop f e)) ≡ n = length-take-le n (drop f e) (omega (arith, length-drop f e)) in
    let p : drop f e ≡ take (length e - f) (drop f x) = ap (λ (t : List ℕ). drop f t) (sym w.there) ∙ drop_take f (length e) x in
    let q : take n (drop f e) ≡ take n (drop f x) = ap (λ (t : List ℕ). take n t) p ∙ take-take n (length e - f) (drop f x) (omega arith) in
    record {
      there = rw l (ap (λ (t : List ℕ). take n t) (sym (drop-drop f a s)) ∙ sym q);
      within = omega (arith, l, w.within);
    }

-- its parameters are all from their offset on
stands_parameters : (s : List ℕ) (a : ℕ) (k : ℕ) (e : List ℕ) → EntryStands s a e → parameter_offset k e ≤ length e → Stands s (a + parameter_offset k e) (parameters_of k e)
unfolding parameters_of
stands_parameters s a k e w h =
    let o = parameter_offset k e in
    let r : take (length (drop o e)) (drop o e) ≡ drop o e = take_all (length (drop o e)) (drop o e) (omega arith) in
    rw r at (stands_part s a e o (length (drop o e)) w (omega (arith, length-drop o e)))

-- its context is what it counts; only a notification has one
stands_context : (s : List ℕ) (a : ℕ) (k : ℕ) (e : List ℕ) → EntryStands s a e → parameter_offset k e ≤ length e
    → Stands s (cond (eqb k notification) (a + context_place) 0) (context_of k e)
unfolding context_of context_count parameter_offset least_entry
stands_context s a k e w h = go (ltb k notification) (eqb k notification) h
  where
    go : (x b : Bool) → cond x least_command (cond b least_notification least_response) + cond b (be16_at e context_count_place) 0 ≤ length e
        → Stands s (cond b (a + context_place) 0) (take (cond b (be16_at e context_count_place) 0) (drop context_place e))
    go x false h = stands_none s
    go true true h = stands_part s a e context_place (be16_at e context_count_place) w (omega arith)
    go false true h = stands_part s a e context_place (be16_at e context_count_place) w (omega arith)

-- as long as is counted
pub context_length : (k : ℕ) (e : List ℕ) → parameter_offset k e ≤ length e → length (context_of k e) ≡ context_count k e
unfolding context_of parameter_offset context_count least_entry
context_length k e h = go (ltb k notification) (eqb k notification) h
  where
    go : (x b : Bool) → cond x least_command (cond b least_notification least_response) + cond b (be16_at e context_count_place) 0 ≤ length e
        → length (take (cond b (be16_at e context_count_place) 0) (drop context_place e)) ≡ cond b (be16_at e context_count_place) 0
    go x false h = refl
    go true true h = length-take-le (be16_at e context_count_place) (drop context_place e) (omega (arith, length-drop context_place e))
    go false true h = length-take-le (be16_at e context_count_place) (drop context_place e) (omega (arith, length-drop context_place e))

-- both, of entry i of a sound message, and by what the bytes decide
record Both (s : List ℕ) (start : ℕ) (part : List ℕ) (begin : ℕ) (context : List ℕ) : Type 0 where
  pub parts : Stands s start part
  pub contexts : Stands s begin context

both_none : (s : List ℕ) → Both s 0 [] 0 []
both_none s = record { parts = stands_none s; contexts = stands_none s }

both_in : (s : List ℕ) (n i : ℕ) → SoundAt s n → Both s (part_start_in s n i) (part_in s n i) (context_start_in s n i) (context_in s n i)
unfolding part_start_in part_in context_start_in context_in has_context
both_in s n i w = go (has_entry (pdu_type s) (message_count s) i) refl
  where
    k : ℕ
    k = pdu_type s

    e : List ℕ
    e = entry_at s n i

    a : ℕ
    a = n - length (entries_from i (pdu_type s) (data_of s n))

    go : (b : Bool) → has_entry (pdu_type s) (message_count s) i ≡ b
        → Both s (cond b (a + parameter_offset k e) 0) (cond b (parameters_of k e) []) (cond (b && eqb k notification) (a + context_place) 0) (cond b (context_of k e) [])
    go true h =
        let l = entry_start s n w i h in
        let there = entry_stands s n i w in
        record { parts = stands_parameters s a k e there l; contexts = stands_context s a k e there l }
    go false h = both_none s

both_by : (s : List ℕ) (i : ℕ) (d : Decision) → decide s ≡ d → Both s (part_start_by d s i) (part_by d s i) (context_start_by d s i) (context_by d s i)
unfolding part_start_by part_by context_start_by context_by
both_by s i Undecided e = both_none s
both_by s i (Faulty f n) e = both_none s
both_by s i (Sound n) e = both_in s n i (sound_at s n e)

both : (s : List ℕ) (i : ℕ) → Both s (part_start s i) (part_of s i) (context_start s i) (entry_context s i)
unfolding part_start part_of context_start entry_context
both s i = both_by s i (decide s) refl

pub part_stands : PartStands
part_stands = record { there = λ s i. (both s i).parts.there; within = λ s i. (both s i).parts.within }

pub context_stands : ContextStands
context_stands = record { there = λ s i. (both s i).contexts.there; within = λ s i. (both s i).contexts.within }

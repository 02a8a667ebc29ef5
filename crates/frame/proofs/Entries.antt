-- Laws of the entry and of the entries of some data. Assumes nothing.
use Prim.Native.Nat.{ℕ, zero, suc, ◌+◌, ◌-◌, ◌*◌, ◌≤◌, ◌<◌}
use mathlib.Core.Path.{◌≡◌, refl, sym}
use mathlib.Core.List.{List}
use mathlib.Core.Bool.{Bool, cond, true, false, false≢true, ◌||◌}
use native.Mathlib.Omega.{arith}
use lib.Dec.{ltb, eqb}
use lib.ListN.{length, take, drop, get_or, length-drop}
use borrow.Author.Tests.{eq-eqb, ne_eqb, lt-ltb, le-ltb, ltb-false, eqb-true, eqb-false}
use Rattle.laws.proofs.Conds.{cond_left, cond_right}
use Rattle.octets.specs.Numbers.{be16_at, be32_at}
use Rattle.octets.proofs.Digits.{be16_take}
use Rattle.frame.specs.Limits.{notification, response, least_command, least_notification, least_response, greatest_context}
use Rattle.frame.specs.Places.{context_count_place}
use Rattle.std.specs.Prelude.{Some, None}
use Rattle.std.specs.Bool.{then_some}
use Rattle.frame.specs.Scaffold.{nonzero}
use Rattle.frame.specs.Entry.{least_entry, context_count, parameter_offset, is_context_bad, count_place, least_count, count_fits, entry_fits, fits_at, entry_size, entries_fill, well_formed}

-- the parameter count stands before the parameters, behind the size
pub least_holds : (k : ℕ) → (10 ≤ least_entry k) × (least_entry k ≤ 23) × (count_place k < least_entry k)
unfolding least_entry count_place
least_holds k = go (ltb k 2) (eqb k 2)
  where
    go : (a b : Bool)
        → (10 ≤ cond a 17 (cond b 23 10)) × (cond a 17 (cond b 23 10) ≤ 23) × (cond a 16 (cond b 12 9) < cond a 17 (cond b 23 10))
    go true b = omega arith
    go false true = omega arith
    go false false = omega arith

-- the parameters start at the least entry or behind it, and there where there is no context
pub offset_low : (k : ℕ) (e : List ℕ) → least_entry k ≤ parameter_offset k e
unfolding parameter_offset
offset_low k e = omega arith

pub offset_other : (k : ℕ) (e : List ℕ) → (k ≡ notification → ⊥) → parameter_offset k e ≡ least_entry k
unfolding parameter_offset context_count
offset_other k e n = rw (ne_eqb k notification n) (omega arith)

-- a notification's stand behind what it counts
pub offset_notification : (e : List ℕ) → parameter_offset notification e ≡ least_notification + be16_at e context_count_place
unfolding parameter_offset context_count least_entry
offset_notification e = refl

-- the same context's count, the same offset
pub offset_same : (k : ℕ) (t u : List ℕ) → be16_at t context_count_place ≡ be16_at u context_count_place
    → (context_count k t ≡ context_count k u) × (parameter_offset k t ≡ parameter_offset k u)
unfolding parameter_offset context_count
offset_same k t u e = rw e (refl, refl)

-- which the front of an entry has already
pub offset_take : (k n : ℕ) (t : List ℕ) → least_entry k ≤ n
    → (context_count k (take n t) ≡ context_count k t) × (parameter_offset k (take n t) ≡ parameter_offset k t)
unfolding parameter_offset context_count least_entry
offset_take k n t h = go (ltb k notification) (eqb k notification) refl h
  where
    go : (a b : Bool) → eqb k notification ≡ b → cond a least_command (cond b least_notification least_response) ≤ n
        → (cond b (be16_at (take n t) context_count_place) 0 ≡ cond b (be16_at t context_count_place) 0)
        × (least_entry k + cond b (be16_at (take n t) context_count_place) 0 ≡ least_entry k + cond b (be16_at t context_count_place) 0)
    go a false e h = (refl, refl)
    go true true e h = rw (be16_take t context_count_place n (omega arith)) (refl, refl)
    go false true e h = rw (be16_take t context_count_place n (omega arith)) (refl, refl)

-- a context that may be, and whose entry may reach behind it
pub context_good : (k : ℕ) (t : List ℕ) → is_context_bad k t ≡ false → (context_count k t ≤ greatest_context) × (parameter_offset k t ≤ length t)
unfolding is_context_bad
context_good k t e = go (ltb greatest_context (context_count k t)) (ltb (length t) (parameter_offset k t)) refl refl e
  where
    go : (a b : Bool) → ltb greatest_context (context_count k t) ≡ a → ltb (length t) (parameter_offset k t) ≡ b → (a || b) ≡ false
        → (context_count k t ≤ greatest_context) × (parameter_offset k t ≤ length t)
    go true b p q e = absurd (false≢true (sym e))
    go false true p q e = absurd (false≢true (sym e))
    go false false p q e = (ltb-false greatest_context (context_count k t) p, ltb-false (length t) (parameter_offset k t) q)

pub context_make : (k : ℕ) (t : List ℕ) → context_count k t ≤ greatest_context → parameter_offset k t ≤ length t → is_context_bad k t ≡ false
unfolding is_context_bad
context_make k t c o = rw (le-ltb greatest_context (context_count k t) c, le-ltb (length t) (parameter_offset k t) o)

-- an entry that fits ends behind its parameter offset, and its parameters are there
pub fits_within : (k offset size count : ℕ) (part : List ℕ) → entry_fits k offset size count part ≡ true → (offset ≤ size) × (size ≤ offset + length part)
unfolding entry_fits
fits_within k offset size count part e =
    let p = cond_right (ltb size offset) false _ true e false≢true in
    let q = cond_right (ltb (length part) (size - offset)) false _ true p.1 false≢true in
    omega (arith, ltb-false size offset p.0, ltb-false (length part) (size - offset) q.0)

-- and its count goes with them
pub fits_count : (k offset size count : ℕ) (part : List ℕ) → entry_fits k offset size count part ≡ true → count_fits (least_count k) count (size - offset) ≡ true
unfolding entry_fits
fits_count k offset size count part e =
    let p = cond_right (ltb size offset) false _ true e false≢true in
    (cond_right (ltb (length part) (size - offset)) false _ true p.1 false≢true).1

-- what a well formed entry at the front of t says of its size and its context
pub record EntryAt (k : ℕ) (t : List ℕ) : Type 0 where
  pub size : entry_size k t ≡ be32_at t 0
  pub low : least_entry k ≤ be32_at t 0
  pub start : parameter_offset k t ≤ be32_at t 0
  pub high : be32_at t 0 ≤ length t
  pub context : context_count k t ≤ greatest_context
  pub fits : fits_at k t ≡ true

pub entry_at_lem : (k : ℕ) (t : List ℕ) → (entry_size k t ≡ 0 → ⊥) → EntryAt k t
unfolding entry_size
entry_at_lem k t nz =
    let p = cond_right (ltb (length t) (least_entry k)) 0 _ (entry_size k t) refl (λ q. nz (sym q)) in
    let b = cond_right (is_context_bad k t) 0 _ (entry_size k t) p.1 (λ q. nz (sym q)) in
    let q = cond_left (fits_at k t) (be32_at t 0) 0 (entry_size k t) b.1 (λ q. nz (sym q)) in
    let o = parameter_offset k t in
    let w = fits_within k o (be32_at t 0) _ _ q.0 in
    let g = context_good k t b.0 in
    record {
      size = sym q.1;
      low = omega (arith, w.0, offset_low k t);
      start = w.0;
      high = omega (arith, w.1, g.1, length-drop o t);
      context = g.0;
      fits = q.0;
    }

-- the code's answer: the size, where what is said fits
pub entry_counted : (k n : ℕ) (t : List ℕ) → n ≡ least_entry k → n ≤ length t → is_context_bad k t ≡ false
    → then_some (fits_at k t) (be32_at t 0) ≡ nonzero (entry_size k t)
unfolding entry_size nonzero
entry_counted k n t q l b = simp (le-ltb (length t) (least_entry k) (omega arith), b) (go (fits_at k t) refl)
  where
    go : (f : Bool) → fits_at k t ≡ f → then_some f (be32_at t 0) ≡ cond (eqb (cond f (be32_at t 0) 0) 0) None (Some (cond f (be32_at t 0) 0))
    go true e =
        let w = fits_within k (parameter_offset k t) (be32_at t 0) _ _ e in
        rw (ne_eqb (be32_at t 0) 0 (λ z. omega (arith, w.0, offset_low k t, (least_holds k).0)))
    go false e = refl

-- and what makes one
pub entry_make : (k : ℕ) (t : List ℕ) → parameter_offset k t ≤ length t → context_count k t ≤ greatest_context → fits_at k t ≡ true → entry_size k t ≡ be32_at t 0
unfolding entry_size
entry_make k t o c f = rw (le-ltb (length t) (least_entry k) (omega (arith, o, offset_low k t)), context_make k t c o, f)

-- entries that fill some data: the first, and those after it
pub entries_first : (n k : ℕ) (t : List ℕ) → entries_fill (suc n) k t ≡ true
    → (entry_size k t ≡ 0 → ⊥) × (entries_fill n k (drop (entry_size k t) t) ≡ true)
unfolding entries_fill
entries_first n k t e =
    let p = cond_right (eqb (entry_size k t) 0) false _ true e false≢true in
    (eqb-false _ _ p.0, p.1)

pub size_within : (k : ℕ) (t : List ℕ) → (entry_size k t ≡ 0 → ⊥) → entry_size k t ≤ length t
size_within k t nz = let w = entry_at_lem k t nz in omega (arith, w.size, w.high)

-- as the code finds its parts
pub entry_told : (k l o z a : ℕ) (p t : List ℕ) (f : Bool) → l ≡ least_entry k → l ≤ length t → is_context_bad k t ≡ false
    → o ≡ parameter_offset k t → z ≡ be32_at t 0 → a ≡ count_place k → p ≡ drop o t → f ≡ entry_fits k o z (get_or t a 0) p
    → then_some f z ≡ nonzero (entry_size k t)
entry_told k l o z a p t f el h b eo ez ea ep ef = rw (ef, ep, eo, ez, ea) (entry_counted k l t el h b)

-- and it reaches no further than the bytes
pub counted_within : (k m : ℕ) (t : List ℕ) → Some m ≡ nonzero (entry_size k t) → m ≤ length t
unfolding nonzero
counted_within k m t e = go (eqb (entry_size k t) 0) refl e
  where
    go : (b : Bool) → eqb (entry_size k t) 0 ≡ b → Some m ≡ cond b None (Some (entry_size k t)) → m ≤ length t
    go true q z = absurd (let y : ◌≡◌ {A = ℕ} 0 1 = cc in omega arith)
    go false q z = let y : m ≡ entry_size k t = cc in omega (arith, size_within k t (eqb-false (entry_size k t) 0 q))

-- exactly one entry: its size is its length
pub one_size : (k : ℕ) (e : List ℕ) → entries_fill 1 k e ≡ true → entry_size k e ≡ length e
unfolding entries_fill
one_size k e f =
    let p = entries_first 0 k e f in
    omega (arith, size_within k e p.0, eqb-true (length (drop (entry_size k e) e)) 0 p.1, length-drop (entry_size k e) e)

-- a well formed entry: its type, and one entry of it
pub well_make : (kind : ℕ) (e : List ℕ) → kind ≤ response → entries_fill 1 kind e ≡ true → well_formed kind e ≡ true
unfolding well_formed
well_make kind e k f = simp (le-ltb response kind k, f)

pub well_kind : (kind : ℕ) (e : List ℕ) → well_formed kind e ≡ true → (kind ≤ response) × (entries_fill 1 kind e ≡ true)
unfolding well_formed
well_kind kind e w =
    let p = cond_right (ltb response kind) false (entries_fill 1 kind e) true w false≢true in
    (ltb-false response kind p.0, p.1)

-- no more entries than a tenth of the bytes
pub entries_few : (n k : ℕ) (t : List ℕ) → entries_fill n k t ≡ true → n * 10 ≤ length t
entries_few zero k t e = omega arith
entries_few (suc n) k t e =
    let p = entries_first n k t e in
    let w = entry_at_lem k t p.0 in
    let h = entries_few n k (drop (entry_size k t) t) p.1 in
    omega (arith, length-drop (entry_size k t) t, (least_holds k).0, w.low, w.high, w.size)

-- the least entry, by type
pub least_command_lem : (k : ℕ) → k < notification → least_entry k ≡ least_command
unfolding least_entry
least_command_lem k h = simp (lt-ltb k notification h)

pub least_notification_lem : (k : ℕ) → k ≡ notification → least_entry k ≡ least_notification
unfolding least_entry
least_notification_lem k h = simp (le-ltb k notification (omega arith), eq-eqb k notification h)

pub least_response_lem : (k : ℕ) → notification < k → least_entry k ≡ least_response
unfolding least_entry
least_response_lem k h = simp (le-ltb k notification (omega arith), ne_eqb k notification (λ e. omega arith))

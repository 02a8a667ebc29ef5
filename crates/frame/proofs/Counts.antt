-- An entry's parameter count tells whether it has parameter bytes. Assumes nothing.
use Prim.Native.Nat.{ℕ, ◌-◌, ◌<◌}
use mathlib.Core.Path.{◌≡◌, refl, ap}
use mathlib.Core.List.{List, [], ◌∷◌, map}
use mathlib.Core.Bool.{Bool, true, false, false≢true}
use native.Mathlib.Omega.{arith}
use lib.Dec.{ltb, eqb}
use lib.ListN.{length, drop, get_or, length-drop}
use borrow.Author.Tests.{eq-eqb, ne_eqb, eqb-true, eqb-false}
use Rattle.laws.proofs.Conds.{cond_left, cond_right}
use Rattle.laws.proofs.Parts.{nil_of}
use Rattle.octets.specs.Numbers.{be16_at, be32_at, bytes32}
use Rattle.octets.specs.Zeros.{zeros}
use Rattle.frame.specs.Limits.{notification, response}
use Rattle.frame.specs.Entry.{least_entry, context_count, parameter_offset, is_context_bad, count_place, least_count, count_fits, entry_fits, entry_size, entries_fill, well_formed}
use Rattle.frame.specs.Counts.{count_given, well_rows, rows_from_none, rows_from_one, CountTells}
use Rattle.frame.proofs.Entries.{entry_at_lem, entries_first, fits_count, one_size, well_kind}

-- a count that fits its bytes: the least with none, and none with the least
fits_none : (least count bytes : ℕ) → count_fits least count bytes ≡ true → count ≡ least → bytes ≡ 0
unfolding count_fits
fits_none least count bytes e q =
    let p = cond_right (ltb count least) false _ true e false≢true in
    eqb-true bytes 0 (rw (eq-eqb count least q) at p.1)

fits_bare : (least count bytes : ℕ) → count_fits least count bytes ≡ true → bytes ≡ 0 → count ≡ least
unfolding count_fits
fits_bare least count bytes e z =
    let p = cond_right (ltb count least) false _ true e false≢true in
    eqb-true count least (cond_left (eqb count least) _ _ true (rw z at p.1) false≢true).0

-- the entry at the front of t: its count and its size less its parameter offset
count_fits_at : (k : ℕ) (t : List ℕ) → (entry_size k t ≡ 0 → ⊥) → count_fits (least_count k) (count_given k t) (be32_at t 0 - parameter_offset k t) ≡ true
count_fits_at k t nz = fits_count k (parameter_offset k t) (be32_at t 0) (get_or t (count_place k) 0) (drop (parameter_offset k t) t) (entry_at_lem k t nz).fits

-- what a well formed entry has of both
record Entire (k : ℕ) (e : List ℕ) : Type 0 where
  pub fits : count_fits (least_count k) (count_given k e) (be32_at e 0 - parameter_offset k e) ≡ true
  pub long : be32_at e 0 ≡ length e

entire : (k : ℕ) (e : List ℕ) → well_formed k e ≡ true → Entire k e
entire k e w =
    let f = (well_kind k e w).1 in
    let nz = (entries_first 0 k e f).0 in
    record { fits = count_fits_at k e nz; long = omega (arith, (entry_at_lem k e nz).size, one_size k e f) }

none : (k : ℕ) (e : List ℕ) → well_formed k e ≡ true → count_given k e ≡ least_count k → drop (parameter_offset k e) e ≡ []
none k e w q =
    let b = entire k e w in
    let z = fits_none (least_count k) (count_given k e) (be32_at e 0 - parameter_offset k e) b.fits q in
    nil_of (drop (parameter_offset k e) e) (omega (arith, z, b.long, length-drop (parameter_offset k e) e))

bare : (k : ℕ) (e : List ℕ) → well_formed k e ≡ true → drop (parameter_offset k e) e ≡ [] → count_given k e ≡ least_count k
bare k e w q =
    let b = entire k e w in
    let l : length (drop (parameter_offset k e) e) ≡ 0 = ap length q in
    fits_bare (least_count k) (count_given k e) (be32_at e 0 - parameter_offset k e) b.fits (omega (arith, l, b.long, length-drop (parameter_offset k e) e))

announced : (k : ℕ) (t : List ℕ) → be32_at t 0 ≡ parameter_offset k t → least_count k < count_given k t → entry_size k t ≡ 0
announced k t z h = go (eqb (entry_size k t) 0) refl
  where
    go : (b : Bool) → eqb (entry_size k t) 0 ≡ b → entry_size k t ≡ 0
    go true e = eqb-true (entry_size k t) 0 e
    go false e =
        let f = count_fits_at k t (eqb-false (entry_size k t) 0 e) in
        let c = fits_bare (least_count k) (count_given k t) (be32_at t 0 - parameter_offset k t) f (omega (arith, z)) in
        absurd (omega (arith, c, h))

others : (k : ℕ) → (k ≡ notification → ⊥) → least_count k ≡ 0
unfolding least_count
others k n = simp (ne_eqb k notification n)

worked : map well_rows (0 ∷ 1 ∷ notification ∷ response ∷ []) ≡ rows_from_none ∷ rows_from_none ∷ rows_from_one ∷ rows_from_none ∷ []
unfolding well_formed entries_fill entry_size is_context_bad parameter_offset context_count entry_fits count_fits least_count least_entry count_place be16_at be32_at bytes32 zeros
worked = refl

least_one : least_count notification ≡ 1
unfolding least_count
least_one = refl

pub count_tells : CountTells
count_tells =
    record { tells = λ k e w. (none k e w, bare k e w); announced = announced; least = least_one; others = others; worked = worked }

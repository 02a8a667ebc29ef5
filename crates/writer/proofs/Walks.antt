-- Entries that fill some data: the same with one more behind, and the first alone. Assumes nothing.
use Prim.Native.Nat.{ℕ, zero, suc, ◌-◌, ◌≤◌, ◌<◌}
use mathlib.Core.Path.{◌≡◌, refl, sym, ap, ◌∙◌}
use mathlib.Core.List.{List, [], ◌∷◌, ◌++◌}
use mathlib.Core.Bool.{true}
use native.Mathlib.Omega.{arith}
use native.Mathlib.Nat.{not-suc-le-zero}
use lib.ListN.{length, take, drop, get_or, length-append, length-drop, get_or-append}
use lib.Seq.{get_or-take, length-take-le, take-append-le, take-append_seam, drop-append-le, take-length}
use borrow.Author.Tests.{eq-eqb, ne_eqb, le-ltb, eqb-true}
use Rattle.laws.proofs.Parts.{nil_of}
use Rattle.octets.specs.Numbers.{be32_at}
use Rattle.octets.proofs.Digits.{be32_append, be32_take}
use Rattle.frame.specs.Entry.{context_count, parameter_offset, count_place, least_count, count_fits, entry_fits, fits_at, entry_size, entries_fill}
use Rattle.frame.proofs.Entries.{EntryAt, entry_at_lem, entry_make, fits_count, size_within, one_size, entries_first, least_holds, offset_take}
use Rattle.fields.specs.Place.{entries_from, entry_bytes}
use Rattle.writer.specs.Round.{entries_of}

-- the entry check, put together
pub fits_make : (k offset size count : ℕ) (part : List ℕ) → offset ≤ size → size - offset ≤ length part
    → count_fits (least_count k) count (size - offset) ≡ true → entry_fits k offset size count part ≡ true
unfolding entry_fits
fits_make k offset size count part low high c = simp (le-ltb size offset low, le-ltb (length part) (size - offset) high, c)

-- bytes with the same size, context's count and count, and long enough for it, begin with an entry of the same size
size_same : (k : ℕ) (t u : List ℕ) → EntryAt k t → be32_at u 0 ≡ be32_at t 0
    → (context_count k u ≡ context_count k t) × (parameter_offset k u ≡ parameter_offset k t)
    → get_or u (count_place k) 0 ≡ get_or t (count_place k) 0 → be32_at t 0 ≤ length u → entry_size k u ≡ be32_at t 0
size_same k t u w b x g h =
    let o = parameter_offset k t in
    let c = fits_count k o (be32_at t 0) (get_or t (count_place k) 0) (drop o t) w.fits in
    let f = fits_make k o (be32_at t 0) (get_or t (count_place k) 0) (drop o u) w.start (omega (arith, length-drop o u)) c in
    let fit : fits_at k u ≡ true = rw (x.1, b, g) f in
    entry_make k u (omega (arith, x.1, w.start)) (omega (arith, x.0, w.context)) fit ∙ b

module _ (k : ℕ) (t : List ℕ) (nz : entry_size k t ≡ 0 → ⊥) where
  size_append : (e : List ℕ) → entry_size k (t ++ e) ≡ entry_size k t
  size_append e =
      let w = entry_at_lem k t nz in
      let l = least_holds k in
      let low = w.low in
      let high = w.high in
      let f = offset_take k (length t) (t ++ e) (omega arith) in
      let x = rw (take-append_seam t e) at f in
      size_same k t (t ++ e) w (be32_append t 0 e (omega arith)) (sym x.0, sym x.1) (get_or-append t e 0 (count_place k) (omega arith)) (omega (arith, length-append t e))
      ∙ sym w.size

  size_take : entry_size k (take (entry_size k t) t) ≡ entry_size k t
  size_take =
      let w = entry_at_lem k t nz in
      let l = least_holds k in
      let low = w.low in
      let high = w.high in
      let z = w.size in
      let x = offset_take k (entry_size k t) t (omega arith) in
      size_same k t (take (entry_size k t) t) w (be32_take t 0 (entry_size k t) (omega arith)) x (get_or-take (entry_size k t) t (count_place k) 0 (omega arith)) (omega (arith, length-take-le (entry_size k t) t (omega arith)))
      ∙ sym z

  -- the first entry by itself is exactly one entry
  pub one_alone : entries_fill 1 k (take (entry_size k t) t) ≡ true
  unfolding entries_fill
  one_alone =
      let z = entry_size k t in
      let l = length-take-le z t (size_within k t nz) in
      rw (size_take) (simp (ne_eqb z 0 nz, eq-eqb (length (drop z (take z t))) 0 (omega (arith, length-drop z (take z t)))))

pub fill_append : (n k : ℕ) (t e : List ℕ) → entries_fill n k t ≡ true → entries_fill 1 k e ≡ true → entries_fill (suc n) k (t ++ e) ≡ true
unfolding entries_fill
fill_append zero k t e a b = rw (nil_of t (eqb-true (length t) 0 a)) b
fill_append (suc n) k t e a b =
    let p = entries_first n k t a in
    let z = entry_size k t in
    rw (size_append k t p.0 e, ne_eqb z 0 p.0, drop-append-le z t e (size_within k t p.0)) (fill_append n k (drop z t) e p.1 b)

-- the first entry, and those after it
first_bytes : (k : ℕ) (t : List ℕ) → entry_bytes 0 k t ≡ take (entry_size k t) t
unfolding entry_bytes entries_from
first_bytes k t = refl

pub entries_append : (n k : ℕ) (t e : List ℕ) → entries_fill n k t ≡ true → entries_fill 1 k e ≡ true
    → entries_of (suc n) k (t ++ e) ≡ entries_of n k t ++ (e ∷ [])
unfolding entries_of entries_fill
entries_append zero k t e a b =
    rw (nil_of t (eqb-true (length t) 0 a)) (ap (λ (x : List ℕ). x ∷ []) (first_bytes k e ∙ rw (one_size k e b) (take-length e)))
entries_append (suc n) k t e a b =
    let p = entries_first n k t a in
    let z = entry_size k t in
    let first : entry_bytes 0 k (t ++ e) ≡ entry_bytes 0 k t =
    first_bytes k (t ++ e) ∙ rw (size_append k t p.0 e) (take-append-le z t e (size_within k t p.0)) ∙ sym (first_bytes k t) in
    rw (first, size_append k t p.0 e, drop-append-le z t e (size_within k t p.0), entries_append n k (drop z t) e p.1 b)

pub length_entries : (n k : ℕ) (t : List ℕ) → length (entries_of n k t) ≡ n
unfolding entries_of
length_entries zero k t = refl
length_entries (suc n) k t = ap suc (length_entries n k (drop (entry_size k t) t))

-- entry i of them is the one that reading finds
pub entries_index : (i n k : ℕ) (t : List ℕ) → i < n → get_or (entries_of n k t) i [] ≡ entry_bytes i k t
unfolding entries_of entry_bytes entries_from
entries_index i zero k t h = absurd (not-suc-le-zero h)
entries_index zero (suc n) k t h = refl
entries_index (suc i) (suc n) k t h = entries_index i n k (drop (entry_size k t) t) (omega arith)

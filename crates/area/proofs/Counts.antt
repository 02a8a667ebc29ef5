-- Laws of the counts of undecided bytes. Assumes nothing.
use Prim.Native.Nat.{zero, suc, ◌+◌, ◌≤◌, ◌<◌}
use native.Mathlib.Omega.{arith}
use native.Mathlib.Numerals.{add-one}
use native.Mathlib.Nat.{not-suc-le-zero, le_of_suc-le-suc}
use mathlib.Core.List.{◌++◌, append-nil}
use lib.ListN.{length, take, drop, set, get_or, drop_of_length-le}
use lib.Seq.{take_all}
use Rattle.std.proofs.Common.{ℕ, ◌≡◌, ◌∙◌, refl, List, [], ◌∷◌, Bool, true, false, cond, ◌&&◌, ap, zip}
use Rattle.std.specs.List.{list_all}
use Rattle.area.specs.Area.{held_kept, count_obeys, held_obeys}

-- every count beside its connection
pub all_obey : (lives : List Bool) (held : List ℕ) → list_all (λ pair. count_obeys pair.0 pair.1) (zip lives held) ≡ held_obeys lives held
unfolding held_obeys
all_obey [] held = refl
all_obey (live ∷ lives) [] = refl
all_obey (live ∷ lives) (k ∷ held) = ap (λ (b : Bool). count_obeys live k && b) (all_obey lives held)

-- the loop that clears: n counts are done
pub record Keeping (n : ℕ) (lives : List Bool) (held out : List ℕ) : Type 0 where
  pub low : n ≤ 8
  pub sizes : (length lives ≡ 8) × (length held ≡ 8)
  pub is : out ≡ take n (held_kept lives held) ++ drop n held

pub keeping_none : (lives : List Bool) (held : List ℕ) → length lives ≡ 8 → length held ≡ 8 → Keeping 0 lives held held
keeping_none lives held a b = record { low = omega arith; sizes = (a, b); is = refl }

kept_open : (n : ℕ) (lives : List Bool) (held : List ℕ) → length lives ≡ length held → n < length held → get_or lives n false ≡ true
    → take n (held_kept lives held) ++ drop n held ≡ take (suc n) (held_kept lives held) ++ drop (suc n) held
unfolding held_kept
kept_open n [] [] e h o = absurd (not-suc-le-zero h)
kept_open n [] (k ∷ held) e h o = absurd (omega arith)
kept_open n (b ∷ lives) [] e h o = absurd (omega arith)
kept_open zero (b ∷ lives) (k ∷ held) e h o = rw o refl
kept_open (suc n) (b ∷ lives) (k ∷ held) e h o =
    ap (λ (l : List ℕ). cond b k 0 ∷ l) (kept_open n lives held (omega arith) (le_of_suc-le-suc h) o)

kept_closed : (n : ℕ) (lives : List Bool) (held : List ℕ) → length lives ≡ length held → n < length held → get_or lives n false ≡ false
    → set (take n (held_kept lives held) ++ drop n held) n 0 ≡ take (suc n) (held_kept lives held) ++ drop (suc n) held
unfolding held_kept
kept_closed n [] [] e h o = absurd (not-suc-le-zero h)
kept_closed n [] (k ∷ held) e h o = absurd (omega arith)
kept_closed n (b ∷ lives) [] e h o = absurd (omega arith)
kept_closed zero (b ∷ lives) (k ∷ held) e h o = rw o refl
kept_closed (suc n) (b ∷ lives) (k ∷ held) e h o =
    ap (λ (l : List ℕ). cond b k 0 ∷ l) (kept_closed n lives held (omega arith) (le_of_suc-le-suc h) o)

module _ (n : ℕ) (lives : List Bool) (held out : List ℕ) (w : Keeping n lives held out) (h : n < 8) where
  pub keeping_open : get_or lives n false ≡ true → Keeping (n + 1) lives held out
  keeping_open o =
      record {
        low = omega arith;
        sizes = w.sizes;
        is = rw add-one (w.is ∙ kept_open n lives held (omega (arith, w.sizes)) (omega (arith, w.sizes)) o);
      }

  pub keeping_closed : get_or lives n false ≡ false → Keeping (n + 1) lives held (set out n 0)
  keeping_closed o =
      record {
        low = omega arith;
        sizes = w.sizes;
        is = rw (w.is, add-one n) (kept_closed n lives held (omega (arith, w.sizes)) (omega (arith, w.sizes)) o);
      }

length_kept : (lives : List Bool) (held : List ℕ) → length lives ≡ length held → length (held_kept lives held) ≡ length held
unfolding held_kept
length_kept [] [] e = refl
length_kept [] (k ∷ held) e = refl
length_kept (b ∷ lives) [] e = refl
length_kept (b ∷ lives) (k ∷ held) e = ap suc (length_kept lives held (omega arith))

pub keeping_all : (n : ℕ) (lives : List Bool) (held out : List ℕ) → Keeping n lives held out → 8 ≤ n → out ≡ held_kept lives held
keeping_all n lives held out w h =
    let a : length held ≤ n = omega (arith, w.sizes) in
    let b : length (held_kept lives held) ≤ n = omega (arith, w.sizes, length_kept lives held (omega (arith, w.sizes))) in
    w.is ∙ rw (drop_of_length-le held a, take_all n (held_kept lives held) b, append-nil)

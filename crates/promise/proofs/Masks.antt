-- The bits of a mask, and masks joined: for DeviceLaws and Closure, and for the clock. Assumes nothing.
use Prim.Native.Nat.{ℕ, zero, suc, max, ◌+◌, ◌*◌, ◌/◌, ◌%◌, ◌^◌, ◌≤◌, ◌<◌}
use mathlib.Core.Path.{◌≡◌, refl, ◌∙◌}
use mathlib.Core.Bool.{Bool, cond, true, false, ◌||◌}
use mathlib.Core.List.{List, [], ◌∷◌, map}
use native.Mathlib.Omega.{arith}
use native.Mathlib.Nat.{not-suc-le-zero, le_of_suc-le-suc}
use lib.Bits.{bit_or, or_step, or_zero_l}
use lib.Dec.{eqb}
use lib.ListN.{length, get_or}
use Rattle.laws.specs.Lists.{all, mask}
use Rattle.laws.proofs.Conds.{and_left, and_right}
use Rattle.promise.specs.Rulebook.{bit_of}

bit_low : (m : ℕ) (b : Bool) → eqb ((cond b 1 0 + 2 * m) % 2) 1 ≡ b
bit_low m true = let e : (1 + 2 * m) % 2 ≡ 1 = omega arith in rw e
bit_low m false = let e : (0 + 2 * m) % 2 ≡ 0 = omega arith in rw e

bit_half : (m : ℕ) (b : Bool) → (cond b 1 0 + 2 * m) / 2 ≡ m
bit_half m true = omega arith
bit_half m false = omega arith

pub mask_bit : {A : Type 0} (p : A → Bool) (l : List A) (k : ℕ) (z : A) → k < length l → bit_of (mask p l) k ≡ p (get_or l k z)
unfolding bit_of
mask_bit p [] k z h = absurd (not-suc-le-zero h)
mask_bit p (x ∷ l) zero z h = bit_low (mask p l) (p x)
mask_bit p (x ∷ l) (suc k) z h = rw (bit_half (mask p l) (p x)) (mask_bit p l k z (le_of_suc-le-suc h))

-- no bit behind the last element
none_bit : (k : ℕ) → bit_of 0 k ≡ false
unfolding bit_of
none_bit zero = refl
none_bit (suc k) = none_bit k

pub mask_beyond : {A : Type 0} (p : A → Bool) (l : List A) (k : ℕ) → length l ≤ k → bit_of (mask p l) k ≡ false
unfolding bit_of
mask_beyond p [] k h = none_bit k
mask_beyond p (x ∷ l) zero h = absurd (not-suc-le-zero h)
mask_beyond p (x ∷ l) (suc k) h = rw (bit_half (mask p l) (p x)) (mask_beyond p l k (le_of_suc-le-suc h))

pub mask_small : {A : Type 0} (p : A → Bool) (l : List A) (n : ℕ) → length l ≤ n → mask p l < 2 ^ n
mask_small p [] n h = power n
  where
    power : (n : ℕ) → 0 < 2 ^ n
    power zero = omega arith
    power (suc n) = let z = power n in omega arith
mask_small p (x ∷ l) zero h = absurd (not-suc-le-zero h)
mask_small p (x ∷ l) (suc n) h = go (p x) (mask_small p l n (le_of_suc-le-suc h))
  where
    go : (b : Bool) → mask p l < 2 ^ n → cond b 1 0 + 2 * mask p l < 2 ^ suc n
    go true z = omega arith
    go false z = omega arith

-- ---- masks joined, of a list and of what becomes of it
low_bit : (m : ℕ) (b : Bool) → (cond b 1 0 + 2 * m) % 2 ≡ cond b 1 0
low_bit m true = omega arith
low_bit m false = omega arith

join_bit : (m : ℕ) (a b : Bool) → m * 2 + max (cond a 1 0) (cond b 1 0) ≡ cond (a || b) 1 0 + 2 * m
join_bit m true true = omega arith
join_bit m true false = omega arith
join_bit m false true = omega arith
join_bit m false false = omega arith

pub mask_join : {A : Type 0} (p q : A → Bool) (f : A → A) (l : List A) → bit_or (mask p l) (mask q (map f l)) ≡ mask (λ (x : A). p x || q (f x)) l
mask_join p q f [] = or_zero_l 0
mask_join {A = A} p q f (x ∷ l) =
    or_step (mask p (x ∷ l)) (mask q (map f (x ∷ l)))
    ∙ rw (
      bit_half (mask p l) (p x),
      bit_half (mask q (map f l)) (q (f x)),
      low_bit (mask p l) (p x),
      low_bit (mask q (map f l)) (q (f x)),
      mask_join p q f l,
    )
    (join_bit (mask (λ (x : A). p x || q (f x)) l) (p x) (q (f x)))

pub mask_same : {A : Type 0} (p q : A → Bool) → ((x : A) → p x ≡ q x) → (l : List A) → mask p l ≡ mask q l
mask_same p q e [] = refl
mask_same p q e (x ∷ l) = rw (e x, mask_same p q e l)

-- nobody meets the test where all obey
pub mask_nobody : {A : Type 0} (p o : A → Bool) → ((x : A) → o x ≡ true → p x ≡ false) → (l : List A) → all o l ≡ true → mask p l ≡ 0
mask_nobody p o k [] h = refl
mask_nobody p o k (x ∷ l) h = rw (k x (and_left (o x) (all o l) h), mask_nobody p o k l (and_right (o x) (all o l) h))

-- Zeros, stored and looked for. Assumes nothing.
use Prim.Native.Nat.{ℕ, zero, suc, ◌+◌, ◌-◌}
use mathlib.Core.Path.{◌≡◌, refl, ap, ◌∙◌}
use mathlib.Core.List.{List, [], ◌∷◌, ◌++◌}
use mathlib.Core.Bool.{Bool, true, false, ◌&&◌}
use native.Mathlib.Omega.{arith}
use native.Mathlib.Nat.{sub-zero, zero-sub, suc-sub-suc}
use lib.Dec.{eqb}
use lib.ListN.{length, take, drop, length-replicate, replicate-append-replicate}
use lib.Seq.{take_all}
use borrow.Author.Tests.{eqb-true}
use Rattle.std.proofs.Common.{fold, max}
use Rattle.std.proofs.lemmas.Grind.{common_steps}
use Rattle.laws.proofs.Conds.{and_left, and_right}
use Rattle.octets.specs.Zeros.{zeros, all_zero}

pub and_true : (a : Bool) → (a && true) ≡ a
and_true true = refl
and_true false = refl

pub and_false : (a : Bool) → (a && false) ≡ false
and_false true = refl
and_false false = refl

pub and_assoc : (a b c : Bool) → (a && (b && c)) ≡ ((a && b) && c)
and_assoc true b c = refl
and_assoc false b c = refl

pub length_zeros : (n : ℕ) → length (zeros n) ≡ n
unfolding zeros
length_zeros n = length-replicate n 0

pub zeros_append : (m n : ℕ) → zeros m ++ zeros n ≡ zeros (m + n)
unfolding zeros
zeros_append m n = replicate-append-replicate m n 0

pub drop_zeros : (k n : ℕ) → drop k (zeros n) ≡ zeros (n - k)
unfolding zeros
drop_zeros zero n = rw sub-zero
drop_zeros (suc k) zero = rw zero-sub
drop_zeros (suc k) (suc n) = rw suc-sub-suc (drop_zeros k n)

pub all_zero_append : (s t : List ℕ) → all_zero (s ++ t) ≡ (all_zero s && all_zero t)
unfolding all_zero
all_zero_append [] t = refl
all_zero_append (x ∷ s) t = ap (λ (b : Bool). eqb x 0 && b) (all_zero_append s t) ∙ and_assoc (eqb x 0) (all_zero s) (all_zero t)

-- the greatest is 0 where each is
max_zero : (a b : ℕ) → eqb (max a b) 0 ≡ (eqb a 0 && eqb b 0)
max_zero a b = grind arith

greatest_more : (a : ℕ) (xs : List ℕ) → eqb (fold max a xs) 0 ≡ (eqb a 0 && all_zero xs)
unfolding all_zero
greatest_more a [] = grind (arith, common_steps)
greatest_more a (x ∷ xs) = greatest_more (max a x) xs ∙ grind (arith, common_steps, max_zero)

pub greatest_zero : (xs : List ℕ) → eqb (fold max 0 xs) 0 ≡ all_zero xs
greatest_zero xs = greatest_more 0 xs

-- what all_zero says: the bytes are zeros
pub all_zero_zeros : (n : ℕ) → all_zero (zeros n) ≡ true
unfolding zeros all_zero
all_zero_zeros zero = refl
all_zero_zeros (suc n) = all_zero_zeros n

pub zeros_of_all : (l : List ℕ) → all_zero l ≡ true → l ≡ zeros (length l)
unfolding zeros all_zero
zeros_of_all [] e = refl
zeros_of_all (x ∷ l) e =
    let h : x ≡ 0 = eqb-true x 0 (and_left (eqb x 0) (all_zero l) e) in
    let t = zeros_of_all l (and_right (eqb x 0) (all_zero l) e) in
    ap (λ (y : ℕ). y ∷ l) h ∙ ap (λ (m : List ℕ). 0 ∷ m) t

-- a whole array, lent as a part
pub zero_whole : (l : List ℕ) (n : ℕ) (b : Bool) → length l ≡ n → b ≡ all_zero (take n l) → b ≡ all_zero l
zero_whole l n b e q = rw (take_all n l (omega arith)) at q

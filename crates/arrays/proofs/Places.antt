-- First places, as the library's search finds them. Assumes nothing.
use Rattle.std.proofs.Common.{◌≡◌, ◌∙◌, refl, ℕ, suc, ◌+◌, ◌<◌, ◌≤◌, Bool, true, false, not, cond, List, [], ◌∷◌, length, ltb, ltb-true, ltb-false, arith}
use Rattle.std.specs.List.{position, position_or_len}
use Rattle.std.specs.Option.{unwrap_or, IfSome}
use Rattle.std.specs.Prelude.{Option, Some, None}
use Rattle.laws.specs.Lists.{index}

index_is : {A : Type 0} (p : A → Bool) (xs : List A) → position_or_len p xs ≡ index p xs
index_is p [] = refl
index_is p (x ∷ xs) = elim (p x) as (λ b. cond (not b) (1 + position_or_len p xs) 0 ≡ cond b 0 (suc (index p xs))) [ true ↦ refl | false ↦ rw (index_is p xs) (omega arith) ]

index_up : {A : Type 0} (p : A → Bool) (xs : List A) → index p xs ≤ length xs
index_up p [] = omega arith
index_up p (x ∷ xs) = elim (p x) as (λ b. cond b 0 (suc (index p xs)) ≤ suc (length xs)) [ true ↦ omega arith | false ↦ omega (arith, index_up p xs) ]

module _ {A : Type 0} (p : A → Bool) (xs : List A) (n : ℕ) (r : Option ℕ) (e : r ≡ position p xs) (l : length xs ≡ n) where
  found : r ≡ cond (ltb (index p xs) n) (Some (index p xs)) None
  found = e ∙ rw (index_is p xs, l) refl

  -- what the search hands back, as a number: the length where no element meets the test
  pub found_number : unwrap_or r n ≡ index p xs
  found_number = rw found (go (ltb (index p xs) n) refl)
    where
      go : (b : Bool) → ltb (index p xs) n ≡ b → unwrap_or (cond b (Some (index p xs)) None) n ≡ index p xs
      go true q = refl
      go false q = omega (arith, ltb-false (index p xs) n q, index_up p xs, l)

  pub found_low : IfSome r (λ k. k < n)
  found_low = rw found (go (ltb (index p xs) n) refl)
    where
      go : (b : Bool) → ltb (index p xs) n ≡ b → IfSome (cond b (Some (index p xs)) None) (λ k. k < n)
      go true q = ltb-true (index p xs) n q
      go false q = tt

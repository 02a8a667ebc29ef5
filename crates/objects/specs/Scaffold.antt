-- For the contracts of inner functions and for proofs: no rule is here.
use Rattle.std.specs.Prelude.{ℕ, ◌<◌, ◌≡◌, true, false, List}
use Rattle.objects.specs.Methods.{method_number, is_object, has_method}
use Rattle.objects.specs.Tests.{is_forbidden, count_of, is_malformed}

-- Theorem. Two methods whose levels or indexes differ have different numbers.
pub record MethodsApart : Type 0 where
  pub told : (a i b j : ℕ) → i < 65536 → j < 65536 → method_number a i ≡ method_number b j → (a ≡ b) × (i ≡ j)

-- A command that none of statuses 5, 11, 8 and 4 stops.
pub record Allowed (target m : ℕ) (part : List ℕ) : Type 0 where
  pub object : is_object target ≡ true
  pub method : has_method target m ≡ true
  pub allowed : is_forbidden target m ≡ false
  pub formed : is_malformed m (count_of m) part ≡ false

-- R64. A refusal of a call, by the test that it stands for.
use Rattle.std.specs.Prelude.{◌≡◌, Bool, true, false, Result, Ok, Err}
use Rattle.numbers.specs.declared.Refusal.{Refusal}

-- R64. The test holds, or it does not and the refusal is this one.
abbrev pub Checks : Bool → Refusal → Result (Unit {0}) Refusal → Type 0
Checks test refusal (Ok passed) = test ≡ true
Checks test refusal (Err e) = (e ≡ refusal) × (test ≡ false)

-- R66. The numbers of the writer's answers, and the buffer beside them.
use Rattle.std.specs.Prelude.{ℕ, List, [], ◌∷◌, Result, Ok, Err}
use Rattle.numbers.specs.Refusal.{not_refused, refusal_numbers}
use Rattle.numbers.specs.declared.Refusal.{Refusal}

-- R66. The message's length; or what the refusal tells.
unfoldable pub written_numbers : Result ℕ Refusal → List ℕ
written_numbers (Ok n) = not_refused ∷ n ∷ []
written_numbers (Err e) = refusal_numbers e

-- R24. All that a call of the writer gives: the numbers of the answer, and the buffer after it.
pub record Writing : Type 0 where
  pub answer : List ℕ
  pub buffer : List ℕ

-- R24. An answer and the buffer after it, as what a call gives.
abbrev pub writing : Result ℕ Refusal → List ℕ → Writing
writing r after = record { answer = written_numbers r; buffer = after }

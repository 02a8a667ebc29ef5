-- R65, R68. All that a call gives.
use Rattle.std.specs.Prelude.{ℕ, List, [], ◌∷◌}
use Rattle.endpoint.specs.declared.Record.{Record}

-- R68. All that a call gives: answer, record, area and output; what it is not lent is empty.
pub record Outcome : Type 0 where
  pub answer : List ℕ
  pub state : Record
  pub area : List ℕ
  pub output : List ℕ

-- R68. An outcome of these.
abbrev pub outcome : List ℕ → Record → List ℕ → List ℕ → Outcome
outcome answer state area output = record { answer = answer; state = state; area = area; output = output }

-- R65. A refusal: its number, and all else as it was.
abbrev pub refused : ℕ → Record → List ℕ → List ℕ → Outcome
refused number state area output = outcome (number ∷ []) state area output

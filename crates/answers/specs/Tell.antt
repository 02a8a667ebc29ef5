-- R68. The numbers of an answer tell it from every other.
use Rattle.std.specs.Prelude.{ℕ, ◌≡◌, List, Result}
use Rattle.numbers.specs.declared.Refusal.{Refusal}
use Rattle.answers.specs.Numbers.{clearing_numbers, opening_numbers, closing_numbers, ticking_numbers}
use Rattle.answers.specs.Numbers.{delivery_numbers, taking_numbers, resetting_numbers, answer_numbers}

-- R68. No two answers of a call, refusals among them, have the same numbers.
abbrev pub Tells : {A : Type 0} → (A → List ℕ) → Type 0
Tells {A} numbers = (a b : Result A Refusal) → answer_numbers numbers a ≡ answer_numbers numbers b → a ≡ b

-- Theorem. No two answers of a call have the same numbers, and each call has one result.
pub record AnswersTell : Type 0 where
  pub clearings : Tells clearing_numbers
  pub openings : Tells opening_numbers
  pub closings : Tells closing_numbers
  pub tickings : Tells ticking_numbers
  pub deliveries : Tells delivery_numbers
  pub takings : Tells taking_numbers
  pub resettings : Tells resetting_numbers

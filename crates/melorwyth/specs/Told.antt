-- R63, R66. The numbers that a host is told: 0, and those of the table of refusals.
use Rattle.std.specs.Prelude.{ℕ, ◌≡◌, Bool, true, false, List, [], ◌∷◌, eqb, Result}
use Rattle.laws.specs.Lists.{any}
use Rattle.numbers.specs.Refusal.{not_refused, fault, refusals}
use Rattle.numbers.specs.Kind.{kind_closed}
use Rattle.numbers.specs.declared.Refusal.{Refusal}
use Rattle.answers.specs.Numbers.{clearing_numbers, opening_numbers, closing_numbers, ticking_numbers}
use Rattle.answers.specs.Numbers.{delivery_numbers, taking_numbers, resetting_numbers, answer_numbers}
use Rattle.answers.specs.declared.Delivery.{Delivery}
use Rattle.answers.specs.declared.Taking.{Taking}
use Rattle.answers.specs.declared.Resetting.{Resetting}
use Rattle.reader.specs.Numbers.{reading_numbers, entry_numbers}
use Rattle.reader.specs.declared.Reading.{Reading}
use Rattle.reader.specs.declared.Entry.{Entry}
use Rattle.writer.specs.Numbers.{written_numbers}

-- R63, R66. An answer that begins with 0, or with a refusal of the table.
unfoldable pub is_told : List ℕ → Bool
is_told [] = false
is_told (number ∷ rest) = any (eqb number) (not_refused ∷ refusals)

-- Theorem. Whatever a call answers, its number is 0 or a refusal of the table, and 7 is none.
pub record NumbersTold : Type 0 where
  pub cleared : (a : Result (Unit {0}) Refusal) → is_told (answer_numbers clearing_numbers a) ≡ true
  pub opened : (a : Result ℕ Refusal) → is_told (answer_numbers opening_numbers a) ≡ true
  pub closed : (a : Result (Unit {0}) Refusal) → is_told (answer_numbers closing_numbers a) ≡ true
  pub ticked : (a : Result ℕ Refusal) → is_told (answer_numbers ticking_numbers a) ≡ true
  pub delivered : (a : Result Delivery Refusal) → is_told (answer_numbers delivery_numbers a) ≡ true
  pub taken : (a : Result Taking Refusal) → is_told (answer_numbers taking_numbers a) ≡ true
  pub reset : (a : Result Resetting Refusal) → is_told (answer_numbers resetting_numbers a) ≡ true
  pub read : (a : Result Reading Refusal) → is_told (reading_numbers a) ≡ true
  pub entry : (a : Result Entry Refusal) → is_told (entry_numbers a) ≡ true
  pub written : (a : Result ℕ Refusal) → is_told (written_numbers a) ≡ true
  -- whatever number a fault has, of a closure and of a refusal
  pub closed_for : (taken number : ℕ) → is_told (not_refused ∷ kind_closed ∷ taken ∷ number ∷ []) ≡ true
  pub faulty : (number : ℕ) → is_told (fault ∷ number ∷ []) ≡ true
  pub seven : (rest : List ℕ) → is_told (7 ∷ rest) ≡ false

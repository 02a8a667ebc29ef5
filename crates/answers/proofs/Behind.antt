-- A refusal's number, and its fault's behind it. Assumes nothing.
use Rattle.std.proofs.Common.{ℕ, ◌≡◌, refl}
use Rattle.std.specs.Prelude.{Option, MatchOption, get_or}
use Rattle.numbers.proofs.Tables.{told_behind}
use Rattle.numbers.specs.Fault.{fault_number}
use Rattle.numbers.specs.Refusal.{refusal_number, refusal_numbers, fault_told}
use Rattle.numbers.specs.declared.Fault.{Fault}
use Rattle.numbers.specs.declared.Refusal.{Refusal}
use Rattle.numbers.specs.declared.Refusal.TheVariants as refusals
use Rattle.answers.specs.Numbers.{numbers_with, numbers_of}

pub refused_told : (r : Refusal) (m n : ℕ) (o : Option Fault) → m ≡ refusal_number r → o ≡ fault_told r → MatchOption o (n ≡ 0) (λ f. n ≡ fault_number f)
    → numbers_with m n 0 0 ≡ numbers_of (refusal_numbers r)
unfolding numbers_of
refused_told r m n o a b e = rw (a, told_behind r o n b e) (go r)
  where
    go : (r : Refusal) → numbers_with (refusal_number r) (get_or (refusal_numbers r) 1 0) 0 0 ≡ numbers_of (refusal_numbers r)
    go refusals.BadRecord = refl
    go refusals.BadArea = refl
    go refusals.NoConnection = refl
    go refusals.NoRoom = refl
    go refusals.TableFull = refl
    go refusals.ClockBack = refl
    go (refusals.Fault f) = refl
    go refusals.Short = refl
    go refusals.TooLong = refl
    go refusals.BadEntry = refl
    go refusals.NoEntry = refl

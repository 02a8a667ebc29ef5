-- Every answer begins with 0 or a refusal of the table, case by case. Assumes nothing.
use mathlib.Core.Path.{◌≡◌, refl}
use mathlib.Core.Bool.{true}
use Rattle.std.specs.Prelude.{ℕ, List, Result, Ok, Err}
use Rattle.numbers.specs.Refusal.{refusal_numbers}
use Rattle.numbers.specs.declared.Refusal.{Refusal}
use Rattle.numbers.specs.declared.Refusal.TheVariants as refusals
use Rattle.answers.specs.Numbers.{clearing_numbers, opening_numbers, closing_numbers, ticking_numbers}
use Rattle.answers.specs.Numbers.{delivery_numbers, taking_numbers, resetting_numbers, answer_numbers}
use Rattle.answers.specs.declared.Delivery.{Delivery}
use Rattle.answers.specs.declared.Delivery.TheVariants as delivery
use Rattle.answers.specs.declared.Taking.{Taking}
use Rattle.answers.specs.declared.Taking.TheVariants as taking
use Rattle.answers.specs.declared.Resetting.{Resetting}
use Rattle.answers.specs.declared.Resetting.TheVariants as resetting
use Rattle.reader.specs.Numbers.{reading_numbers, entry_numbers}
use Rattle.reader.specs.declared.Reading.{Reading}
use Rattle.reader.specs.declared.Entry.{Entry}
use Rattle.reader.specs.declared.Entry.TheVariants as entry
use Rattle.writer.specs.Numbers.{written_numbers}
use Rattle.melorwyth.specs.Told.{is_told, NumbersTold}

refused_told : (r : Refusal) → is_told (refusal_numbers r) ≡ true
unfolding is_told
refused_told refusals.BadRecord = refl
refused_told refusals.BadArea = refl
refused_told refusals.NoConnection = refl
refused_told refusals.NoRoom = refl
refused_told refusals.TableFull = refl
refused_told refusals.ClockBack = refl
refused_told (refusals.Fault f) = refl
refused_told refusals.Short = refl
refused_told refusals.TooLong = refl
refused_told refusals.BadEntry = refl
refused_told refusals.NoEntry = refl

-- an answer of a call is told where each that refuses nothing is
answer_told : {A : Type 0} (numbers : A → List ℕ) → ((a : A) → is_told (numbers a) ≡ true)
    → (a : Result A Refusal) → is_told (answer_numbers numbers a) ≡ true
answer_told numbers told (Ok a) = told a
answer_told numbers told (Err r) = refused_told r

done_told : (a : Unit {0}) → is_told (closing_numbers a) ≡ true
unfolding is_told
done_told a = refl

number_told : (n : ℕ) → is_told (opening_numbers n) ≡ true
unfolding is_told
number_told n = refl

delivered_told : (a : Delivery) → is_told (delivery_numbers a) ≡ true
unfolding is_told
delivered_told (delivery.More k) = refl
delivered_told (delivery.Message k n) = refl
delivered_told (delivery.Closed k f) = refl

taken_told : (a : Taking) → is_told (taking_numbers a) ≡ true
unfolding is_told
taken_told taking.Nothing = refl
taken_told (taking.Notification n k) = refl
taken_told (taking.KeepAlive n k) = refl

reset_told : (a : Resetting) → is_told (resetting_numbers a) ≡ true
unfolding is_told
reset_told resetting.Nothing = refl
reset_told resetting.Done = refl

read_told : (a : Result Reading Refusal) → is_told (reading_numbers a) ≡ true
unfolding is_told reading_numbers
read_told (Ok r) = refl
read_told (Err e) = refused_told e

entry_told : (a : Result Entry Refusal) → is_told (entry_numbers a) ≡ true
unfolding is_told entry_numbers
entry_told (Ok (entry.Command c)) = refl
entry_told (Ok (entry.Notification n)) = refl
entry_told (Ok (entry.Response r)) = refl
entry_told (Err e) = refused_told e

written_told : (a : Result ℕ Refusal) → is_told (written_numbers a) ≡ true
unfolding is_told written_numbers
written_told (Ok n) = refl
written_told (Err e) = refused_told e

pub numbers_told : NumbersTold
numbers_told =
    record {
      cleared = answer_told clearing_numbers done_told;
      opened = answer_told opening_numbers number_told;
      closed = answer_told closing_numbers done_told;
      ticked = answer_told ticking_numbers number_told;
      delivered = answer_told delivery_numbers delivered_told;
      taken = answer_told taking_numbers taken_told;
      reset = answer_told resetting_numbers reset_told;
      read = read_told;
      entry = entry_told;
      written = written_told;
      closed_for = λ taken number. unfold is_told in refl;
      faulty = λ number. unfold is_told in refl;
      seven = λ rest. unfold is_told in refl;
    }

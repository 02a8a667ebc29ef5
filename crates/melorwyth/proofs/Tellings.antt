-- From what a call promises to what C is handed. Assumes nothing.
use Prim.Native.Nat.{ℕ}
use mathlib.Core.Path.{◌≡◌, refl, ap, ap₂, ◌∙◌}
use mathlib.Core.List.{List}
use lib.ListN.{length, get_or}
use borrow.Author.Tests.{ne_eqb}
use Rattle.std.specs.Prelude.{Result}
use Rattle.numbers.specs.Refusal.{refusal_number, refusal_numbers}
use Rattle.numbers.specs.declared.Fault.TheVariants as faults
use Rattle.numbers.specs.declared.Refusal.{Refusal}
use Rattle.numbers.specs.declared.Refusal.TheVariants as refusals
use Rattle.numbers.proofs.Tables.{numbers_table}
use Rattle.reader.proofs.Tells.{first_told}
use Rattle.answers.specs.Numbers.{numbers_of}
use Rattle.answers.specs.declared.Numbers.{Numbers}
use Rattle.endpoint.specs.Outcome.{Outcome, outcome}
use Rattle.endpoint.specs.declared.Record.{Record}
use Rattle.reader.specs.Entry.{part_of, part_start}
use Rattle.reader.specs.Context.{entry_context, context_start}
use Rattle.writer.specs.Numbers.{Writing, writing, written_numbers}
use Rattle.melorwyth.specs.Answers.{fault_in, length_in}
use Rattle.melorwyth.specs.Messages.{reading_with, reading_of, plain_with, entry_from, part_from, context_from, written_with, written_of}
use Rattle.melorwyth.specs.declared.messages.Part.{Part}
use Rattle.melorwyth.specs.declared.messages.Written.{Written}

abbrev part_with : ℕ → ℕ → Part
part_with start length = record { start = start; length = length }

module _ (o : Outcome) (l : List ℕ) (s : Record) (a u : List ℕ) (e : outcome l s a u ≡ o) where
  pub area_told : a ≡ o.area
  area_told = ap (λ (x : Outcome). x.area) e

  pub output_told : u ≡ o.output
  output_told = ap (λ (x : Outcome). x.output) e

  -- a struct that the code puts together from the record and the numbers
  pub told : {A : Type 0} (f : Record → Numbers → A) (m : Numbers) → m ≡ numbers_of l → f s m ≡ f o.state (numbers_of o.answer)
  told f m q = ap (f s) q ∙ ap (λ (x : Outcome). f x.state (numbers_of x.answer)) e

-- what a refusal tells beside its number is no fault, length or connection of an answer that refuses nothing
pub no_fault : (r : Refusal) → 0 ≡ fault_in (numbers_of (refusal_numbers r))
unfolding fault_in numbers_of
no_fault refusals.BadRecord = refl
no_fault refusals.BadArea = refl
no_fault refusals.NoConnection = refl
no_fault refusals.NoRoom = refl
no_fault refusals.TableFull = refl
no_fault refusals.ClockBack = refl
no_fault (refusals.Fault faults.Start) = refl
no_fault (refusals.Fault faults.Version) = refl
no_fault (refusals.Fault faults.Size) = refl
no_fault (refusals.Fault faults.Type) = refl
no_fault (refusals.Fault faults.Count) = refl
no_fault (refusals.Fault faults.Data) = refl
no_fault refusals.Short = refl
no_fault refusals.TooLong = refl
no_fault refusals.BadEntry = refl
no_fault refusals.NoEntry = refl

pub no_length : (r : Refusal) → 0 ≡ length_in (numbers_of (refusal_numbers r))
unfolding length_in numbers_of
no_length refusals.BadRecord = refl
no_length refusals.BadArea = refl
no_length refusals.NoConnection = refl
no_length refusals.NoRoom = refl
no_length refusals.TableFull = refl
no_length refusals.ClockBack = refl
no_length (refusals.Fault faults.Start) = refl
no_length (refusals.Fault faults.Version) = refl
no_length (refusals.Fault faults.Size) = refl
no_length (refusals.Fault faults.Type) = refl
no_length (refusals.Fault faults.Count) = refl
no_length (refusals.Fault faults.Data) = refl
no_length refusals.Short = refl
no_length refusals.TooLong = refl
no_length refusals.BadEntry = refl
no_length refusals.NoEntry = refl

pub no_second : (r : Refusal) → 0 ≡ (numbers_of (refusal_numbers r)).second
unfolding numbers_of
no_second refusals.BadRecord = refl
no_second refusals.BadArea = refl
no_second refusals.NoConnection = refl
no_second refusals.NoRoom = refl
no_second refusals.TableFull = refl
no_second refusals.ClockBack = refl
no_second (refusals.Fault faults.Start) = refl
no_second (refusals.Fault faults.Version) = refl
no_second (refusals.Fault faults.Size) = refl
no_second (refusals.Fault faults.Type) = refl
no_second (refusals.Fault faults.Count) = refl
no_second (refusals.Fault faults.Data) = refl
no_second refusals.Short = refl
no_second refusals.TooLong = refl
no_second refusals.BadEntry = refl
no_second refusals.NoEntry = refl

-- a refusal: its number, and a fault's behind it
module _ (r : Refusal) (n f : ℕ) (p : n ≡ refusal_number r) (q : f ≡ get_or (refusal_numbers r) 1 0) where
  pub reading_refused : reading_with n f 0 0 0 0 0 ≡ reading_of (refusal_numbers r)
  unfolding reading_of
  reading_refused = rw (p, q, first_told r, ne_eqb (refusal_number r) 0 (numbers_table.names.refused r))

  pub entry_refused : plain_with n f 0 0 0 0 ≡ entry_from (refusal_numbers r)
  unfolding entry_from
  entry_refused = rw (p, q, first_told r, ne_eqb (refusal_number r) 0 (numbers_table.names.refused r))

  pub written_refused : written_with n f 0 ≡ written_of (refusal_numbers r)
  unfolding written_of
  written_refused = rw (p, q, first_told r, ne_eqb (refusal_number r) 0 (numbers_table.names.refused r))

pub written_told : (o : Writing) (r : Result ℕ Refusal) (buf : List ℕ) (w : Written) → writing r buf ≡ o → w ≡ written_of (written_numbers r)
    → (w ≡ written_of o.answer) × (buf ≡ o.buffer)
written_told o r buf w e q =
    (q ∙ ap (λ (x : Writing). written_of x.answer) e, ap (λ (x : Writing). x.buffer) e)

pub part_told : (s : List ℕ) (i a l : ℕ) → a ≡ part_start s i → l ≡ length (part_of s i) → part_with a l ≡ part_from s i
unfolding part_from
part_told s i a l q e = ap₂ part_with q e

pub context_told : (s : List ℕ) (i a l : ℕ) → a ≡ context_start s i → l ≡ length (entry_context s i) → part_with a l ≡ context_from s i
unfolding context_from
context_told s i a l q e = ap₂ part_with q e

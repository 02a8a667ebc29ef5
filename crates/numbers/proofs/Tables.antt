-- A fault, a refusal and a status made again from its numbers. Assumes nothing.
use Rattle.std.specs.Prelude.{ℕ, ◌≡◌, ◌≢◌, List, Option, MatchOption, refl, cond, get_or, eqb}
use Rattle.std.proofs.Common.{arith}
use Rattle.laws.proofs.Inverse.{undone_tells}
use Rattle.numbers.specs.Refusal.{not_refused, bad_record, bad_area, no_connection, no_room, table_full}
use Rattle.numbers.specs.Refusal.{clock_back, fault, short, too_long, bad_entry, refusal_number, refusal_numbers, fault_told}
use Rattle.numbers.specs.Fault.{fault_start, fault_version, fault_size, fault_type, fault_count, fault_number}
use Rattle.numbers.specs.Status.{no_object, no_method, forbidden, malformed, held_by_other, strange_emitter}
use Rattle.numbers.specs.Status.{bad_value, out_of_turn, carried_out, status_number}
use Rattle.numbers.specs.Table.{NamesTell, NumbersTable}
use Rattle.numbers.specs.declared.Fault.{Fault}
use Rattle.numbers.specs.declared.Fault.TheVariants as faults
use Rattle.numbers.specs.declared.Refusal.{Refusal}
use Rattle.numbers.specs.declared.Refusal.TheVariants as refusals
use Rattle.numbers.specs.declared.Status.{Status}
use Rattle.numbers.specs.declared.Status.TheVariants as statuses

pub fault_back : ℕ → Fault
fault_back n =
    cond (eqb n fault_start) faults.Start
    (cond (eqb n fault_version) faults.Version
    (cond (eqb n fault_size) faults.Size
    (cond (eqb n fault_type) faults.Type (cond (eqb n fault_count) faults.Count faults.Data))))

fault_back_lem : (f : Fault) → fault_back (fault_number f) ≡ f
unfolding fault_back
fault_back_lem faults.Start = refl
fault_back_lem faults.Version = refl
fault_back_lem faults.Size = refl
fault_back_lem faults.Type = refl
fault_back_lem faults.Count = refl
fault_back_lem faults.Data = refl

refusal_back : List ℕ → Refusal
refusal_back l =
    cond (eqb (get_or l 0 0) bad_record) refusals.BadRecord
    (cond (eqb (get_or l 0 0) bad_area) refusals.BadArea
    (cond (eqb (get_or l 0 0) no_connection) refusals.NoConnection
    (cond (eqb (get_or l 0 0) no_room) refusals.NoRoom
    (cond (eqb (get_or l 0 0) table_full) refusals.TableFull
    (cond (eqb (get_or l 0 0) clock_back) refusals.ClockBack
    (cond (eqb (get_or l 0 0) fault) (refusals.Fault (fault_back (get_or l 1 0)))
    (cond (eqb (get_or l 0 0) short) refusals.Short
    (cond (eqb (get_or l 0 0) too_long) refusals.TooLong
    (cond (eqb (get_or l 0 0) bad_entry) refusals.BadEntry refusals.NoEntry)))))))))

refusal_back_lem : (r : Refusal) → refusal_back (refusal_numbers r) ≡ r
unfolding refusal_back
refusal_back_lem refusals.BadRecord = refl
refusal_back_lem refusals.BadArea = refl
refusal_back_lem refusals.NoConnection = refl
refusal_back_lem refusals.NoRoom = refl
refusal_back_lem refusals.TableFull = refl
refusal_back_lem refusals.ClockBack = refl
refusal_back_lem (refusals.Fault f) = rw (fault_back_lem f)
refusal_back_lem refusals.Short = refl
refusal_back_lem refusals.TooLong = refl
refusal_back_lem refusals.BadEntry = refl
refusal_back_lem refusals.NoEntry = refl

status_back : ℕ → Status
status_back n =
    cond (eqb n no_object) statuses.NoObject
    (cond (eqb n no_method) statuses.NoMethod
    (cond (eqb n forbidden) statuses.Forbidden
    (cond (eqb n malformed) statuses.Malformed
    (cond (eqb n held_by_other) statuses.HeldByOther
    (cond (eqb n strange_emitter) statuses.StrangeEmitter
    (cond (eqb n bad_value) statuses.BadValue
    (cond (eqb n out_of_turn) statuses.OutOfTurn statuses.NoFreeEntry)))))))

status_back_lem : (s : Status) → status_back (status_number s) ≡ s
unfolding status_back
status_back_lem statuses.NoObject = refl
status_back_lem statuses.NoMethod = refl
status_back_lem statuses.Forbidden = refl
status_back_lem statuses.Malformed = refl
status_back_lem statuses.HeldByOther = refl
status_back_lem statuses.StrangeEmitter = refl
status_back_lem statuses.BadValue = refl
status_back_lem statuses.OutOfTurn = refl
status_back_lem statuses.NoFreeEntry = refl

-- no number of a refusal is 0 or 7
refused_by : (r : Refusal) → refusal_number r ≢ not_refused
refused_by refusals.BadRecord e = omega (arith, e)
refused_by refusals.BadArea e = omega (arith, e)
refused_by refusals.NoConnection e = omega (arith, e)
refused_by refusals.NoRoom e = omega (arith, e)
refused_by refusals.TableFull e = omega (arith, e)
refused_by refusals.ClockBack e = omega (arith, e)
refused_by (refusals.Fault f) e = omega (arith, e)
refused_by refusals.Short e = omega (arith, e)
refused_by refusals.TooLong e = omega (arith, e)
refused_by refusals.BadEntry e = omega (arith, e)
refused_by refusals.NoEntry e = omega (arith, e)

never_seven : (r : Refusal) → refusal_number r ≢ 7
never_seven refusals.BadRecord e = omega (arith, e)
never_seven refusals.BadArea e = omega (arith, e)
never_seven refusals.NoConnection e = omega (arith, e)
never_seven refusals.NoRoom e = omega (arith, e)
never_seven refusals.TableFull e = omega (arith, e)
never_seven refusals.ClockBack e = omega (arith, e)
never_seven (refusals.Fault f) e = omega (arith, e)
never_seven refusals.Short e = omega (arith, e)
never_seven refusals.TooLong e = omega (arith, e)
never_seven refusals.BadEntry e = omega (arith, e)
never_seven refusals.NoEntry e = omega (arith, e)

-- nor is one of a status 0
pub failed_by : (s : Status) → status_number s ≢ carried_out
failed_by statuses.NoObject e = omega (arith, e)
failed_by statuses.NoMethod e = omega (arith, e)
failed_by statuses.Forbidden e = omega (arith, e)
failed_by statuses.Malformed e = omega (arith, e)
failed_by statuses.HeldByOther e = omega (arith, e)
failed_by statuses.StrangeEmitter e = omega (arith, e)
failed_by statuses.BadValue e = omega (arith, e)
failed_by statuses.OutOfTurn e = omega (arith, e)
failed_by statuses.NoFreeEntry e = omega (arith, e)

-- the fault's number stands behind that of the refusal
pub told_behind : (r : Refusal) (o : Option Fault) (n : ℕ) → o ≡ fault_told r → MatchOption o (n ≡ 0) (λ f. n ≡ fault_number f) → n ≡ get_or (refusal_numbers r) 1 0
told_behind r o n b e = go r (rw b at e)
  where
    go : (r : Refusal) → MatchOption (fault_told r) (n ≡ 0) (λ f. n ≡ fault_number f) → n ≡ get_or (refusal_numbers r) 1 0
    go refusals.BadRecord e = e
    go refusals.BadArea e = e
    go refusals.NoConnection e = e
    go refusals.NoRoom e = e
    go refusals.TableFull e = e
    go refusals.ClockBack e = e
    go (refusals.Fault f) e = e
    go refusals.Short e = e
    go refusals.TooLong e = e
    go refusals.BadEntry e = e
    go refusals.NoEntry e = e

names_tell : NamesTell
names_tell =
    record {
      fault_told = undone_tells fault_number fault_back fault_back_lem;
      refusal_told = undone_tells refusal_numbers refusal_back refusal_back_lem;
      status_told = undone_tells status_number status_back status_back_lem;
      refused = refused_by;
      no_seven = never_seven;
      failed = failed_by;
      every_fault = refl;
      every_refusal = λ f. refl;
      every_status = refl;
    }

pub numbers_table : NumbersTable
numbers_table =
    record {
      refusals = record {
        refusal0 = refl;
        refusal1 = refl;
        refusal2 = refl;
        refusal3 = refl;
        refusal4 = refl;
        refusal5 = refl;
        refusal6 = refl;
        refusal8 = refl;
        refusal9 = refl;
        refusal10 = refl;
        refusal11 = refl;
        refusal12 = refl;
      };
      faults = record { fault1 = refl; fault2 = refl; fault3 = refl; fault4 = refl; fault5 = refl; fault6 = refl };
      deliveries = record { kind1 = refl; kind2 = refl; kind3 = refl };
      takings = record { kind0 = refl; kind1 = refl; kind2 = refl };
      datagrams = record { kind0 = refl; kind1 = refl };
      statuses = record {
        status5 = refl;
        status11 = refl;
        status8 = refl;
        status4 = refl;
        status3 = refl;
        status6 = refl;
        status7 = refl;
        status9 = refl;
        status10 = refl;
        status0 = refl;
      };
      names = names_tell;
    }

-- Which of an answer's numbers fit a byte. Assumes nothing.
use Rattle.std.specs.Prelude.{◌<◌, Result, Ok, Err}
use Rattle.std.proofs.Common.{arith}
use Rattle.numbers.specs.Fault.{fault_number}
use Rattle.numbers.specs.declared.Fault.{Fault}
use Rattle.numbers.specs.declared.Fault.TheVariants as faults
use Rattle.numbers.specs.declared.Refusal.{Refusal}
use Rattle.numbers.specs.declared.Refusal.TheVariants as refusals
use Rattle.answers.specs.Numbers.{numbers_of}
use Rattle.answers.specs.Fits.{FaultFits}
use Rattle.answers.specs.declared.Delivery.{Delivery}
use Rattle.answers.specs.declared.Delivery.TheVariants as delivery

fault_low : (f : Fault) → fault_number f < 256
fault_low faults.Start = omega arith
fault_low faults.Version = omega arith
fault_low faults.Size = omega arith
fault_low faults.Type = omega arith
fault_low faults.Count = omega arith
fault_low faults.Data = omega arith

pub fault_fits : (answer : Result Delivery Refusal) → FaultFits answer
unfolding numbers_of
fault_fits (Ok (delivery.More t)) e = omega (arith, e)
fault_fits (Ok (delivery.Message t l)) e = omega (arith, e)
fault_fits (Ok (delivery.Closed t f)) e = fault_low f
fault_fits (Err refusals.BadRecord) e = omega (arith, e)
fault_fits (Err refusals.BadArea) e = omega (arith, e)
fault_fits (Err refusals.NoConnection) e = omega (arith, e)
fault_fits (Err refusals.NoRoom) e = omega (arith, e)
fault_fits (Err refusals.TableFull) e = omega (arith, e)
fault_fits (Err refusals.ClockBack) e = omega (arith, e)
fault_fits (Err (refusals.Fault f)) e = omega arith
fault_fits (Err refusals.Short) e = omega (arith, e)
fault_fits (Err refusals.TooLong) e = omega (arith, e)
fault_fits (Err refusals.BadEntry) e = omega (arith, e)
fault_fits (Err refusals.NoEntry) e = omega (arith, e)

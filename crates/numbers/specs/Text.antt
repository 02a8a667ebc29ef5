-- R63. A refusal as text.
use Rattle.std.specs.Prelude.{ℕ, List, ◌∷◌, ◌++◌}
use Rattle.std.specs.Fmt.{decimal}
use Rattle.numbers.specs.Fault.{fault_number}
use Rattle.numbers.specs.Refusal.{bad_record, bad_area, no_connection, no_room, table_full}
use Rattle.numbers.specs.Refusal.{clock_back, fault, short, too_long, bad_entry, no_entry}
use Rattle.numbers.specs.declared.Refusal.{Refusal}
use Rattle.numbers.specs.declared.Refusal.TheVariants as refusal

-- R63. Its number in decimal, and a fault's behind 8 and a space.
abbrev pub refusal_text : Refusal → List ℕ
refusal_text refusal.BadRecord = decimal bad_record
refusal_text refusal.BadArea = decimal bad_area
refusal_text refusal.NoConnection = decimal no_connection
refusal_text refusal.NoRoom = decimal no_room
refusal_text refusal.TableFull = decimal table_full
refusal_text refusal.ClockBack = decimal clock_back
refusal_text (refusal.Fault f) = decimal fault ++ 32 ∷ decimal (fault_number f)
refusal_text refusal.Short = decimal short
refusal_text refusal.TooLong = decimal too_long
refusal_text refusal.BadEntry = decimal bad_entry
refusal_text refusal.NoEntry = decimal no_entry

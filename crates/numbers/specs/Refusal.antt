-- R63. The refusals of a call, by name.
use Rattle.std.specs.Prelude.{ℕ, List, [], ◌∷◌, Option, Some, None}
use Rattle.numbers.specs.Fault.{fault_number}
use Rattle.numbers.specs.declared.Fault.{Fault}
use Rattle.numbers.specs.declared.Refusal.{Refusal}
use Rattle.numbers.specs.declared.Refusal.TheVariants as refusal

-- R66. The first number of an answer that refuses nothing.
abbrev pub not_refused : ℕ
not_refused = 0

-- R63. A record rule is broken.
abbrev pub bad_record : ℕ
bad_record = 1

-- R63. The area has another length, or does not hold what the record counts.
abbrev pub bad_area : ℕ
bad_area = 2

-- R63. The number is above 7, or that connection is not open.
abbrev pub no_connection : ℕ
no_connection = 3

-- R63. The output or the buffer is too small.
abbrev pub no_room : ℕ
no_room = 4

-- R63. No connection is free.
abbrev pub table_full : ℕ
table_full = 5

-- R63. The step is 2^31 or more.
abbrev pub clock_back : ℕ
clock_back = 6

-- R63. The bytes decide a fault.
abbrev pub fault : ℕ
fault = 8

-- R63. The bytes have no deciding byte.
abbrev pub short : ℕ
short = 9

-- R63. pduSize would be above 2,048.
abbrev pub too_long : ℕ
too_long = 10

-- R63. The entry or the heartbeat cannot be written.
abbrev pub bad_entry : ℕ
bad_entry = 11

-- R63. The message has no entry of that number.
abbrev pub no_entry : ℕ
no_entry = 12

-- R63. All of them, in order; 7 is none.
abbrev pub refusals : List ℕ
refusals = bad_record ∷ bad_area ∷ no_connection ∷ no_room ∷ table_full ∷ clock_back ∷ fault ∷ short ∷ too_long ∷ bad_entry ∷ no_entry ∷ []

-- R63. The number of a refusal.
abbrev pub refusal_number : Refusal → ℕ
refusal_number refusal.BadRecord = bad_record
refusal_number refusal.BadArea = bad_area
refusal_number refusal.NoConnection = no_connection
refusal_number refusal.NoRoom = no_room
refusal_number refusal.TableFull = table_full
refusal_number refusal.ClockBack = clock_back
refusal_number (refusal.Fault f) = fault
refusal_number refusal.Short = short
refusal_number refusal.TooLong = too_long
refusal_number refusal.BadEntry = bad_entry
refusal_number refusal.NoEntry = no_entry

-- R66. What a refusal tells: its number, and a fault's behind 8.
abbrev pub refusal_numbers : Refusal → List ℕ
refusal_numbers refusal.BadRecord = bad_record ∷ []
refusal_numbers refusal.BadArea = bad_area ∷ []
refusal_numbers refusal.NoConnection = no_connection ∷ []
refusal_numbers refusal.NoRoom = no_room ∷ []
refusal_numbers refusal.TableFull = table_full ∷ []
refusal_numbers refusal.ClockBack = clock_back ∷ []
refusal_numbers (refusal.Fault f) = fault ∷ fault_number f ∷ []
refusal_numbers refusal.Short = short ∷ []
refusal_numbers refusal.TooLong = too_long ∷ []
refusal_numbers refusal.BadEntry = bad_entry ∷ []
refusal_numbers refusal.NoEntry = no_entry ∷ []

-- R17, R63. A fault as the refusal of what reads it.
abbrev pub fault_refusal : Fault → Refusal
fault_refusal f = refusal.Fault f

-- R17, R63. The fault that a refusal tells behind its number; the others tell none.
abbrev pub fault_told : Refusal → Option Fault
fault_told refusal.BadRecord = None
fault_told refusal.BadArea = None
fault_told refusal.NoConnection = None
fault_told refusal.NoRoom = None
fault_told refusal.TableFull = None
fault_told refusal.ClockBack = None
fault_told (refusal.Fault f) = Some f
fault_told refusal.Short = None
fault_told refusal.TooLong = None
fault_told refusal.BadEntry = None
fault_told refusal.NoEntry = None

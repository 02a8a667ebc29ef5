-- R17. The faults of a message, by name.
use Rattle.std.specs.Prelude.{ℕ, List, [], ◌∷◌}
use Rattle.numbers.specs.declared.Fault.{Fault}
use Rattle.numbers.specs.declared.Fault.TheVariants as fault

-- R17. The first byte is not 3B.
abbrev pub fault_start : ℕ
fault_start = 1

-- R17. protocolVersion is not 1.
abbrev pub fault_version : ℕ
fault_version = 2

-- R17. pduSize is below 9 or above 2,048.
abbrev pub fault_size : ℕ
fault_size = 3

-- R17. pduType is above 4.
abbrev pub fault_type : ℕ
fault_type = 4

-- R17. messageCount is 0, or not 1 in a keep-alive.
abbrev pub fault_count : ℕ
fault_count = 5

-- R17. The data is no run of entries, or no heartbeat.
abbrev pub fault_data : ℕ
fault_data = 6

-- R17. All of them, in order.
abbrev pub faults : List ℕ
faults = fault_start ∷ fault_version ∷ fault_size ∷ fault_type ∷ fault_count ∷ fault_data ∷ []

-- R17. The number of a fault.
abbrev pub fault_number : Fault → ℕ
fault_number fault.Start = fault_start
fault_number fault.Version = fault_version
fault_number fault.Size = fault_size
fault_number fault.Type = fault_type
fault_number fault.Count = fault_count
fault_number fault.Data = fault_data

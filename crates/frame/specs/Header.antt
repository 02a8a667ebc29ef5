-- R7, R8, R17. The header's fields and their faults.
use Rattle.std.specs.Prelude.{ℕ, ◌+◌, List, Option, Some, None, cond, get_or, ltb, eqb}
use Rattle.octets.specs.Numbers.{be16_at, be32_at}
use Rattle.numbers.specs.declared.Fault.{Fault}
use Rattle.numbers.specs.declared.Fault.TheVariants as fault
use Rattle.frame.specs.Places.{version_place, size_place, type_place, message_count_place}
use Rattle.frame.specs.Limits.{version, least_size, greatest_size, keep_alive}

-- R7. The version, at place 1.
abbrev pub protocol_version : List ℕ → ℕ
protocol_version s = be16_at s version_place

-- R7. The size without the 3B, at place 3.
abbrev pub pdu_size : List ℕ → ℕ
pdu_size s = be32_at s size_place

-- R7. The type, at place 7.
abbrev pub pdu_type : List ℕ → ℕ
pdu_type s = get_or s type_place 0

-- R7. The number of entries, at place 8.
abbrev pub message_count : List ℕ → ℕ
message_count s = be16_at s message_count_place

-- R8. The length, which counts the 3B.
abbrev pub message_length : List ℕ → ℕ
message_length s = pdu_size s + 1

-- R17. Fault 5, or none.
unfoldable pub count_fault : ℕ → ℕ → Option Fault
count_fault kind count =
    cond (eqb count 0) (Some fault.Count) (cond (eqb kind keep_alive) (cond (eqb count 1) None (Some fault.Count)) None)

-- R17. The first of faults 2 to 5 that these fields have, or none.
unfoldable pub fields_fault : ℕ → ℕ → ℕ → ℕ → Option Fault
fields_fault protocol size kind count =
    cond (eqb protocol version)
    (cond (ltb size least_size) (Some fault.Size)
    (cond (ltb greatest_size size) (Some fault.Size)
    (cond (ltb keep_alive kind) (Some fault.Type) (count_fault kind count))))
    (Some fault.Version)

-- R17. The header's fault, or none.
unfoldable pub header_fault : List ℕ → Option Fault
header_fault s = fields_fault (protocol_version s) (pdu_size s) (pdu_type s) (message_count s)

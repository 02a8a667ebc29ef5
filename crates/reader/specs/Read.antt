-- R19. Reading the message at the front of some bytes.
use Rattle.std.specs.Prelude.{ℕ, ◌≡◌, List, [], ◌∷◌, Result, cond, take, drop, eqb}
use Rattle.frame.specs.Limits.{header_end, keep_alive}
use Rattle.frame.specs.Header.{pdu_type, message_count}
use Rattle.frame.specs.Decide.{decide}
use Rattle.frame.specs.declared.Decision.{Decision}
use Rattle.frame.specs.declared.Decision.TheVariants.{Undecided, Faulty, Sound}
use Rattle.fields.specs.Fields.{heartbeat_of}
use Rattle.numbers.specs.Fault.{fault_number}
use Rattle.numbers.specs.Refusal.{not_refused, fault, short}
use Rattle.numbers.specs.declared.Refusal.{Refusal}
use Rattle.reader.specs.Numbers.{heartbeat_numbers, reading_numbers}
use Rattle.reader.specs.declared.Reading.{Reading}

-- R7. The data of a message of n bytes.
abbrev pub data_of : List ℕ → ℕ → List ℕ
data_of s n = drop header_end (take n s)

-- R19. What the sound message of n bytes is.
unfoldable pub message_of : List ℕ → ℕ → List ℕ
message_of s n =
    cond (eqb (pdu_type s) keep_alive)
    (keep_alive ∷ 1 ∷ heartbeat_numbers (heartbeat_of (data_of s n)))
    (pdu_type s ∷ message_count s ∷ [])

-- R19. The answer by what the bytes decide: the message, or 8 with the fault, or 9.
unfoldable pub read_by : Decision → List ℕ → List ℕ
read_by Undecided s = short ∷ []
read_by (Faulty f n) s = fault ∷ fault_number f ∷ []
read_by (Sound n) s = not_refused ∷ n ∷ message_of s n

-- R19, R64. Reading the message at the front of s: 8, 9, or what it is.
unfoldable pub read_of : List ℕ → List ℕ
read_of s = read_by (decide s) s

-- R19, R68. What reading a message promises: answer r.
abbrev pub ReadsMessage : List ℕ → Result Reading Refusal → Type 0
ReadsMessage s r = reading_numbers r ≡ read_of s

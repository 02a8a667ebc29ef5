-- R20 to R22. Reading entry i and its part.
use Rattle.std.specs.Prelude.{ℕ, ◌+◌, ◌-◌, ◌≤◌, ◌≡◌, List, [], ◌∷◌, Result, Bool, cond, false, length, take, drop, ltb, eqb}
use Rattle.frame.specs.Limits.{notification, keep_alive}
use Rattle.frame.specs.Header.{pdu_type, message_count}
use Rattle.frame.specs.Entry.{parameter_offset}
use Rattle.frame.specs.Decide.{decide}
use Rattle.frame.specs.declared.Decision.{Decision}
use Rattle.frame.specs.declared.Decision.TheVariants.{Undecided, Faulty, Sound}
use Rattle.fields.specs.Place.{entries_from, entry_bytes, parameters_of}
use Rattle.fields.specs.Fields.{command_of, notification_of, response_of}
use Rattle.numbers.specs.Fault.{fault_number}
use Rattle.numbers.specs.Refusal.{not_refused, fault, short, no_entry}
use Rattle.numbers.specs.declared.Refusal.{Refusal}
use Rattle.reader.specs.Numbers.{command_numbers, notification_numbers, response_numbers, entry_numbers}
use Rattle.reader.specs.declared.Entry.{Entry}
use Rattle.reader.specs.declared.Part.{Part}
use Rattle.reader.specs.Read.{data_of}

-- R20. The message has an entry i; else refusal 12.
unfoldable pub has_entry : ℕ → ℕ → ℕ → Bool
has_entry kind count i = cond (eqb kind keep_alive) false (ltb i count)

-- R66. The numbers of the entry e, by its type.
unfoldable pub fields_of : ℕ → List ℕ → List ℕ
fields_of kind e =
    cond (ltb kind notification) (not_refused ∷ command_numbers (command_of e))
    (cond (eqb kind notification) (not_refused ∷ notification_numbers (notification_of e)) (not_refused ∷ response_numbers (response_of e)))

-- R20. Entry i's bytes in the sound message of n bytes.
abbrev pub entry_at : List ℕ → ℕ → ℕ → List ℕ
entry_at s n i = entry_bytes i (pdu_type s) (data_of s n)

-- R20. The answer for entry i of a sound message.
unfoldable pub entry_in : List ℕ → ℕ → ℕ → List ℕ
entry_in s n i = cond (has_entry (pdu_type s) (message_count s) i) (fields_of (pdu_type s) (entry_at s n i)) (no_entry ∷ [])

-- R20. The answer by what the bytes decide.
unfoldable pub entry_by : Decision → List ℕ → ℕ → List ℕ
entry_by Undecided s i = short ∷ []
entry_by (Faulty f n) s i = fault ∷ fault_number f ∷ []
entry_by (Sound n) s i = entry_in s n i

-- R20, R64. Reading entry i of the message at the front of s: 8, 9, then 12, or its fields.
unfoldable pub entry_of : List ℕ → ℕ → List ℕ
entry_of s i = entry_by (decide s) s i

-- R21. The part of entry i of a sound message.
unfoldable pub part_in : List ℕ → ℕ → ℕ → List ℕ
part_in s n i = cond (has_entry (pdu_type s) (message_count s) i) (parameters_of (pdu_type s) (entry_at s n i)) []

-- R21. The part by what the bytes decide.
unfoldable pub part_by : Decision → List ℕ → ℕ → List ℕ
part_by Undecided s i = []
part_by (Faulty f n) s i = []
part_by (Sound n) s i = part_in s n i

-- R21. The part of entry i of the message at the front of s; none where the entry is refused.
unfoldable pub part_of : List ℕ → ℕ → List ℕ
part_of s i = part_by (decide s) s i

-- R22. Where that part starts in a sound message: at the parameter offset of entry i.
unfoldable pub part_start_in : List ℕ → ℕ → ℕ → ℕ
part_start_in s n i =
    cond (has_entry (pdu_type s) (message_count s) i)
    ((n - length (entries_from i (pdu_type s) (data_of s n))) + parameter_offset (pdu_type s) (entry_at s n i))
    0

-- R22. Where it starts, by what the bytes decide.
unfoldable pub part_start_by : Decision → List ℕ → ℕ → ℕ
part_start_by Undecided s i = 0
part_start_by (Faulty f n) s i = 0
part_start_by (Sound n) s i = part_start_in s n i

-- R22. Where the part of entry i starts in the caller's bytes.
unfoldable pub part_start : List ℕ → ℕ → ℕ
part_start s i = part_start_by (decide s) s i

-- R20, R68. What reading entry i promises: answer r.
abbrev pub ReadsEntry : List ℕ → ℕ → Result Entry Refusal → Type 0
ReadsEntry s i r = entry_numbers r ≡ entry_of s i

-- R21, R68. What asking for the part of entry i promises.
abbrev pub GivesPart : List ℕ → ℕ → List ℕ → Type 0
GivesPart s i part = part ≡ part_of s i

-- R22, R68. What asking where that part starts promises.
abbrev pub TellsStart : List ℕ → ℕ → ℕ → Type 0
TellsStart s i at = at ≡ part_start s i

-- R21, R22, R68. What asking where that part stands promises: its start and its length.
abbrev pub PlacesPart : List ℕ → ℕ → Part → Type 0
PlacesPart s i r = (r.start ≡ part_start s i) × (r.length ≡ length (part_of s i))

-- Theorem. From its start on, as long as it is, the caller's bytes are the part, and they have that many.
pub record PartStands : Type 0 where
  pub there : (s : List ℕ) (i : ℕ) → take (length (part_of s i)) (drop (part_start s i) s) ≡ part_of s i
  pub within : (s : List ℕ) (i : ℕ) → part_start s i + length (part_of s i) ≤ length s

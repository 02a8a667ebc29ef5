-- R9, R11, R12. Entries that are not well formed, by a count without bytes or by their context, and messages with such an entry.
use Rattle.std.specs.Prelude.{ℕ, ◌≤◌, ◌<◌, ◌≡◌, ◌⊎◌, List, length, get_or, None}
use Rattle.octets.specs.Numbers.{be32_at}
use Rattle.frame.specs.Limits.{sync, notification, response, greatest_context}
use Rattle.frame.specs.Header.{pdu_type, message_count, message_length, header_fault}
use Rattle.frame.specs.Entry.{context_count, parameter_offset, least_count}
use Rattle.frame.specs.Counts.{count_given}
use Rattle.fields.specs.Place.{entries_from}
use Rattle.reader.specs.Read.{data_of}

-- R13. The bytes from entry i on of the message at the front of s.
abbrev pub bytes_from : List ℕ → ℕ → List ℕ
bytes_from s i = entries_from i (pdu_type s) (data_of s (message_length s))

-- R16. A whole message with a sound header stands at the front of s, and its messageCount is above i.
pub record Headed (s : List ℕ) (i : ℕ) : Type 0 where
  pub first : get_or s 0 0 ≡ sync
  pub header : header_fault s ≡ None
  pub whole : message_length s ≤ length s
  pub type : pdu_type s ≤ response
  pub there : i < message_count s

-- R12. The bytes e of an entry: they end at its parameter offset, with a count above the least.
pub record Announced (kind : ℕ) (e : List ℕ) : Type 0 where
  pub long : length e ≡ parameter_offset kind e
  pub count : least_count kind < count_given kind e

-- R12. A message of which entry i ends at its parameter offset, with a count above the least.
pub record Announces (s : List ℕ) (i : ℕ) : Type 0 where
  pub headed : Headed s i
  pub size : be32_at (bytes_from s i) 0 ≡ parameter_offset (pdu_type s) (bytes_from s i)
  pub count : least_count (pdu_type s) < count_given (pdu_type s) (bytes_from s i)

-- R9, R11. The notification at the front of t counts more than 64 bytes of context, or its size ends before they and what follows them do.
pub record BadContext (kind : ℕ) (t : List ℕ) : Type 0 where
  pub type : kind ≡ notification
  pub over : (greatest_context < context_count kind t) ⊎ (be32_at t 0 < parameter_offset kind t)

-- R9, R11. A message of which entry i is such a one.
pub record HasBadContext (s : List ℕ) (i : ℕ) : Type 0 where
  pub headed : Headed s i
  pub context : BadContext (pdu_type s) (bytes_from s i)

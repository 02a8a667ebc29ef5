-- For the contracts of inner functions and for proofs: no rule is here.
use Rattle.std.specs.Prelude.{ℕ, ◌+◌, ◌-◌, ◌≤◌, List, cond, Option, Some, None, IfSome, Result, Ok, Err, length, take, drop, eqb}
use Rattle.octets.specs.Numbers.{be32_at}
use Rattle.frame.specs.Limits.{header_end, notification, longest_message}
use Rattle.frame.specs.Places.{context_place}
use Rattle.frame.specs.Header.{pdu_type}
use Rattle.frame.specs.Entry.{context_count, parameter_offset}
use Rattle.frame.specs.Decide.{decide}
use Rattle.frame.specs.Scaffold.{nonzero, rest_by}
use Rattle.frame.specs.declared.Decision.{Decision}
use Rattle.frame.specs.declared.Decision.TheVariants.{Undecided, Faulty, Sound}
use Rattle.numbers.specs.Refusal.{refusal_numbers}
use Rattle.numbers.specs.declared.Refusal.{Refusal}
use Rattle.numbers.specs.declared.Refusal.TheVariants as refusal
use Rattle.reader.specs.Entry.{fields_of}
use Rattle.reader.specs.declared.Place.{Place}

-- The last `rest` of the n bytes at the front of s are a message's from some entry on, or none are.
pub record RestStands (s : List ℕ) (n : ℕ) (rest : Option ℕ) : Type 0 where
  pub whole : n ≤ length s
  pub short : n ≤ longest_message
  pub entry : IfSome rest (λ r. (4 ≤ r) × (r ≤ n))

-- The entry that stands there, by the size that it gives.
unfoldable pub place_at : List ℕ → ℕ → Option ℕ → Result Place Refusal
place_at s n None = Err refusal.NoEntry
place_at s n (Some rest) = Ok (record { from = n - rest; end = (n - rest) + be32_at (drop (n - rest) s) 0 })

-- Where entry i stands by d, what the bytes s decide.
unfoldable pub place_by : Decision → List ℕ → ℕ → Result Place Refusal
place_by Undecided s i = Err refusal.Short
place_by (Faulty f n) s i = Err (refusal.Fault f)
place_by (Sound n) s i = place_at s n (nonzero (rest_by (Sound n) s i))

-- Where entry i of the message at the front of s stands.
unfoldable pub entry_place : List ℕ → ℕ → Result Place Refusal
entry_place s i = place_by (decide s) s i

-- The bytes of s from one place to another.
abbrev pub between : List ℕ → ℕ → ℕ → List ℕ
between s from end = take (end - from) (drop from s)

-- What an entry that stands from a to b of s is: its parameters start within it, and it within a message.
pub record AtPlace (s : List ℕ) (a b : ℕ) : Type 0 where
  pub long : header_end ≤ length s
  pub low : a + parameter_offset (pdu_type s) (between s a b) ≤ b
  pub high : b ≤ length s
  pub near : a ≤ longest_message

-- The answer for an entry that stands there in s.
unfoldable pub entry_placed : Result Place Refusal → List ℕ → List ℕ
entry_placed (Ok p) s = fields_of (pdu_type s) (between s p.from p.end)
entry_placed (Err e) s = refusal_numbers e

-- Where its part starts.
unfoldable pub start_placed : Result Place Refusal → List ℕ → ℕ
start_placed (Ok p) s = p.from + parameter_offset (pdu_type s) (between s p.from p.end)
start_placed (Err e) s = 0

-- How many bytes its part has.
unfoldable pub length_placed : Result Place Refusal → List ℕ → ℕ
length_placed (Ok p) s = p.end - (p.from + parameter_offset (pdu_type s) (between s p.from p.end))
length_placed (Err e) s = 0

-- Where its context starts.
unfoldable pub context_start_placed : Result Place Refusal → List ℕ → ℕ
context_start_placed (Ok p) s = cond (eqb (pdu_type s) notification) (p.from + context_place) 0
context_start_placed (Err e) s = 0

-- How many bytes its context has.
unfoldable pub context_length_placed : Result Place Refusal → List ℕ → ℕ
context_length_placed (Ok p) s = context_count (pdu_type s) (between s p.from p.end)
context_length_placed (Err e) s = 0

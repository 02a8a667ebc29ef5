-- A count without bytes, and a context above 64 or past its entry, are refused by the reader, the writer, a delivery and the listing:
-- R9, R11, R12, R16, R19 to R26, R30, R79 together.
use Rattle.std.specs.Prelude.{ℕ, ◌-◌, ◌≤◌, ◌≡◌, List, [], ◌∷◌, ◌++◌, length}
use Rattle.numbers.specs.Refusal.{fault, bad_entry}
use Rattle.numbers.specs.Fault.{fault_data}
use Rattle.numbers.specs.declared.Fault.TheVariants as faults
use Rattle.answers.specs.Numbers.{delivery_numbers}
use Rattle.answers.specs.declared.Delivery.TheVariants.{Closed}
use Rattle.frame.specs.Header.{message_length}
use Rattle.frame.specs.Decide.{decide}
use Rattle.frame.specs.declared.Decision.TheVariants.{Faulty, Sound}
use Rattle.reader.specs.Read.{read_of}
use Rattle.reader.specs.Entry.{entry_of, part_of}
use Rattle.reader.specs.Context.{entry_context}
use Rattle.writer.specs.Numbers.{Writing}
use Rattle.writer.specs.Write.{least_room, unwritten, start_of, append_of}
use Rattle.octets.specs.Zeros.{zeros}
use Rattle.area.specs.Area.{area_bytes, undecided_of, part_cleared}
use Rattle.replies.specs.Bytes.{least_output}
use Rattle.endpoint.specs.State.{fresh_state, closed_state}
use Rattle.endpoint.specs.Outcome.{Outcome, outcome}
use Rattle.endpoint.specs.Calls.{open_call}
use Rattle.endpoint.specs.Deliver.{held_at, deliver_call}
use Rattle.endpoint.specs.declared.Record.{Record}
use Rattle.split.specs.Split.{sound_messages}
use Rattle.lines.specs.Text.{stop_line}
use Rattle.lister.specs.Listing.{lines_of, listed_bytes, unlisted, listing}
use Rattle.sent.specs.Longest.{Delivers}
use Rattle.counts.specs.Announced.{Announced, Announces, BadContext, HasBadContext}
use Rattle.counts.specs.Worked.{announced_lock, set_then_announced, context_of65, context_past}

-- R26, R65. An append behind a message with fault 6: refusal 8 with it, and the buffer as it was.
abbrev pub behind_fault : List ℕ → Writing
behind_fault buf = record { answer = fault ∷ fault_data ∷ []; buffer = buf }

-- R30. The closure of connection n for fault 6: its record and area are those of the host's close, and no output is written.
abbrev pub closed_for_data : Record → List ℕ → ℕ → ℕ → List ℕ → Outcome
closed_for_data r area n taken out = outcome (delivery_numbers (Closed taken faults.Data)) (closed_state r n) (part_cleared area n) out

-- R16, R19, R20, R21, R25, R26, R30, R79. Messages with an entry that is Bad, and such an entry by itself, are refused by each call.
pub record Refuses (Bad : List ℕ → ℕ → Type 0) (BadEntry : ℕ → List ℕ → Type 0) : Type 0 where
  -- the message's last byte decides
  pub decided : (s : List ℕ) (i : ℕ) → Bad s i → decide s ≡ Faulty faults.Data (message_length s)
  -- the reader: 8 with fault 6, whichever entry is asked for, and neither part nor context
  pub message : (s : List ℕ) (i : ℕ) → Bad s i → read_of s ≡ fault ∷ fault_data ∷ []
  pub entry : (s : List ℕ) (i j : ℕ) → Bad s i → entry_of s j ≡ fault ∷ fault_data ∷ []
  pub part : (s : List ℕ) (i j : ℕ) → Bad s i → part_of s j ≡ []
  pub context : (s : List ℕ) (i j : ℕ) → Bad s i → entry_context s j ≡ []
  -- the writer: 11 for the entry, in a new message or behind a sound one, and the buffer as it was
  pub started : (buf : List ℕ) (kind : ℕ) (e : List ℕ) → least_room ≤ length buf → BadEntry kind e
      → start_of buf kind e ≡ unwritten bad_entry buf
  pub appended : (buf : List ℕ) (kind : ℕ) (e : List ℕ) (n : ℕ) → least_room ≤ length buf → decide buf ≡ Sound n → BadEntry kind e
      → append_of buf kind e ≡ unwritten bad_entry buf
  -- and nothing is appended to a message that has one
  pub behind : (buf : List ℕ) (kind : ℕ) (e : List ℕ) (i : ℕ) → least_room ≤ length buf → Bad buf i
      → append_of buf kind e ≡ behind_fault buf
  -- a delivery, however the message was cut: the piece with its last byte closes the connection, and no command of it is run
  pub delivered : (r : Record) (area : List ℕ) (n : ℕ) (piece out : List ℕ) (i : ℕ) → Delivers r area n out
      → Bad (undecided_of area n (held_at r n) ++ piece) i
      → deliver_call r area n piece out
      ≡ closed_for_data r area n (message_length (undecided_of area n (held_at r n) ++ piece) - held_at r n) out
  -- the listing: the lines of the sound messages before it, and where it stops
  pub listed : (s : List ℕ) (i : ℕ) → Bad (unlisted s) i
      → listing s ≡ lines_of 0 (sound_messages s) ++ stop_line (listed_bytes s) fault_data

-- Theorem. An entry that announces parameters and has no byte of them is refused, by fault 6 when read and by 11 when written.
pub record CountWithoutBytes : Type 0 where
  pub refuses : Refuses Announces Announced
  -- there are such messages; behind a set, to the first connection of a fresh record: it is closed, and nothing is set
  pub alone : Announces announced_lock 0
  pub second : Announces set_then_announced 1
  pub fresh : (reading : ℕ) (out : List ℕ) → least_output ≤ length out
      → deliver_call (open_call (fresh_state reading)).state (zeros area_bytes) 0 set_then_announced out
      ≡ closed_for_data (open_call (fresh_state reading)).state (zeros area_bytes) 0 45 out

-- Theorem. So is an entry whose context has more than 64 bytes or ends behind the entry.
pub record ContextRefused : Type 0 where
  pub refuses : Refuses HasBadContext BadContext
  -- there are such messages: with 65 bytes of context, all there, and with one byte of context that is the emitter's
  pub long : HasBadContext context_of65 0
  pub past : HasBadContext context_past 0

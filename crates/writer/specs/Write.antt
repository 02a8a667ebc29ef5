-- R24 to R27. The writer's three calls.
use Rattle.std.specs.Prelude.{ℕ, ◌+◌, ◌≡◌, List, [], ◌∷◌, ◌++◌, Result, Bool, cond, ◌&&◌, length, ltb, leb, eqb}
use Rattle.heartbeat.specs.Beat.{seconds_form, milliseconds_form, greatest_seconds}
use Rattle.frame.specs.Limits.{greatest_size, longest_message, keep_alive}
use Rattle.frame.specs.Header.{pdu_type, message_count}
use Rattle.frame.specs.Entry.{well_formed}
use Rattle.frame.specs.Decide.{decide}
use Rattle.frame.specs.declared.Decision.{Decision}
use Rattle.frame.specs.declared.Decision.TheVariants.{Undecided, Faulty, Sound}
use Rattle.numbers.specs.Fault.{fault_number}
use Rattle.numbers.specs.declared.Refusal.{Refusal}
use Rattle.numbers.specs.Refusal.{fault, not_refused, no_room, too_long, bad_entry}
use Rattle.reader.specs.Read.{data_of}
use Rattle.writer.specs.Numbers.{Writing, writing}
use Rattle.layout.specs.Message.{size_of, message, at_front, beat_bytes}

-- R63. The least buffer of the writer: the longest message.
abbrev pub least_room : ℕ
least_room = longest_message

-- R65. A refusal: its number, and the buffer as it was.
unfoldable pub unwritten : ℕ → List ℕ → Writing
unwritten number buf = record { answer = number ∷ []; buffer = buf }

-- R24. The message's length, and the message at the buffer's front.
unfoldable pub written : List ℕ → List ℕ → Writing
written m buf = record { answer = not_refused ∷ length m ∷ []; buffer = at_front m buf }

-- R63. Refusal 10 where pduSize would be above 2,048; else the message is written.
unfoldable pub offered : ℕ → ℕ → List ℕ → List ℕ → Writing
offered kind count body buf =
    cond (ltb greatest_size (size_of body)) (unwritten too_long buf) (written (message kind count body) buf)

-- R25, R64. Start: 4, then 11, then 10, else a message of one entry.
unfoldable pub start_of : List ℕ → ℕ → List ℕ → Writing
start_of buf kind e =
    cond (ltb (length buf) least_room) (unwritten no_room buf)
    (cond (well_formed kind e) (offered kind 1 e buf) (unwritten bad_entry buf))

-- R26. Append to a sound message of n bytes: 11, then 10, else the entry behind its data.
unfoldable pub append_sound : ℕ → List ℕ → ℕ → List ℕ → Writing
append_sound n buf kind e =
    cond (eqb kind (pdu_type buf) && well_formed kind e)
    (offered kind (message_count buf + 1) (data_of buf n ++ e) buf)
    (unwritten bad_entry buf)

-- R26. Append by what the buffer's front decides; 2,049 bytes always decide, so the first case never comes.
unfoldable pub append_by : Decision → List ℕ → ℕ → List ℕ → Writing
append_by Undecided buf kind e = unwritten no_room buf
append_by (Faulty f n) buf kind e = record { answer = fault ∷ fault_number f ∷ []; buffer = buf }
append_by (Sound n) buf kind e = append_sound n buf kind e

-- R26, R64. Append: 4, then 8, then 11, then 10, else the longer message.
unfoldable pub append_of : List ℕ → ℕ → List ℕ → Writing
append_of buf kind e = cond (ltb (length buf) least_room) (unwritten no_room buf) (append_by (decide buf) buf kind e)

-- R27. A form that is known, and in seconds a value that 2 bytes hold.
unfoldable pub beat_fits : ℕ → ℕ → Bool
beat_fits form value = cond (eqb form seconds_form) (leb value greatest_seconds) (eqb form milliseconds_form)

-- R27, R64. Keep-alive: 4, then 11, else the message.
unfoldable pub keep_alive_of : List ℕ → ℕ → ℕ → Writing
keep_alive_of buf form value =
    cond (ltb (length buf) least_room) (unwritten no_room buf)
    (cond (beat_fits form value) (written (message keep_alive 1 (beat_bytes form value)) buf) (unwritten bad_entry buf))

-- R25, R68. What start promises: answer r, and after in the buffer.
abbrev pub Starts : List ℕ → ℕ → List ℕ → Result ℕ Refusal → List ℕ → Type 0
Starts buf kind e r after = writing r after ≡ start_of buf kind e

-- R26, R68. What append promises.
abbrev pub Appends : List ℕ → ℕ → List ℕ → Result ℕ Refusal → List ℕ → Type 0
Appends buf kind e r after = writing r after ≡ append_of buf kind e

-- R27, R68. What keep-alive promises.
abbrev pub WritesKeepAlive : List ℕ → ℕ → ℕ → Result ℕ Refusal → List ℕ → Type 0
WritesKeepAlive buf form value r after = writing r after ≡ keep_alive_of buf form value

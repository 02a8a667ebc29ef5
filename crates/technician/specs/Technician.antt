-- R32, R36, R42, R51 to R53, R60. When a lock is free whose holder is switched off: the technician's question, in bytes.
use Rattle.std.specs.Prelude.{ℕ, ◌+◌, ◌*◌, ◌^◌, ◌<◌, ◌≤◌, ◌≡◌, cond, true, false, List, [], ◌∷◌, ◌++◌, eqb, length, get_or, drop}
use Rattle.numbers.specs.Status.{held_by_other, carried_out}
use Rattle.numbers.specs.Refusal.{clock_back}
use Rattle.octets.specs.Numbers.{Octets}
use Rattle.octets.specs.Zeros.{zeros}
use Rattle.heartbeat.specs.Beat.{beat_of}
use Rattle.frame.specs.Limits.{header_end, keep_alive}
use Rattle.frame.specs.Header.{pdu_type}
use Rattle.frame.specs.Decide.{decide}
use Rattle.frame.specs.declared.Decision.TheVariants.{Undecided, Sound}
use Rattle.fields.specs.Fields.{heartbeat_of}
use Rattle.reader.specs.Examples.{keep_alive2s, lock4097, reply7}
use Rattle.area.specs.Area.{area_bytes}
use Rattle.connection.specs.State.{closed, live_at}
use Rattle.replies.specs.Bytes.{least_output}
use Rattle.device.specs.Time.{step_of}
use Rattle.device.specs.Closure.{Gone}
use Rattle.stream.specs.Calls.{ask, AllBytes}
use Rattle.answers.specs.Numbers.{ticking_numbers}
use Rattle.endpoint.specs.Outcome.{Outcome, refused}
use Rattle.endpoint.specs.State.{fresh_state}
use Rattle.endpoint.specs.Calls.{tick_call}
use Rattle.endpoint.specs.Deliver.{held_at, deliver_call}
use Rattle.endpoint.specs.declared.Record.{Record}
use Rattle.promise.specs.Rulebook.{ticking, bit_of}
use Rattle.promise.specs.Calls.{HostCall}
use Rattle.promise.specs.Kept.{Accepted, Kept}
use Rattle.promise.specs.Ticks.{step_at, passes, Watched}
use Rattle.promise.specs.Heartbeats.{brought_by}
use Rattle.technician.specs.Silence.{calls_of, all_silent, time_in}
use Rattle.technician.specs.Lock.{lock_bytes, reply_bytes, holder_in, CanAsk, Answered, nobody_locks}

-- ---- the tablet's last message

-- R28, R31. The undecided bytes of connection n and the piece begin with the whole sound message m, and nothing is refused.
pub record Ends (r : Record) (area : List ℕ) (n : ℕ) (piece out m : List ℕ) : Type 0 where
  pub kept : Kept r area
  pub live : live_at r.device.connections n ≡ true
  pub room : least_output ≤ length out
  pub sound : decide m ≡ Sound (length m)
  pub behind : List ℕ
  pub brought : brought_by r area n piece ≡ m ++ behind

-- R36. The heartbeat of a keep-alive, in milliseconds.
abbrev pub beat_in : List ℕ → ℕ
beat_in m = beat_of (heartbeat_of (drop header_end m))

-- R36. The heartbeat of connection n after the message m: the one that a keep-alive sets, else the one that it had.
unfoldable pub beat_after : Record → ℕ → List ℕ → ℕ
beat_after r n m = cond (eqb (pdu_type m) keep_alive) (beat_in m) (get_or r.device.connections n closed).beat

-- R81. A course of calls: a record and an area, the tablet's last piece with the output lent for it, and the calls after it.
pub record Course : Type 0 where
  pub start : Record
  pub area : List ℕ
  pub tablet : ℕ
  pub piece : List ℕ
  pub out : List ℕ
  pub calls : List HostCall

-- R28. What the tablet's last piece comes to.
abbrev pub spoken : Course → Outcome
spoken c = deliver_call c.start c.area c.tablet c.piece c.out

-- R81. The record and the area after the calls.
abbrev pub at_last : Course → Record × List ℕ
at_last c = calls_of (spoken c).state (spoken c).area c.calls

-- R51. The time from the tablet's last piece to there.
abbrev pub since_then : Course → ℕ
since_then c = time_in (spoken c).state (spoken c).area c.calls

-- R56. The course with a tick and later calls behind it.
abbrev pub then_tick : Course → ℕ → List HostCall → Course
then_tick c reading later =
    record {
      start = c.start;
      area = c.area;
      tablet = c.tablet;
      piece = c.piece;
      out = c.out;
      calls = c.calls ++ (ask (ticking reading) ∷ later);
    }

-- ---- what is supposed

-- R32, R53. The tablet's last piece ends a message after which its heartbeat is H, and in the calls after it the tablet is silent.
pub record GoesSilent (c : Course) (H : ℕ) : Type 0 where
  pub message : List ℕ
  pub ends : Ends c.start c.area c.tablet c.piece c.out message
  pub beat : beat_after c.start c.tablet message ≡ H
  pub octets : Octets c.piece
  pub bytes : AllBytes c.calls
  pub silent : all_silent c.tablet (spoken c).state (spoken c).area c.calls ≡ true

-- R42. After its last message the tablet holds the channel at that place.
abbrev pub Holds : Course → ℕ → Type 0
Holds c at = holder_in (spoken c).state at ≡ c.tablet + 1

-- R53. A tick at that reading is the first at which the time comes to 3 × H.
pub record Reaches (c : Course) (reading H : ℕ) : Type 0 where
  pub before : since_then c < 3 * H
  pub reached : 3 * H ≤ since_then (then_tick c reading [])

-- R42. After that tick, and later calls in which nobody asks for a channel that the tablet held, connection k can ask for it.
pub record Asks (c : Course) (reading : ℕ) (later : List HostCall) (k handle at : ℕ) (out : List ℕ) : Type 0 where
  pub held : Holds c at
  pub bytes : AllBytes later
  pub unasked : nobody_locks at (at_last (then_tick c reading [])).0 (at_last (then_tick c reading [])).1 later ≡ true
  pub can : CanAsk (at_last (then_tick c reading later)).0 k handle at out

-- ---- what follows

-- R42. The tablet is open and holds what it held; whoever else asks for that gets status 3, and it stays the tablet's.
pub record Waits (c : Course) : Type 0 where
  pub live : live_at (at_last c).0.device.connections c.tablet ≡ true
  pub holds : (at : ℕ) → Holds c at → holder_in (at_last c).0 at ≡ c.tablet + 1
  pub locked_out : (k handle at : ℕ) (out : List ℕ) → Holds c at → eqb k c.tablet ≡ false → CanAsk (at_last c).0 k handle at out
      → Answered (at_last c).0 (at_last c).1 k handle at out held_by_other c.tablet

-- R53. The tick closes connection n: its bit is set, nothing of the connection is left, its count is 0.
pub record Closes (r : Record) (area : List ℕ) (reading n : ℕ) : Type 0 where
  pub mask : ℕ
  pub answer : (tick_call r area reading).answer ≡ ticking_numbers mask
  pub bit : bit_of mask n ≡ true
  pub gone : Gone n r.device (tick_call r area reading).state.device
  pub bytes : held_at (tick_call r area reading).state n ≡ 0

-- R42. Connection k gets status 0, and the channel is its own.
abbrev pub Enters : Course → ℕ → List HostCall → ℕ → ℕ → ℕ → List ℕ → Type 0
Enters c reading later k handle at out =
    let end = at_last (then_tick c reading later) in
    Answered end.0 end.1 k handle at out carried_out k

-- ---- with numbers

-- R83. The keep-alive of 30 s.
abbrev pub keep_alive30s : List ℕ
keep_alive30s = 0x3B ∷ 0x00 ∷ 0x01 ∷ 0x00 ∷ 0x00 ∷ 0x00 ∷ 0x0B ∷ 0x04 ∷ 0x00 ∷ 0x01 ∷ 0x00 ∷ 0x1E ∷ []

-- R15. The keep-alive with the greatest heartbeat in seconds.
abbrev pub most_in_seconds : List ℕ
most_in_seconds = 0x3B ∷ 0x00 ∷ 0x01 ∷ 0x00 ∷ 0x00 ∷ 0x00 ∷ 0x0B ∷ 0x04 ∷ 0x00 ∷ 0x01 ∷ 0xFF ∷ 0xFF ∷ []

-- R15. The keep-alive with the greatest heartbeat in milliseconds.
abbrev pub most_in_milliseconds : List ℕ
most_in_milliseconds =
    0x3B ∷ 0x00 ∷ 0x01 ∷ 0x00 ∷ 0x00 ∷ 0x00 ∷ 0x0D ∷ 0x04 ∷ 0x00 ∷ 0x01 ∷ 0xFF ∷ 0xFF ∷ 0xFF ∷ 0xFF ∷ []

-- R53. The keep-alive m sets H; up to that last time the channel is the tablet's, and the tick that comes to the next lets in.
pub record Exactly (m : List ℕ) (H last next : ℕ) : Type 0 where
  pub sound : decide m ≡ Sound (length m)
  pub kind : pdu_type m ≡ keep_alive
  pub beat : beat_in m ≡ H
  pub waits : (c : Course) → GoesSilent c H → since_then c ≤ last → Waits c
  pub let_in : (c : Course) (reading : ℕ) → GoesSilent c H → since_then c ≤ last → next ≤ since_then (then_tick c reading [])
      → (later : List HostCall) (k handle at : ℕ) (out : List ℕ) → Asks c reading later k handle at out
      → Enters c reading later k handle at out

-- Theorem. The tick at which the silence reaches 3 × H lets the technician in, and none does before.
pub record TechnicianLetIn : Type 0 where
  -- after any calls from a fresh record and a zeroed area, record and area are as Ends supposes
  pub kept : (reading : ℕ) (before : List HostCall) → AllBytes before
      → let now = calls_of (fresh_state reading) (zeros area_bytes) before in Kept now.0 now.1
  -- a sound message of the tablet clears its silence; a keep-alive sets its heartbeat too
  pub heard : (r : Record) (area : List ℕ) (n : ℕ) (piece out m : List ℕ) → Ends r area n piece out m
      → Watched (deliver_call r area n piece out).state.device n (beat_after r n m) 0
  -- from its last one on its silence is the time of the calls, as long as that is below three heartbeats
  pub counts : (c : Course) (H : ℕ) → GoesSilent c H → since_then c < 3 * H
      → Watched (at_last c).0.device c.tablet H (since_then c)
  -- all that while another's lock of what it holds is answered with status 3
  pub waits : (c : Course) (H : ℕ) → GoesSilent c H → since_then c < 3 * H → Waits c
  -- a tablet that set no heartbeat, or heartbeat zero, waits for ever
  pub never : (c : Course) → GoesSilent c 0 → Waits c
  -- the tick that reaches three heartbeats closes it
  pub closes : (c : Course) (reading H : ℕ) → GoesSilent c H → Reaches c reading H
      → Closes (at_last c).0 (at_last c).1 reading c.tablet
  -- and frees what it held
  pub frees : (c : Course) (reading H : ℕ) → GoesSilent c H → Reaches c reading H
      → (at : ℕ) → Holds c at → holder_in (at_last (then_tick c reading [])).0 at ≡ 0
  -- and whoever then asks first for one of its channels gets status 0, and the channel
  pub let_in : (c : Course) (reading H : ℕ) → GoesSilent c H → Reaches c reading H
      → (later : List HostCall) (k handle at : ℕ) (out : List ℕ) → Asks c reading later k handle at out
      → Enters c reading later k handle at out
  -- half a message is no sign of life: bytes that decide nothing leave the device as it is
  pub half_message : (r : Record) (area : List ℕ) (n : ℕ) (piece out : List ℕ) → decide (brought_by r area n piece) ≡ Undecided
      → (deliver_call r area n piece out).state.device ≡ r.device
  -- where refusals 1 and 2 let record and area pass, a step of 2^31 − 1 passes, and one of 2^31 is refused and changes nothing
  pub passing : (r : Record) (area : List ℕ) (reading : ℕ) → Accepted r area → step_at r reading < 2 ^ 31
      → passes r area reading ≡ true
  pub refusing : (r : Record) (area : List ℕ) (reading : ℕ) → Accepted r area → 2 ^ 31 ≤ step_at r reading
      → tick_call r area reading ≡ refused clock_back r area []
  -- a heartbeat of 2 s; of 30 s; the greatest in seconds; the greatest in milliseconds
  pub two_seconds : Exactly keep_alive2s 2000 5999 6000
  pub thirty_seconds : Exactly keep_alive30s 30000 89999 90000
  pub most_seconds : Exactly most_in_seconds 65535000 196604999 196605000
  pub most_milliseconds : Exactly most_in_milliseconds 4294967295 12884901884 12884901885
  -- the bytes of the examples, and a step round the counter's end
  pub lock : lock_bytes 7 0 ≡ lock4097
  pub reply : (status : ℕ) → reply_bytes 7 status ≡ reply7 status
  pub around : step_of 200 4294967000 ≡ 496

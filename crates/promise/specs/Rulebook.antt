-- R81. The rules over whole messages, datagrams among them, and whom an answer closes.
use Rattle.std.specs.Prelude.{ℕ, zero, suc, ◌/◌, ◌%◌, ◌≡◌, Bool, cond, true, false, List, [], length, get_or, ltb, eqb, Option, Some, None}
use Rattle.frame.specs.Decide.{decide}
use Rattle.frame.specs.declared.Decision.{Decision}
use Rattle.frame.specs.declared.Decision.TheVariants.{Undecided, Faulty, Sound}
use Rattle.layout.specs.Message.{at_front}
use Rattle.mechanism.specs.Datagram.{resets}
use Rattle.connection.specs.State.{connection_count, live_at}
use Rattle.device.specs.State.{fresh_of, open_of, close_of}
use Rattle.device.specs.Time.{tick_of}
use Rattle.device.specs.Obeys.{device_obeys}
use Rattle.device.specs.declared.Device.{Device}
use Rattle.serve.specs.Sound.{sound_of}
use Rattle.taking.specs.Dispatch.{dispatched}
use Rattle.stream.specs.Calls.{Whole, handed, asked}
use Rattle.numbers.specs.Kind.{kind_closed, kind_reset}
use Rattle.answers.specs.Numbers.{opening_numbers, closing_numbers, ticking_numbers}
use Rattle.answers.specs.Numbers.{delivery_numbers, resetting_numbers}
use Rattle.answers.specs.declared.Delivery.TheVariants as deliveries
use Rattle.answers.specs.declared.Resetting.TheVariants as resettings
use Rattle.numbers.specs.Refusal.{not_refused, no_connection, no_room, refusal_numbers}
use Rattle.numbers.specs.declared.Refusal.TheVariants as refusals
use Rattle.replies.specs.Bytes.{least_output}

-- R2. The calls that are no delivery.
pub data Ask : Type 0 where
  opening : Ask
  closing : ℕ → Ask
  ticking : ℕ → Ask
  taking : List ℕ → Ask
  datagram : List ℕ → Ask

-- R81. A call of the rules, whose room is the output lent.
abbrev pub Asked : Type 0
Asked = Whole Ask (List ℕ)

-- R81. What the rules answer: the numbers of R66, and the output.
pub record Given : Type 0 where
  pub answer : List ℕ
  pub output : List ℕ

-- R81. Numbers and an output, as what the rules answer.
abbrev pub given : List ℕ → List ℕ → Given
given answer output = record { answer = answer; output = output }

-- R30, R31. A whole message, by what it decides: run and replied to, or closed with the fault.
unfoldable pub message_by : Decision → Device → ℕ → List ℕ → List ℕ → Device × Given
message_by Undecided d n m out = (d, given [] out)
message_by (Faulty fault t) d n m out = (close_of d n, given (delivery_numbers (deliveries.Closed (length m) fault)) out)
message_by (Sound t) d n m out =
    let s = sound_of d n m in
    (s.device, given (delivery_numbers (deliveries.Message (length m) (length s.reply))) (at_front s.reply out))

-- R58. Opening.
unfoldable pub open_by : Option ℕ → Device → Device → Device × Given
open_by (Some n) d e = (e, given (opening_numbers n) [])
open_by None d e = (d, given (refusal_numbers refusals.TableFull) [])

-- R59. Closing, by whether the connection is open.
unfoldable pub close_by : Bool → Device → ℕ → Device × Given
close_by true d n = (close_of d n, given (closing_numbers tt) [])
close_by false d n = (d, given (refusal_numbers refusals.NoConnection) [])

-- R56. A tick.
unfoldable pub tick_by : Option ℕ → Device → Device → Device × Given
tick_by (Some mask) d e = (e, given (ticking_numbers mask) [])
tick_by None d e = (d, given (refusal_numbers refusals.ClockBack) [])

-- R49. Taking, by whether the output is too small; it is about the device alone.
unfoldable pub take_by : Bool → Device → List ℕ → Device × Given
take_by true d out = (d, given (refusal_numbers refusals.NoRoom) out)
take_by false d out =
    let s = dispatched d out in
    (s.device, given s.answer s.output)

-- R76, R77. A datagram, by whether it resets.
unfoldable pub reset_by : Bool → Device → Device × Given
reset_by true d = (fresh_of d.reading, given (resetting_numbers resettings.Done) [])
reset_by false d = (d, given (resetting_numbers resettings.Nothing) [])

-- R81. THE RULES, when messages come whole: one call of theirs.
unfoldable pub rule : Device → Asked → Device × Given
rule d (handed n m out) = message_by (decide m) d n m out
rule d (asked opening) = open_by (open_of d).answer d (open_of d).device
rule d (asked (closing n)) = close_by (live_at d.connections n) d n
rule d (asked (ticking reading)) = tick_by (tick_of d reading).answer d (tick_of d reading).device
rule d (asked (taking out)) = take_by (ltb (length out) least_output) d out
rule d (asked (datagram g)) = reset_by (resets d.mechanism g) d

-- R3. Connection n is open.
abbrev pub open? : Device → ℕ → Bool
open? d n = live_at d.connections n

-- R64. A delivery's refusal by the device and the output: 3, then 4, else 0.
unfoldable pub admit : Device → ℕ → List ℕ → ℕ
admit d n out = cond (live_at d.connections n) (cond (ltb (length out) least_output) no_room not_refused) no_connection

-- R56. Bit n of a mask.
unfoldable pub bit_of : ℕ → ℕ → Bool
bit_of mask zero = eqb (mask % 2) 1
bit_of mask (suc n) = bit_of (mask / 2) n

-- R66. An answer's first number: its refusal, or 0.
abbrev pub refusal_in : Given → ℕ
refusal_in o = get_or o.answer 0 not_refused

-- R66. The number behind it.
abbrev pub value_in : Given → ℕ
value_in o = get_or o.answer 1 0

-- R60, R76. Whom an answer closes: a reset closes all.
unfoldable pub shut : Asked → Given → ℕ → Bool
shut (handed c m x) o n = cond (eqb (value_in o) kind_closed) (eqb n c) false
shut (asked opening) o n = false
shut (asked (closing c)) o n = cond (eqb (refusal_in o) not_refused) (eqb n c) false
shut (asked (ticking t)) o n = cond (eqb (refusal_in o) not_refused) (bit_of (value_in o) n) false
shut (asked (taking x)) o n = false
shut (asked (datagram g)) o n = eqb (value_in o) kind_reset

-- R61. The record rules of the device, whose array has eight connections.
pub record Fine (d : Device) : Type 0 where
  pub obeys : device_obeys d ≡ true
  pub eight : length d.connections ≡ connection_count

-- R83. The examples that are proved: one table, worked by the rules.
use Rattle.std.specs.Prelude.{ℕ, ◌-◌, ◌^◌, ◌≡◌, List, [], ◌∷◌, ◌++◌, map, length, get_or, take}
use Rattle.octets.specs.Zeros.{zeros}
use Rattle.heartbeat.specs.Beat.{seconds_form, milliseconds_form}
use Rattle.reader.specs.Examples.{Example, keep_alive2s, keep_alive2000ms, lock4097, reply7, muted4097, examples, worked}
use Rattle.connection.specs.State.{closed}
use Rattle.objects.specs.Answers.{identification_of}
use Rattle.device.specs.State.{fresh_of, open_of}
use Rattle.device.specs.Time.{step_of}
use Rattle.device.specs.declared.Device.{Device}
use Rattle.stream.specs.Calls.{handed, asked}
use Rattle.numbers.specs.Status.{held_by_other, carried_out}
use Rattle.answers.specs.Numbers.{ticking_numbers, delivery_numbers, taking_numbers}
use Rattle.answers.specs.declared.Delivery.TheVariants as deliveries
use Rattle.answers.specs.declared.Taking.TheVariants as takings
use Rattle.numbers.specs.Refusal.{refusal_numbers}
use Rattle.numbers.specs.declared.Refusal.TheVariants as refusals
use Rattle.replies.specs.Bytes.{least_output}
use Rattle.promise.specs.Rulebook.{ticking, taking, Given, rule}

-- R83. What the rules give, and what R83 prints.
pub record Row : Type 0 where
  pub gives : List ℕ
  pub wanted : List ℕ

-- R83. A row of these two.
abbrev pub row : List ℕ → List ℕ → Row
row gives wanted = record { gives = gives; wanted = wanted }

-- R83. A device first read at this reading, with connections 0 and 1 open.
abbrev pub two_open : ℕ → Device
two_open reading = (open_of (open_of (fresh_of reading)).device).device

-- R83. The device after a message of connection n.
abbrev pub after_message : Device → ℕ → List ℕ → Device
after_message d n m = (rule d (handed n m [])).0

-- R83. An answer's numbers and its output.
abbrev pub told : Given → List ℕ
told o = o.answer ++ o.output

-- R83. A message of connection n, and the reply that it is to get.
abbrev pub reply_row : Device → ℕ → List ℕ → List ℕ → Row
reply_row d n m reply = row (told (rule d (handed n m [])).1) (delivery_numbers (deliveries.Message (length m) (length reply)) ++ reply)

-- R83. Connection 0's form, heartbeat and silence.
abbrev pub supervision_of : Device → List ℕ
supervision_of d =
    let c = get_or d.connections 0 closed in
    c.form ∷ c.beat ∷ c.silence ∷ []

-- R83. A tick's answer.
abbrev pub tick_answer : Device → ℕ → List ℕ
tick_answer d reading = (rule d (asked (ticking reading))).1.answer

-- R83. The device after a tick.
abbrev pub after_tick : Device → ℕ → Device
after_tick d reading = (rule d (asked (ticking reading))).0

-- R83. What take gives, as far as a message of this length.
abbrev pub taken_from : Device → ℕ → List ℕ
taken_from d long =
    let o = (rule d (asked (taking (zeros least_output)))).1 in
    o.answer ++ take long o.output

-- R83. The command that adds the subscription of the notification; it wants no reply.
abbrev pub subscribe4097 : List ℕ
subscribe4097 =
    0x3B ∷ 0x00 ∷ 0x01 ∷ 0x00 ∷ 0x00 ∷ 0x00 ∷ 0x33 ∷ 0x00 ∷ 0x00 ∷ 0x01
    ∷ 0x00 ∷ 0x00 ∷ 0x00 ∷ 0x2A ∷ 0x00 ∷ 0x00 ∷ 0x00 ∷ 0x01 ∷ 0x00 ∷ 0x00 ∷ 0x00 ∷ 0x04 ∷ 0x00 ∷ 0x03 ∷ 0x00 ∷ 0x01 ∷ 0x05
    ∷ 0x00 ∷ 0x00 ∷ 0x10 ∷ 0x01 ∷ 0x00 ∷ 0x01 ∷ 0x00 ∷ 0x01 ∷ 0x00 ∷ 0x00 ∷ 0x00 ∷ 0x09 ∷ 0x00 ∷ 0x03 ∷ 0x00
    ∷ 0x01 ∷ 0x00 ∷ 0x04 ∷ 0x01 ∷ 0x02 ∷ 0x03 ∷ 0x04 ∷ 0x01 ∷ 0x00 ∷ 0x00 ∷ []

-- R83. The command that mutes 4097; it wants no reply.
abbrev pub mute4097 : List ℕ
mute4097 =
    0x3B ∷ 0x00 ∷ 0x01 ∷ 0x00 ∷ 0x00 ∷ 0x00 ∷ 0x1B ∷ 0x00 ∷ 0x00 ∷ 0x01
    ∷ 0x00 ∷ 0x00 ∷ 0x00 ∷ 0x12 ∷ 0x00 ∷ 0x00 ∷ 0x00 ∷ 0x02 ∷ 0x00 ∷ 0x00 ∷ 0x10 ∷ 0x01 ∷ 0x00 ∷ 0x04 ∷ 0x00 ∷ 0x02 ∷ 0x01
    ∷ 0x01 ∷ []

-- R83. Connection 0 has subscribed.
abbrev pub subscribed : Device
subscribed = after_message (two_open 0) 0 subscribe4097

-- R83. Then connection 1 has muted 4097.
abbrev pub waiting : Device
waiting = after_message subscribed 1 mute4097

-- R83. A message of the examples as it is read.
abbrev pub example_numbers : Example → List ℕ
example_numbers e = e.reads ++ e.first ++ e.part ++ e.context

-- R83. A row of a message that is read.
abbrev pub read_row : Example → Row
read_row e = row (example_numbers (worked e)) (example_numbers e)

-- R83. Both keep-alives: the answer is the same bytes, and the heartbeat is kept in its form.
abbrev pub keep_alive_rows : List Row
keep_alive_rows =
    reply_row (two_open 0) 0 keep_alive2s keep_alive2s
    ∷ row (supervision_of (after_message (two_open 0) 0 keep_alive2s)) (seconds_form ∷ 2000 ∷ 0 ∷ [])
    ∷ reply_row (two_open 0) 0 keep_alive2000ms keep_alive2000ms
    ∷ row (supervision_of (after_message (two_open 0) 0 keep_alive2000ms)) (milliseconds_form ∷ 2000 ∷ 0 ∷ [])
    ∷ []

-- R83. The lock, its response, and the response where another holds the lock.
abbrev pub lock_rows : List Row
lock_rows =
    reply_row (two_open 0) 0 lock4097 (reply7 carried_out)
    ∷ reply_row (after_message (two_open 0) 1 lock4097) 0 lock4097 (reply7 held_by_other)
    ∷ []

-- R83. Nothing to take; then the notification: kind, connection, length, bytes.
abbrev pub notification_rows : List Row
notification_rows =
    row (taken_from subscribed 0) (taking_numbers takings.Nothing)
    ∷ row (taken_from waiting 43) (taking_numbers (takings.Notification 0 43) ++ muted4097)
    ∷ []

-- R83. The class identification of class 1.3.
abbrev pub class_rows : List Row
class_rows = row (identification_of (1 ∷ 3 ∷ [])) (0x00 ∷ 0x02 ∷ 0x00 ∷ 0x01 ∷ 0x00 ∷ 0x03 ∷ 0x00 ∷ 0x01 ∷ []) ∷ []

-- R83. A step round the counter's end, the greatest that passes, and the least that is refused.
abbrev pub step_rows : List Row
step_rows =
    row (step_of 200 4294967000 ∷ []) (496 ∷ [])
    ∷ row (supervision_of (after_tick (after_message (two_open 4294967000) 0 keep_alive2s) 200)) (seconds_form ∷ 2000 ∷ 496 ∷ [])
    ∷ row (tick_answer (two_open 0) (2 ^ 31 - 1)) (ticking_numbers 0)
    ∷ row (tick_answer (two_open 0) (2 ^ 31)) (refusal_numbers refusals.ClockBack)
    ∷ []

-- R83. All rows.
abbrev pub table : List Row
table = map read_row examples ++ keep_alive_rows ++ lock_rows ++ notification_rows ++ class_rows ++ step_rows

-- Theorem. Every row gives what R83 prints.
abbrev pub ExamplesWorked : Type 0
ExamplesWorked = map (λ (r : Row). r.gives) table ≡ map (λ (r : Row). r.wanted) table

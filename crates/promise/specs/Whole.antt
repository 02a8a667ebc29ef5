-- R81. DEMAND THREE: what the real calls give, from a fresh record on, is what the rules give over whole messages, and undecided bytes.
use Rattle.std.specs.Prelude.{ℕ, zero, suc, ◌-◌, ◌≡◌, Bool, cond, true, false, List, [], ◌∷◌, ◌++◌, map, length}
use Rattle.octets.specs.Zeros.{zeros}
use Rattle.frame.specs.Decide.{decide, settled}
use Rattle.split.specs.Exactly.{LastDecides}
use Rattle.area.specs.Area.{area_bytes}
use Rattle.device.specs.State.{fresh_of}
use Rattle.device.specs.declared.Device.{Device}
use Rattle.stream.specs.Calls.{deliver, ask, handed, asked, Held, none_held, put, only, rules, AllBytes}
use Rattle.answers.specs.Numbers.{delivery_numbers}
use Rattle.answers.specs.declared.Delivery.TheVariants as deliveries
use Rattle.endpoint.specs.State.{fresh_state}
use Rattle.endpoint.specs.Outcome.{Outcome}
use Rattle.endpoint.specs.declared.Record.{Record}
use Rattle.promise.specs.Rulebook.{Asked, Given, given, rule, open?, admit}
use Rattle.promise.specs.Calls.{HostCall, run_calls, with_taken, record_with, area_with}
use Rattle.promise.specs.Kept.{held_in, Kept}

-- ---- each call's turn in the run over whole messages

-- R16, R28. The bytes that wait and those of a piece behind them, byte by byte, up to the first at which they are decided.
unfoldable pub up_to : List ℕ → List ℕ → List ℕ
up_to bytes [] = bytes
up_to bytes (b ∷ piece) =
    cond (settled (decide (bytes ++ (b ∷ [])))) (bytes ++ (b ∷ [])) (up_to (bytes ++ (b ∷ [])) piece)

-- R81. What a call is in the run over whole messages.
pub data Turn : Type 0 where
  -- a delivery that hands no message over: the host is told this at once
  tells : Given → Turn
  -- the rules get this whole call; of a delivery's piece so many bytes are taken, the last of them the deciding byte
  hands : ℕ → Asked → Turn

-- R28, R29, R64. The turn of a delivery to connection n and the bytes that then wait: by the number that refuses it, or 0, and by
-- whether m is decided, which is the bytes that waited and the piece's up to the deciding one.
unfoldable pub turn_by : ℕ → Bool → Held → ℕ → List ℕ → List ℕ → List ℕ → Turn × Held
turn_by (suc number) b h n m piece out = (tells (given (suc number ∷ []) out), h)
turn_by zero false h n m piece out = (tells (given (delivery_numbers (deliveries.More (length piece))) out), put h n m)
turn_by zero true h n m piece out = (hands (length m - length (h n)) (handed n m out), put h n [])

-- R81. A call's turn, where the rules have come to device d and the bytes h wait.
unfoldable pub turn_of : Device → Held → HostCall → Turn × Held
turn_of d h (deliver n piece out) =
    let m = up_to (h n) piece in
    turn_by (admit d n out) (settled (decide m)) h n m piece out
turn_of d h (ask a) = (hands 0 (asked a), h)

-- R81. The rules' device after a turn.
unfoldable pub device_by : Device → Turn → Device
device_by d (tells g) = d
device_by d (hands k w) = (rule d w).0

-- R60, R81. The calls' turns one after another, and the bytes that wait at the end; a connection that is closed has none.
unfoldable pub turns_of : Device → Held → List HostCall → List Turn × Held
turns_of d h [] = ([], h)
turns_of d h (c ∷ calls) =
    let t = turn_of d h c in
    let e = device_by d t.0 in
    let rest = turns_of e (only (open? e) t.1) calls in
    (t.0 ∷ rest.0, rest.1)

-- R81. THE WHOLE CALLS of those turns.
unfoldable pub wholes_in : List Turn → List Asked
wholes_in [] = []
wholes_in (tells g ∷ turns) = wholes_in turns
wholes_in (hands k w ∷ turns) = w ∷ wholes_in turns

-- ---- what the host is told

-- R28, R66. What the rules gave to a whole call; a delivery's answer says how many bytes of its piece were taken.
unfoldable pub with_bytes : ℕ → Asked → Given → Given
with_bytes k (handed n m out) o = given (with_taken k o.answer) o.output
with_bytes k (asked a) o = o

-- R81. Each call's answer and output, where the rules gave these to the whole calls, in order.
unfoldable pub told_in : List Turn → List Given → List Given
told_in [] os = []
told_in (tells g ∷ turns) os = g ∷ told_in turns os
told_in (hands k w ∷ turns) [] = []
told_in (hands k w ∷ turns) (o ∷ os) = with_bytes k w o ∷ told_in turns os

-- R81. What the host sees of a call.
abbrev pub host_sees : Outcome → Given
host_sees o = given o.answer o.output

-- ---- the theorem

-- R16, R81. Every message among whole calls ends with its deciding byte.
unfoldable pub AllEndDeciding : List Asked → Type 0
AllEndDeciding [] = Unit {0}
AllEndDeciding (handed n m out ∷ ws) = LastDecides m × AllEndDeciding ws
AllEndDeciding (asked a ∷ ws) = AllEndDeciding ws

-- R81. The calls up to each of some calls, that one too.
unfoldable pub fronts_of : List HostCall → List (List HostCall)
fronts_of [] = []
fronts_of (c ∷ calls) = (c ∷ []) ∷ map (λ (front : List HostCall). c ∷ front) (fronts_of calls)

module _ (d : Device) (h : Held) where
  -- R81. The whole calls of some calls, from device d with the bytes h waiting.
  abbrev pub wholes_of : List HostCall → List Asked
  wholes_of calls = wholes_in (turns_of d h calls).0

  -- R81. THE RULES, one whole call after another: the last device, and what each of them gave.
  abbrev pub by_rules : List HostCall → Device × List Given
  by_rules calls = rules rule d (wholes_of calls)

  -- R81. So each call's answer and output.
  abbrev pub host_told : List HostCall → List Given
  host_told calls = told_in (turns_of d h calls).0 (by_rules calls).1

  -- R81. The bytes that wait at the end.
  abbrev pub bytes_waiting : List HostCall → Held
  bytes_waiting calls = (turns_of d h calls).1

  -- R81. The record and the area at the end: the rules' device, and the bytes that wait.
  abbrev pub left_after : List HostCall → Record × List ℕ
  left_after calls = (record_with (by_rules calls).0 (bytes_waiting calls), area_with (bytes_waiting calls))

  -- R81. A run of these calls, its last record and area and what each call gave, is as the rules over whole messages.
  pub record AsRules (calls : List HostCall) (run : (Record × List ℕ) × List Outcome) : Type 0 where
    -- every reply, closure, notification, keep-alive and refusal: what each call answers and leaves in the output
    pub sees : map host_sees run.1 ≡ host_told calls
    -- every lock, subscription and mute, after each call: its record and area are those of the rules after the calls up to it
    pub each : map (λ (o : Outcome). (o.state, o.area)) run.1 ≡ map left_after (fronts_of calls)
    -- at the end the record is the rules' device and the counts of the bytes that wait, the area those bytes and zeros
    pub state : run.0.0 ≡ record_with (by_rules calls).0 (bytes_waiting calls)
    pub area : run.0.1 ≡ area_with (bytes_waiting calls)
    -- the bytes that wait are undecided, and a closed connection has none
    pub undecided : (n : ℕ) → settled (decide (bytes_waiting calls n)) ≡ false
    pub closed : (n : ℕ) → open? (by_rules calls).0 n ≡ false → bytes_waiting calls n ≡ []
    -- each message was handed over at the place of its deciding byte
    pub messages : AllEndDeciding (wholes_of calls)

-- Theorem. What any calls give is what the rules give over whole messages, each at the place of its deciding byte, and undecided bytes.
pub record DemandThree : Type 0 where
  -- from a fresh record and a zeroed area, whatever calls are made
  pub fresh : (reading : ℕ) (calls : List HostCall) → AllBytes calls
      → AsRules (fresh_of reading) none_held calls (run_calls (fresh_state reading) (zeros area_bytes) calls)
  -- and from any record and area to which refusals 1 and 2 do not apply
  pub later : (r : Record) (area : List ℕ) (calls : List HostCall) → Kept r area → AllBytes calls
      → AsRules r.device (held_in r area) calls (run_calls r area calls)
  -- a run goes on from what it left, so the above holds at each place of a longer run
  pub places : (r : Record) (area : List ℕ) (calls more : List HostCall)
      → let run = run_calls r area calls in
      let rest = run_calls run.0.0 run.0.1 more in
      run_calls r area (calls ++ more) ≡ (rest.0, run.1 ++ rest.1)

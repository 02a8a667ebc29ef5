-- R82. A script of calls in bytes, run on one record, one area and one output.
use Rattle.std.specs.Prelude.{ℕ, zero, suc, ◌+◌, ◌-◌, ◌≤◌, ◌≡◌, cond, List, [], ◌∷◌, map, length, get_or, take, drop, eqb, ltb, leb}
use Rattle.octets.specs.Numbers.{be32_at}
use Rattle.stream.specs.Calls.{deliver, ask}
use Rattle.endpoint.specs.declared.Record.{Record}
use Rattle.promise.specs.Rulebook.{opening, closing, ticking, taking, datagram, Given}
use Rattle.promise.specs.Calls.{HostCall, call_of, run_calls}
use Rattle.promise.specs.Whole.{host_sees}
use Rattle.answers.specs.Numbers.{numbers_of}
use Rattle.answers.specs.declared.Numbers.{Numbers}
use Rattle.script.specs.declared.Call.{Call}
use Rattle.script.specs.declared.Call.TheVariants.{Open, Close, Tick, Take, Datagram, Deliver}

-- R82. How a script stands: the record, the area, the output, and the last call's answer.
pub record Stage : Type 0 where
  pub state : Record
  pub area : List ℕ
  pub output : List ℕ
  pub answer : Numbers

-- R82. A stage of these.
abbrev pub stage : Record → List ℕ → List ℕ → Numbers → Stage
stage state area output answer = record { state = state; area = area; output = output; answer = answer }

-- R82. The output once a call is made, which is lent to deliveries and takings alone.
unfoldable pub output_after : HostCall → Given → List ℕ → List ℕ
output_after (deliver n piece x) o output = o.output
output_after (ask opening) o output = output
output_after (ask (closing n)) o output = output
output_after (ask (ticking reading)) o output = output
output_after (ask (taking x)) o output = o.output
output_after (ask (datagram g)) o output = output

-- R82. How the script stands once a call is made.
unfoldable pub stage_of : HostCall → Record → List ℕ → List ℕ → Stage
stage_of c r area output =
    let o = call_of r area c in
    stage o.state o.area (output_after c (host_sees o) output) (numbers_of o.answer)

-- ---- how calls are written: a kind, a connection's number, a number of 32 bits, and the piece of a datagram or a delivery

-- R82. Kind 0: opening.
abbrev pub call_open : ℕ
call_open = 0

-- R82. Kind 1: the host's close.
abbrev pub call_close : ℕ
call_close = 1

-- R82. Kind 2: a clock reading.
abbrev pub call_tick : ℕ
call_tick = 2

-- R82. Kind 3: a taking, the last kind without a piece.
abbrev pub call_take : ℕ
call_take = 3

-- R82. Kind 4: a datagram on the mechanism's port; any kind above delivers.
abbrev pub call_datagram : ℕ
call_datagram = 4

-- R82. 4 is a datagram; any other of the kinds with a piece delivers to that connection.
unfoldable pub sent_by : ℕ → ℕ → List ℕ → List ℕ → HostCall
sent_by kind n piece output = cond (eqb kind call_datagram) (ask (datagram piece)) (deliver n piece output)

-- R82. 0 opens, 1 closes that connection, 2 is a clock reading, 3 takes; any other sends its piece.
unfoldable pub call_by : ℕ → ℕ → ℕ → List ℕ → List ℕ → HostCall
call_by kind n value piece output =
    cond (eqb kind call_open) (ask opening)
    (cond (eqb kind call_close) (ask (closing n))
    (cond (eqb kind call_tick) (ask (ticking value))
    (cond (eqb kind call_take) (ask (taking output))
    (sent_by kind n piece output))))

-- R82. The bytes of a call without its piece.
abbrev pub call_head : ℕ
call_head = 6

-- R82. How many bytes the first call has: a piece is as long as its number says, or as what is left.
unfoldable pub first_size : List ℕ → ℕ
first_size s =
    cond (leb (get_or s 0 0) call_take) call_head
    (cond (ltb (length s) (call_head + be32_at s 2)) (length s) (call_head + be32_at s 2))

-- R82. The first call of a script, lent this output.
unfoldable pub call_in : List ℕ → List ℕ → HostCall
call_in s output = call_by (get_or s 0 0) (get_or s 1 0) (be32_at s 2) (take (first_size s - call_head) (drop call_head s)) output

-- R82. The script behind its first call.
unfoldable pub behind : List ℕ → List ℕ
behind s = drop (first_size s) s

-- R82. A call of a script, lent this output.
abbrev pub call_lent : Call → List ℕ → HostCall
call_lent Open output = ask opening
call_lent (Close n) output = ask (closing n)
call_lent (Tick reading) output = ask (ticking reading)
call_lent Take output = ask (taking output)
call_lent (Datagram piece) output = ask (datagram piece.now)
call_lent (Deliver n piece) output = deliver n piece.now output

-- R82. How many bytes it has.
abbrev pub call_size : Call → ℕ
call_size Open = call_head
call_size (Close n) = call_head
call_size (Tick reading) = call_head
call_size Take = call_head
call_size (Datagram piece) = call_head + length piece.now
call_size (Deliver n piece) = call_head + length piece.now

-- R82. These bytes are the piece of the first call of s, if its kind has one.
pub record PieceIs (s piece : List ℕ) : Type 0 where
  pub bytes : piece ≡ take (first_size s - call_head) (drop call_head s)
  pub size : call_head + length piece ≡ first_size s
  pub within : first_size s ≤ length s

-- R82. It is the first call of s, whatever output it is lent.
pub record FirstCall (s : List ℕ) (c : Call) : Type 0 where
  pub call : (output : List ℕ) → call_lent c output ≡ call_in s output
  pub size : call_size c ≡ first_size s
  pub some : call_head ≤ first_size s
  pub within : first_size s ≤ length s

-- R82. A script's calls, at most so many, each lent the output as the one before left it.
unfoldable pub calls_from : ℕ → Record → List ℕ → List ℕ → List ℕ → List HostCall
calls_from zero r area s output = []
calls_from (suc k) r area s output =
    cond (ltb (length s) call_head) []
    (call_in s output ∷ calls_from k (call_of r area (call_in s output)).state (call_of r area (call_in s output)).area (behind s)
    (output_after (call_in s output) (host_sees (call_of r area (call_in s output))) output))

-- R82. All of them: each has a byte at least.
unfoldable pub calls_in : Record → List ℕ → List ℕ → List ℕ → List HostCall
calls_in r area s output = calls_from (length s) r area s output

-- R82. The output that a run leaves.
unfoldable pub last_output : List ℕ → List HostCall → List Given → List ℕ
last_output output [] os = output
last_output output (c ∷ cs) [] = output
last_output output (c ∷ cs) (o ∷ os) = last_output (output_after c o output) cs os

-- R82. The answer that a run leaves.
unfoldable pub last_answer : Numbers → List Given → Numbers
last_answer a [] = a
last_answer a (o ∷ os) = last_answer (numbers_of o.answer) os

-- R82. How a run of these calls ends.
unfoldable pub end_of : List HostCall → Record → List ℕ → List ℕ → Numbers → Stage
end_of cs r area output a =
    let t = run_calls r area cs in
    stage t.0.0 t.0.1 (last_output output cs (map host_sees t.1)) (last_answer a (map host_sees t.1))

-- R82. THE SCRIPT: the run of its calls.
unfoldable pub script_of : Record → List ℕ → List ℕ → List ℕ → Stage
script_of r area s output = end_of (calls_in r area s output) r area output (numbers_of [])

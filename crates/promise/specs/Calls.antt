-- R2, R81. The endpoint's calls as one function, and lists of them.
use Rattle.std.specs.Prelude.{ℕ, List, [], ◌∷◌, set}
use Rattle.connection.specs.State.{connection_count}
use Rattle.device.specs.declared.Device.{Device}
use Rattle.stream.specs.Calls.{Call, deliver, ask, Held}
use Rattle.stream.specs.Lent.{flat, counts_of}
use Rattle.endpoint.specs.State.{state_of}
use Rattle.endpoint.specs.Outcome.{Outcome, outcome}
use Rattle.endpoint.specs.Calls.{open_call, close_call, tick_call}
use Rattle.endpoint.specs.Deliver.{deliver_call}
use Rattle.endpoint.specs.Take.{take_call}
use Rattle.reset.specs.Datagram.{datagram_call}
use Rattle.endpoint.specs.declared.Record.{Record}
use Rattle.promise.specs.Rulebook.{Ask, opening, closing, ticking, taking, datagram}

-- R2. A call of a host, with the output that it lends.
abbrev pub HostCall : Type 0
HostCall = Call Ask (List ℕ)

-- R2. The endpoint's calls, by their definitions.
unfoldable pub call_of : Record → List ℕ → HostCall → Outcome
call_of r area (deliver n piece out) = deliver_call r area n piece out
call_of r area (ask opening) = outcome (open_call r).answer (open_call r).state area []
call_of r area (ask (closing n)) = close_call r area n
call_of r area (ask (ticking reading)) = tick_call r area reading
call_of r area (ask (taking out)) = outcome (take_call r out).answer (take_call r out).state area (take_call r out).output
call_of r area (ask (datagram g)) = datagram_call r area g

-- R81. A list of calls, each state passed on: the last record and area, and what each call gave.
unfoldable pub run_calls : Record → List ℕ → List HostCall → (Record × List ℕ) × List Outcome
run_calls r area [] = ((r, area), [])
run_calls r area (c ∷ cs) =
    let o = call_of r area c in
    let t = run_calls o.state o.area cs in
    (t.0, o ∷ t.1)

-- R66. The numbers of a delivery that decided: 0, the kind, the bytes taken, the value.
unfoldable pub with_taken : ℕ → List ℕ → List ℕ
with_taken k answer = set answer 2 k

-- R3. The record of device d with h held.
abbrev pub record_with : Device → Held → Record
record_with d h = state_of d (counts_of h connection_count)

-- R4. The area with h held.
abbrev pub area_with : Held → List ℕ
area_with h = flat h connection_count

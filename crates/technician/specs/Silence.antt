-- R28, R32, R51 to R53. Calls in which a connection says nothing whole, and the time that they bring.
use Rattle.std.specs.Prelude.{ℕ, ◌+◌, Bool, cond, true, not, ◌&&◌, ◌||◌, List, [], ◌∷◌, eqb, ltb, length}
use Rattle.frame.specs.Decide.{decide, settled}
use Rattle.mechanism.specs.Datagram.{resets}
use Rattle.replies.specs.Bytes.{least_output}
use Rattle.stream.specs.Calls.{deliver, ask}
use Rattle.endpoint.specs.declared.Record.{Record}
use Rattle.promise.specs.Rulebook.{opening, closing, ticking, taking, datagram}
use Rattle.promise.specs.Calls.{HostCall, call_of}
use Rattle.promise.specs.Ticks.{step_at, passes}
use Rattle.promise.specs.Heartbeats.{brought_by}

-- R32. By this call connection n says no whole message, and neither the host nor a reset closes it; what is refused says nothing.
unfoldable pub is_silent : ℕ → Record → List ℕ → HostCall → Bool
is_silent n r area (deliver k piece out) =
    not (eqb k n) || (ltb (length out) least_output || not (settled (decide (brought_by r area k piece))))
is_silent n r area (ask opening) = true
is_silent n r area (ask (closing k)) = not (eqb k n)
is_silent n r area (ask (ticking reading)) = true
is_silent n r area (ask (taking out)) = true
is_silent n r area (ask (datagram g)) = not (resets r.device.mechanism g)

-- R51. The time that a call brings: the step of a tick that is not refused.
unfoldable pub step_in : Record → List ℕ → HostCall → ℕ
step_in r area (deliver k piece out) = 0
step_in r area (ask opening) = 0
step_in r area (ask (closing k)) = 0
step_in r area (ask (ticking reading)) = cond (passes r area reading) (step_at r reading) 0
step_in r area (ask (taking out)) = 0
step_in r area (ask (datagram g)) = 0

-- R81. The record and the area after these calls.
unfoldable pub calls_of : Record → List ℕ → List HostCall → Record × List ℕ
calls_of r area [] = (r, area)
calls_of r area (c ∷ rest) = calls_of (call_of r area c).state (call_of r area c).area rest

-- R32. Connection n is silent in all of these calls.
unfoldable pub all_silent : ℕ → Record → List ℕ → List HostCall → Bool
all_silent n r area [] = true
all_silent n r area (c ∷ rest) = is_silent n r area c && all_silent n (call_of r area c).state (call_of r area c).area rest

-- R51. The time that these calls bring.
unfoldable pub time_in : Record → List ℕ → List HostCall → ℕ
time_in r area [] = 0
time_in r area (c ∷ rest) = step_in r area c + time_in (call_of r area c).state (call_of r area c).area rest

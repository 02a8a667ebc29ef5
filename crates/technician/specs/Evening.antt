-- R83. The evening in a hall, through the calls: what the technician's theorem supposes is so, and what it says follows.
use Rattle.std.specs.Prelude.{ℕ, ◌≡◌, List, [], ◌∷◌, ◌++◌, take}
use Rattle.numbers.specs.Status.{held_by_other}
use Rattle.octets.specs.Zeros.{zeros}
use Rattle.reader.specs.Examples.{keep_alive2s}
use Rattle.answers.specs.Numbers.{opening_numbers}
use Rattle.area.specs.Area.{area_bytes}
use Rattle.replies.specs.Bytes.{least_output}
use Rattle.stream.specs.Calls.{deliver, ask}
use Rattle.endpoint.specs.Outcome.{Outcome}
use Rattle.endpoint.specs.State.{fresh_state}
use Rattle.endpoint.specs.Calls.{open_call}
use Rattle.endpoint.specs.Deliver.{deliver_call}
use Rattle.endpoint.specs.declared.Record.{Record}
use Rattle.promise.specs.Rulebook.{opening, ticking}
use Rattle.promise.specs.Calls.{HostCall}
use Rattle.technician.specs.Silence.{calls_of}
use Rattle.technician.specs.Lock.{lock_bytes, CanAsk, Answered}
use Rattle.technician.specs.Technician.{Course, at_last, since_then, Ends, GoesSilent, Holds, Reaches, Asks, Enters, keep_alive30s}

-- R63. The output that the host lends.
abbrev pub lent : List ℕ
lent = zeros least_output

-- R57, R58. A fresh record at reading 0 and a zeroed area; the tablet connects, then the technician's controller.
abbrev pub hall : Record × List ℕ
hall = calls_of (fresh_state 0) (zeros area_bytes) (ask opening ∷ ask opening ∷ [])

-- R36. There the tablet, connection 0, sends the keep-alive m.
abbrev pub greeted : Record → List ℕ → List ℕ → Outcome
greeted r area m = deliver_call r area 0 m lent

-- R29, R51. Then half a message comes of it, and nothing more; a tick brings the time to a reading.
abbrev pub dying : ℕ → List HostCall
dying reading = deliver 0 (take 13 (lock_bytes 8 4)) lent ∷ ask (ticking reading) ∷ []

-- R42. Then the technician's controller, connection 1, asks for channel 5 in vain.
abbrev pub in_vain : ℕ → List HostCall
in_vain reading = dying reading ++ (deliver 1 (lock_bytes 9 4) lent ∷ [])

-- R42. The tablet's last whole message is its lock of channel 5; then these calls come.
abbrev pub evening : Record → List ℕ → List ℕ → List HostCall → Course
evening r area m calls =
    record {
      start = (greeted r area m).state;
      area = (greeted r area m).area;
      tablet = 0;
      piece = lock_bytes 7 4;
      out = lent;
      calls = calls;
    }

-- R53. Such an evening with the keep-alive m, which sets H: in vain at the last reading, and let in at the next.
pub record TakenOver (r : Record) (area m : List ℕ) (H last next : ℕ) : Type 0 where
  -- what is supposed
  pub ends : Ends r area 0 m lent m
  pub dies : GoesSilent (evening r area m (dying last)) H
  pub silent : GoesSilent (evening r area m (in_vain last)) H
  pub holds : Holds (evening r area m (in_vain last)) 4
  pub time : since_then (evening r area m (in_vain last)) ≡ last
  pub reaches : Reaches (evening r area m (in_vain last)) next H
  pub can : CanAsk (at_last (evening r area m (dying last))).0 1 9 4 lent
  pub asks : Asks (evening r area m (in_vain last)) next [] 1 10 4 lent
  -- and what follows
  pub refused : let end = at_last (evening r area m (dying last)) in Answered end.0 end.1 1 9 4 lent held_by_other 0
  pub let_in : Enters (evening r area m (in_vain last)) next [] 1 10 4 lent

-- Theorem. The evening in a hall, with heartbeats of 2 s and of 30 s.
pub record EveningInAHall : Type 0 where
  -- the tablet is connection 0, the technician's controller connection 1
  pub tablet : (open_call (fresh_state 0)).answer ≡ opening_numbers 0
  pub technician : (open_call (open_call (fresh_state 0)).state).answer ≡ opening_numbers 1
  pub two_seconds : TakenOver hall.0 hall.1 keep_alive2s 2000 5999 6000
  pub thirty_seconds : TakenOver hall.0 hall.1 keep_alive30s 30000 89999 90000

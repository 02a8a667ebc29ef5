-- R49 to R55. A connection on which nothing is sent for H is sent something.
use Rattle.std.specs.Prelude.{ℕ, zero, suc, ◌+◌, ◌<◌, ◌≤◌, ◌≡◌, ◌⊎◌, Bool, true, false, cond, ◌&&◌, ◌||◌, eqb}
use Rattle.std.specs.Prelude.{List, [], ◌∷◌, ◌++◌, length, get_or, take}
use Rattle.laws.specs.Lists.{any}
use Rattle.heartbeat.specs.Beat.{form_of, beat_of}
use Rattle.heartbeat.specs.declared.Heartbeat.{Heartbeat}
use Rattle.frame.specs.Limits.{notification, response}
use Rattle.frame.specs.Header.{pdu_type}
use Rattle.frame.specs.Decide.{decide}
use Rattle.frame.specs.declared.Decision.TheVariants.{Sound}
use Rattle.layout.specs.Message.{at_front}
use Rattle.area.specs.Area.{undecided_of}
use Rattle.connection.specs.State.{connection_count, closed, live_at, is_due, lowest_due}
use Rattle.subscription.specs.State.{entry_count, is_waiting}
use Rattle.device.specs.declared.Device.{Device}
use Rattle.replies.specs.Bytes.{keep_alive_bytes, least_output}
use Rattle.answers.specs.Numbers.{taking_numbers}
use Rattle.answers.specs.declared.Taking.TheVariants as takings
use Rattle.endpoint.specs.State.{record_obeys}
use Rattle.device.specs.Time.{step_of}
use Rattle.endpoint.specs.Calls.{tick_call}
use Rattle.endpoint.specs.Deliver.{held_at, deliver_call}
use Rattle.endpoint.specs.Take.{take_call}
use Rattle.endpoint.specs.declared.Record.{Record}
use Rattle.promise.specs.Kept.{Kept}
use Rattle.promise.specs.Ticks.{step_at, passes}

-- R56. The record and the area after ticks at these readings, with no other call between.
unfoldable pub ticks_call : Record → List ℕ → List ℕ → Record × List ℕ
ticks_call r area [] = (r, area)
ticks_call r area (reading ∷ rest) = ticks_call (tick_call r area reading).state (tick_call r area reading).area rest

-- R56. None of them is refused.
unfoldable pub all_pass : Record → List ℕ → List ℕ → Bool
all_pass r area [] = true
all_pass r area (reading ∷ rest) =
    passes r area reading && all_pass (tick_call r area reading).state (tick_call r area reading).area rest

-- R51. The sum of their steps, from the last reading on.
unfoldable pub ticks_time : ℕ → List ℕ → ℕ
ticks_time last [] = 0
ticks_time last (reading ∷ rest) = step_of reading last + ticks_time reading rest

-- R54. Connection n is open, with heartbeat H above zero and that quiet, due or not.
pub record Paced (d : Device) (n H quiet : ℕ) (due : Bool) : Type 0 where
  pub live : live_at d.connections n ≡ true
  pub above : 0 < H
  pub beat : (get_or d.connections n closed).beat ≡ H
  pub counted : (get_or d.connections n closed).quiet ≡ quiet
  pub marked : (get_or d.connections n closed).due ≡ due

-- R53. Connection n is open after the tick.
abbrev pub open_after : Record → List ℕ → ℕ → ℕ → Bool
open_after r area reading n = live_at (tick_call r area reading).state.device.connections n

-- R53. Connection n is open after ticks one after another.
abbrev pub open_at_last : Record → List ℕ → List ℕ → ℕ → Bool
open_at_last r area readings n = live_at (ticks_call r area readings).0.device.connections n

-- ---- what is received

-- R28. Connection n's undecided bytes and the piece.
abbrev pub brought_by : Record → List ℕ → ℕ → List ℕ → List ℕ
brought_by r area n piece = undecided_of area n (held_at r n) ++ piece

-- R33. The message is a notification or a response.
unfoldable pub is_unanswered : List ℕ → Bool
is_unanswered m = eqb (pdu_type m) notification || eqb (pdu_type m) response

-- ---- takes

-- R61. A record that refusal 1 lets pass, its arrays with their lengths.
pub record Ready (r : Record) : Type 0 where
  pub obeys : record_obeys r ≡ true
  pub eight : length r.device.connections ≡ connection_count
  pub entries : length r.device.subscriptions ≡ entry_count

-- R49, R50. The take sends connection n a keep-alive of its form and H, and clears its quiet and due.
pub record Reminds (r : Record) (out : List ℕ) (n H : ℕ) : Type 0 where
  pub heartbeat : Heartbeat
  pub form : form_of heartbeat ≡ (get_or r.device.connections n closed).form
  pub beat : beat_of heartbeat ≡ H
  pub answer : (take_call r out).answer ≡ taking_numbers (takings.KeepAlive n (length (keep_alive_bytes heartbeat)))
  pub output : (take_call r out).output ≡ at_front (keep_alive_bytes heartbeat) out
  pub after : Paced (take_call r out).state.device n H 0 false

-- R50. The take sends connection n something, clears its quiet and due, and leaves the others as they were.
pub record SendsTo (r : Record) (out : List ℕ) (n : ℕ) : Type 0 where
  pub size : ℕ
  pub answer : ((take_call r out).answer ≡ taking_numbers (takings.Notification n size))
      ⊎ ((take_call r out).answer ≡ taking_numbers (takings.KeepAlive n size))
  pub quiet : (get_or (take_call r out).state.device.connections n closed).quiet ≡ 0
  pub due : (get_or (take_call r out).state.device.connections n closed).due ≡ false
  pub others : (k : ℕ) → eqb k n ≡ false
      → get_or (take_call r out).state.device.connections k closed ≡ get_or r.device.connections k closed

-- R49. How many elements meet the test.
abbrev pub count : {A : Type 0} → (A → Bool) → List A → ℕ
count p [] = 0
count p (x ∷ l) = cond (p x) 1 0 + count p l

-- R49. An entry waits, or a connection is due.
unfoldable pub something_waits : Device → Bool
something_waits d = any is_waiting d.subscriptions || any is_due d.connections

-- R49. How many entries wait and connections are due.
unfoldable pub waiting_in : Device → ℕ
waiting_in d = count is_waiting d.subscriptions + count is_due d.connections

-- R49. No more than every entry and every connection, 40.
abbrev pub most_waiting : ℕ
most_waiting = entry_count + connection_count

-- R49. The record after so many takes with these outputs, with no other call between.
unfoldable pub takes_call : Record → (ℕ → List ℕ) → ℕ → Record
takes_call r outs zero = r
takes_call r outs (suc k) = takes_call (take_call r (outs 0)).state (λ i. outs (suc i)) k

-- R50. One of the next takes, fewer than most, sends connection n something.
pub record SentWithin (r : Record) (outs : ℕ → List ℕ) (n most : ℕ) : Type 0 where
  pub which : ℕ
  pub soon : which < most
  pub sends : SendsTo (takes_call r outs which) (outs which) n

-- ---- what is supposed

-- R54. The tick is not refused and leaves connection n open, which was paced so before it.
pub record PacedTick (r : Record) (area : List ℕ) (reading n H quiet : ℕ) (due : Bool) : Type 0 where
  pub paced : Paced r.device n H quiet due
  pub passing : passes r area reading ≡ true
  pub stays : open_after r area reading n ≡ true

-- R54. None of the ticks is refused, and connection n, paced so and not due before, stays open.
pub record PacedTicks (r : Record) (area readings : List ℕ) (n H quiet : ℕ) : Type 0 where
  pub paced : Paced r.device n H quiet false
  pub passing : all_pass r area readings ≡ true
  pub stays : open_at_last r area readings n ≡ true

-- R54. Such ticks, over which quiet comes from below H to H.
pub record DueTicks (r : Record) (area readings : List ℕ) (n H quiet : ℕ) : Type 0 where
  pub ticks : PacedTicks r area readings n H quiet
  pub below : quiet < H
  pub reaches : H ≤ quiet + ticks_time r.device.reading readings

-- R64. The take is not refused.
pub record ReadyTake (r : Record) (out : List ℕ) : Type 0 where
  pub ready : Ready r
  pub room : least_output ≤ length out

-- R63. Each output has room.
abbrev pub Roomy : (ℕ → List ℕ) → Type 0
Roomy outs = (k : ℕ) → least_output ≤ length (outs k)

-- Theorem. A connection that stays open until its quiet reaches H is sent something by one of the next 40 takes.
pub record HeartbeatSent : Type 0 where
  -- the tick at which quiet reaches H makes the connection due
  pub due : (r : Record) (area : List ℕ) (reading n H quiet : ℕ) → PacedTick r area reading n H quiet false
      → H ≤ quiet + step_at r reading → Paced (tick_call r area reading).state.device n H 0 true
  -- no tick does so before: quiet is the quiet that was, and the step
  pub counts : (r : Record) (area : List ℕ) (reading n H quiet : ℕ) → PacedTick r area reading n H quiet false
      → quiet + step_at r reading < H → Paced (tick_call r area reading).state.device n H (quiet + step_at r reading) false
  -- once due, no tick that leaves it open ends that
  pub stays_due : (r : Record) (area : List ℕ) (reading n H quiet : ℕ) → PacedTick r area reading n H quiet true
      → Paced (tick_call r area reading).state.device n H quiet true
  -- tick after tick, the quiet is the sum of the steps as long as that is below H
  pub many : (r : Record) (area readings : List ℕ) (n H quiet : ℕ) → PacedTicks r area readings n H quiet
      → quiet + ticks_time r.device.reading readings < H
      → Paced (ticks_call r area readings).0.device n H (quiet + ticks_time r.device.reading readings) false
  -- and once the sum has reached H, it is due
  pub due_by_then : (r : Record) (area readings : List ℕ) (n H quiet : ℕ) → DueTicks r area readings n H quiet
      → Paced (ticks_call r area readings).0.device n H 0 true
  -- R33: what is received and not answered clears neither quiet nor due
  pub received : (r : Record) (area : List ℕ) (n : ℕ) (piece out : List ℕ) (t H quiet : ℕ) (due : Bool)
      → Paced r.device n H quiet due → decide (brought_by r area n piece) ≡ Sound t
      → is_unanswered (take t (brought_by r area n piece)) ≡ true → Paced (deliver_call r area n piece out).state.device n H quiet due
  -- where no entry waits, a take sends the lowest connection due its keep-alive
  pub sends : (r : Record) (out : List ℕ) (n H quiet : ℕ) → ReadyTake r out → Paced r.device n H quiet true
      → any is_waiting r.device.subscriptions ≡ false → lowest_due r.device.connections ≡ n → Reminds r out n H
  -- where an entry waits or a connection is due, a take sends something
  pub something : (r : Record) (out : List ℕ) → ReadyTake r out → something_waits r.device ≡ true → (n : ℕ) × SendsTo r out n
  -- so that fewer wait after it, of at most 40
  pub fewer : (r : Record) (out : List ℕ) → ReadyTake r out → something_waits r.device ≡ true
      → waiting_in (take_call r out).state.device < waiting_in r.device
  pub most : (r : Record) → Ready r → waiting_in r.device ≤ most_waiting
  -- so a connection due is sent something by one of that many takes
  pub reached : (r : Record) (outs : ℕ → List ℕ) (n : ℕ) → Ready r → Roomy outs
      → (get_or r.device.connections n closed).due ≡ true → SentWithin r outs n (waiting_in r.device)
  -- together: a connection that stays open over ticks, with no other call between, until its quiet has reached H is sent something by
  -- one of the next 40 takes
  pub heard : (r : Record) (area readings : List ℕ) (n H quiet : ℕ) (outs : ℕ → List ℕ) → Kept r area
      → length r.device.subscriptions ≡ entry_count → DueTicks r area readings n H quiet → Roomy outs
      → SentWithin (ticks_call r area readings).0 outs n most_waiting

-- R51, R53, R56. The step of a tick, whether it is refused, and a connection that is watched.
use Rattle.std.specs.Prelude.{ℕ, ◌≡◌, Bool, true, List, eqb, get_or}
use Rattle.numbers.specs.Refusal.{not_refused, bad_record}
use Rattle.connection.specs.State.{closed, live_at}
use Rattle.device.specs.Time.{step_of}
use Rattle.device.specs.declared.Device.{Device}
use Rattle.endpoint.specs.Calls.{tick_call}
use Rattle.endpoint.specs.declared.Record.{Record}

-- R51. The step of a tick.
abbrev pub step_at : Record → ℕ → ℕ
step_at r reading = step_of reading r.device.reading

-- R56. The tick is not refused.
unfoldable pub passes : Record → List ℕ → ℕ → Bool
passes r area reading = eqb (get_or (tick_call r area reading).answer 0 bad_record) not_refused

-- R53. Connection n is open, with heartbeat H and that silence.
pub record Watched (d : Device) (n H silence : ℕ) : Type 0 where
  pub live : live_at d.connections n ≡ true
  pub beat : (get_or d.connections n closed).beat ≡ H
  pub silent : (get_or d.connections n closed).silence ≡ silence

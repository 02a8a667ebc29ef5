-- R51, R56. A tick.
use Rattle.std.specs.Prelude.{ℕ, ◌+◌, ◌-◌, ◌%◌, ◌^◌, cond, List, Option, Some, None, map, nat_le}
use Rattle.laws.specs.Lists.{mask}
use Rattle.connection.specs.Supervision.{closes_at, connection_ticked}
use Rattle.connection.specs.declared.Connection.{Connection}
use Rattle.device.specs.Setters.{with_reading, with_connections}
use Rattle.device.specs.State.{sweep_of}
use Rattle.device.specs.declared.Device.{Device}

-- R56. What a tick comes to: the device, and the byte that names the connections closed, if the clock did not go back.
pub record Ticked : Type 0 where
  pub device : Device
  pub answer : Option ℕ

-- R51. The step of a reading from the last one.
abbrev pub step_of : ℕ → ℕ → ℕ
step_of reading last = (reading + 2 ^ 32 - last) % 2 ^ 32

-- R51. The device at a reading, with these connections.
abbrev pub advanced : Device → ℕ → List Connection → Device
advanced d reading cs = with_connections (with_reading d reading) cs

-- R56. A tick by its step: 6, else every connection ticked and those closed named.
unfoldable pub tick_step : Device → ℕ → ℕ → Ticked
tick_step d reading step =
    cond (nat_le (2 ^ 31) step)
    (record { device = d; answer = None })
    (record {
      device = sweep_of (advanced d reading (map (connection_ticked step) d.connections));
      answer = Some (mask (closes_at step) d.connections);
    })

-- R56. A tick at a reading.
abbrev pub tick_of : Device → ℕ → Ticked
tick_of d reading = tick_step d reading (step_of reading d.reading)

-- R3, R57, R60, R61. The endpoint's record and its rules.
use Rattle.std.specs.Prelude.{ℕ, Bool, ◌&&◌, List, set}
use Rattle.octets.specs.Zeros.{zeros}
use Rattle.area.specs.Area.{held_obeys}
use Rattle.connection.specs.State.{connection_count}
use Rattle.device.specs.State.{fresh_of, lives_in, close_of}
use Rattle.device.specs.Obeys.{device_obeys}
use Rattle.device.specs.declared.Device.{Device}
use Rattle.endpoint.specs.declared.Record.{Record}

-- R3. A device and the counts, as a record.
abbrev pub state_of : Device → List ℕ → Record
state_of d held = record { device = d; held = held }

-- R57. The fresh record at a first reading.
unfoldable pub fresh_state : ℕ → Record
fresh_state reading = state_of (fresh_of reading) (zeros connection_count)

-- R61. All record rules hold: refusal 1 does not apply.
unfoldable pub record_obeys : Record → Bool
record_obeys r = device_obeys r.device && held_obeys (lives_in r.device) r.held

-- R60. The record after the closure of connection n.
unfoldable pub closed_state : Record → ℕ → Record
closed_state r n = state_of (close_of r.device n) (set r.held n 0)

-- R41, R62. What every call keeps of the device.
use Rattle.std.specs.Prelude.{◌≡◌, ℕ, true, false, List, ◌==◌}
use Rattle.heartbeat.specs.declared.Heartbeat.{Heartbeat}
use Rattle.connection.specs.State.{live_at}
use Rattle.connection.specs.Kept.{fits_form}
use Rattle.numbers.specs.Status.{carried_out}
use Rattle.objects.specs.Answers.{failed_of}
use Rattle.device.specs.State.{fresh_of, open_of, close_of, heard_at, sent_at, told_at, beating_at}
use Rattle.device.specs.Obeys.{device_obeys}
use Rattle.device.specs.Time.{tick_of}
use Rattle.device.specs.Run.{status_of, unchanged, run_of}
use Rattle.device.specs.declared.Device.{Device}

-- Theorem. Fresh keeps the record rules, and so do opening, closing, ticking, hearing, sending and each command.
pub record RulesKept : Type 0 where
  pub fresh : (reading : ℕ) → device_obeys (fresh_of reading) ≡ true
  pub opening : (d : Device) → device_obeys d ≡ true → device_obeys (open_of d).device ≡ true
  pub closing : (d : Device) (n : ℕ) → device_obeys d ≡ true → device_obeys (close_of d n) ≡ true
  pub ticking : (d : Device) (reading : ℕ) → device_obeys d ≡ true → device_obeys (tick_of d reading).device ≡ true
  pub hearing : (d : Device) (n : ℕ) → device_obeys d ≡ true → device_obeys (heard_at d n) ≡ true
  pub sending : (d : Device) (n : ℕ) → device_obeys d ≡ true → device_obeys (sent_at d n) ≡ true
  pub telling : (d : Device) (at : ℕ) → device_obeys d ≡ true → device_obeys (told_at d at) ≡ true
  pub beating : (d : Device) (n : ℕ) (h : Heartbeat) → fits_form h ≡ true → device_obeys d ≡ true → device_obeys (beating_at d n h) ≡ true
  pub running : (d : Device) (n target m count : ℕ) (part : List ℕ) → live_at d.connections n ≡ true → device_obeys d ≡ true
      → device_obeys (run_of d n target m count part).device ≡ true

-- Theorem. A command whose status is not 0 carries no parameters and changes nothing.
pub record FailuresChangeNothing : Type 0 where
  pub failing : (d : Device) (n target m count : ℕ) (part : List ℕ) → (status_of d n target m count part == carried_out) ≡ false
      → run_of d n target m count part ≡ unchanged d (failed_of (status_of d n target m count part))

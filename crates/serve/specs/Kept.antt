-- R62. What a sound message keeps, and what sending and telling keep.
use Rattle.std.specs.Prelude.{ℕ, ◌≡◌, true, List, length}
use Rattle.octets.specs.Numbers.{Octets}
use Rattle.frame.specs.Scaffold.{SoundAt}
use Rattle.connection.specs.State.{live_at}
use Rattle.device.specs.State.{lives_in, sent_at, told_at}
use Rattle.device.specs.Obeys.{device_obeys}
use Rattle.device.specs.declared.Device.{Device}
use Rattle.serve.specs.Sound.{sound_of}

-- Theorem. A sound message keeps the record rules, and opens and closes no connection.
pub record SoundKept : Type 0 where
  -- a sound message keeps the record rules
  pub obeying : (d : Device) (n : ℕ) (m : List ℕ) → Octets m → SoundAt m (length m) → live_at d.connections n ≡ true
      → device_obeys d ≡ true → device_obeys (sound_of d n m).device ≡ true
  -- it opens and closes no connection, and there are as many as before
  pub living : (d : Device) (n : ℕ) (m : List ℕ) → lives_in (sound_of d n m).device ≡ lives_in d
  pub long : (d : Device) (n : ℕ) (m : List ℕ) → length (sound_of d n m).device.connections ≡ length d.connections
  -- nor does what the device sends, or an entry told
  pub sent_living : (d : Device) (n : ℕ) → lives_in (sent_at d n) ≡ lives_in d
  pub sent_long : (d : Device) (n : ℕ) → length (sent_at d n).connections ≡ length d.connections
  pub told_living : (d : Device) (at : ℕ) → lives_in (told_at d at) ≡ lives_in d
  pub told_long : (d : Device) (at : ℕ) → length (told_at d at).connections ≡ length d.connections

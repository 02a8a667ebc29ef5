-- R42. What a lock gets.
use Rattle.std.specs.Prelude.{ℕ, ◌+◌, []}
use Rattle.objects.specs.Methods.{lock_method, first_mute}
use Rattle.device.specs.Run.{run_of}
use Rattle.device.specs.declared.Device.{Device}

-- R42. What connection k gets for its lock of the mute at that place.
abbrev pub lock_status : Device → ℕ → ℕ → ℕ
lock_status d k at = (run_of d k (first_mute + at) lock_method 0 []).answer.status

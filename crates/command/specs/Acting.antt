-- What a command of the channels is in a whole device, for the contracts of its methods: no rule is here.
use Rattle.std.specs.Prelude.{ℕ, ◌≡◌, Bool, cond, false, List, [], map, Result, Ok, Err}
use Rattle.subscription.specs.State.{marked_of}
use Rattle.subscription.specs.declared.Subscription.{Subscription}
use Rattle.numbers.specs.Status.{status_number}
use Rattle.numbers.specs.declared.Status.{Status}
use Rattle.objects.specs.Answers.{Carried, answer_with, failed_of}
use Rattle.device.specs.Setters.{with_subscriptions, with_mutes, with_holders}
use Rattle.device.specs.Run.{unchanged, run_of}
use Rattle.device.specs.declared.Device.{Device}
use Rattle.device.specs.Run.{Ran}
use Rattle.command.specs.declared.channels.Channels.{Channels}

-- What a command of the channels left and answers, and whether a mute has another value.
pub record Acted : Type 0 where
  pub channels : Channels
  pub answer : Carried
  pub changed : Bool

-- The channels of a device.
abbrev pub channels : List ℕ → List ℕ → Channels
channels mutes holders = record { mutes = mutes; holders = holders }

-- What a command of the channels did.
abbrev pub acted : Channels → Carried → Bool → Acted
acted c answer changed = record { channels = c; answer = answer; changed = changed }

-- Whether a set changed a mute.
abbrev pub is_changed : Result Bool Status → Bool
is_changed (Ok b) = b
is_changed (Err s) = false

-- The answer to a set.
abbrev pub change_answer : Result Bool Status → Carried
change_answer (Ok b) = answer_with []
change_answer (Err s) = failed_of (status_number s)

-- A device with other channels.
abbrev pub with_channels : Device → Channels → Device
with_channels d c = with_holders (with_mutes d c.mutes) c.holders

-- The entries, marked where the target changed.
abbrev pub marked_if : Bool → ℕ → List Subscription → List Subscription
marked_if changed target ss = cond changed (map (marked_of target) ss) ss

-- The channels as they were, with an answer.
abbrev pub same_channels : Channels → Carried → Acted
same_channels c answer = record { channels = c; answer = answer; changed = false }

-- What a command of the channels did, in a whole device.
abbrev pub acted_in : Device → ℕ → Acted → Ran
acted_in d target r =
    unchanged (with_channels (with_subscriptions d (marked_if r.changed target d.subscriptions)) r.channels) r.answer

-- Whatever the rest of the device is, r is the command's outcome.
pub record Acts (c : Channels) (n target m count : ℕ) (part : List ℕ) (r : Acted) : Type 0 where
  pub whole : (d : Device) → acted_in d target r ≡ run_of (with_channels d c) n target m count part

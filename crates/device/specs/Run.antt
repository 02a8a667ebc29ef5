-- R34, R38 to R47, R73. A command.
use Rattle.std.specs.Prelude.{ℕ, Bool, cond, not, ◌&&◌, ◌||◌, List, map, ◌==◌, slice_index, slice_set}
use Rattle.laws.specs.Lists.{any}
use Rattle.numbers.specs.Status.{held_by_other, strange_emitter, bad_value, out_of_turn, no_free_entry, carried_out}
use Rattle.mechanism.specs.Arguments.{armed_by}
use Rattle.subscription.specs.State.{free, is_unused, is_twin, twin_at, lowest_unused, marked_of}
use Rattle.subscription.specs.Arguments.{subscription_from, is_emitter_bad}
use Rattle.objects.specs.Methods.{lock_method, unlock_method, set_method, add_method, remove_method, reset_key_method, place_of, is_locking}
use Rattle.objects.specs.Tests.{is_value_bad, first_status}
use Rattle.objects.specs.Answers.{reply_of, failed_of, answer_with}
use Rattle.objects.specs.Answers.{Carried as Answer}
use Rattle.holders.specs.Holders.{owner_of, is_other}
use Rattle.device.specs.Setters.{with_subscriptions, with_mutes, with_holders, with_mechanism}
use Rattle.device.specs.declared.Device.{Device}

-- R34. What a command comes to: the device, and the answer to it.
pub record Ran : Type 0 where
  pub device : Device
  pub answer : Answer

-- R42. The holder of a mute's lock.
unfoldable pub holder_at : Device → ℕ → ℕ
holder_at d target = slice_index d.holders (place_of target)

-- R43. The value of a mute.
unfoldable pub mute_at : Device → ℕ → ℕ
mute_at d target = slice_index d.mutes (place_of target)

-- R40. Status 3: set, lock or unlock of a mute that another connection holds.
unfoldable pub is_held_by_other : Device → ℕ → ℕ → ℕ → Bool
is_held_by_other d n target m = (is_locking m || m == set_method) && is_other (holder_at d target) n

-- R40. Status 9: the subscription of these arguments is held.
unfoldable pub is_subscribed : Device → ℕ → List ℕ → Bool
is_subscribed d n part = any (is_twin (subscription_from n part)) d.subscriptions

-- R40. Status 9: nothing to unlock or remove, or a subscription that is held already.
unfoldable pub is_out_of_turn : Device → ℕ → ℕ → ℕ → List ℕ → Bool
is_out_of_turn d n target m part =
    (m == unlock_method && holder_at d target == 0) || (m == add_method && is_subscribed d n part)
    || (m == remove_method && not (is_subscribed d n part))

-- R40. Status 10: add with no free entry.
unfoldable pub is_full : Device → ℕ → Bool
is_full d m = m == add_method && not (any is_unused d.subscriptions)

-- R40. The first that applies of those that need the device.
unfoldable pub later_status : Device → ℕ → ℕ → ℕ → List ℕ → ℕ
later_status d n target m part =
    cond (is_held_by_other d n target m) held_by_other
    (cond (is_emitter_bad m part) strange_emitter
    (cond (is_value_bad m part) bad_value
    (cond (is_out_of_turn d n target m part) out_of_turn
    (cond (is_full d m) no_free_entry
    carried_out))))

-- R40. The first of two statuses, and the second where the first stops nothing.
abbrev pub first_failing : ℕ → ℕ → ℕ
first_failing first later = cond (first == carried_out) later first

-- R40. The first status that applies.
unfoldable pub status_of : Device → ℕ → ℕ → ℕ → ℕ → List ℕ → ℕ
status_of d n target m count part = first_failing (first_status target m count part) (later_status d n target m part)

-- R43, R47. A set: the value, and marks where it changes.
unfoldable pub muted_of : Device → ℕ → ℕ → Device
muted_of d target v =
    cond (mute_at d target == v) d
    (with_mutes (with_subscriptions d (map (marked_of target) d.subscriptions)) (slice_set d.mutes (place_of target) v))

-- R42, R43, R46, R73. What a command with status 0 does.
unfoldable pub done_of : Device → ℕ → ℕ → ℕ → List ℕ → Device
done_of d n target m part =
    cond (m == lock_method) (with_holders d (slice_set d.holders (place_of target) (owner_of n)))
    (cond (m == unlock_method) (with_holders d (slice_set d.holders (place_of target) 0))
    (cond (m == set_method) (muted_of d target (slice_index part 0))
    (cond (m == add_method) (with_subscriptions d (slice_set d.subscriptions (lowest_unused d.subscriptions) (subscription_from n part)))
    (cond (m == remove_method) (with_subscriptions d (slice_set d.subscriptions (twin_at (subscription_from n part) d.subscriptions) free))
    (cond (m == reset_key_method) (with_mechanism d (armed_by part))
    d)))))

-- R38. The response to a command with status 0.
unfoldable pub answer_of : Device → ℕ → ℕ → Answer
answer_of d target m = answer_with (reply_of target m (mute_at d target))

-- R41. The device as it was, with an answer.
abbrev pub unchanged : Device → Answer → Ran
unchanged d answer = record { device = d; answer = answer }

-- R41. A command by its status: carried out, or nothing changed.
unfoldable pub ran_by : Device → ℕ → ℕ → ℕ → List ℕ → ℕ → Ran
ran_by d n target m part status =
    cond (status == carried_out)
    (record { device = done_of d n target m part; answer = answer_of d target m })
    (unchanged d (failed_of status))

-- R34. One command of connection n; m is the method's number (R10).
unfoldable pub run_of : Device → ℕ → ℕ → ℕ → ℕ → List ℕ → Ran
run_of d n target m count part = ran_by d n target m part (status_of d n target m count part)

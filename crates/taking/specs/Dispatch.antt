-- R49, R50. Taking.
use Rattle.std.specs.Prelude.{ℕ, Bool, cond, List, length, get_or, ltb}
use Rattle.answers.specs.Numbers.{taking_numbers}
use Rattle.answers.specs.declared.Taking.TheVariants.{Nothing, Notification, KeepAlive}
use Rattle.layout.specs.Message.{at_front}
use Rattle.connection.specs.State.{connection_count, closed, lowest_due}
use Rattle.connection.specs.Supervision.{heartbeat_kept}
use Rattle.subscription.specs.State.{entry_count, free, lowest_waiting}
use Rattle.subscription.specs.declared.Subscription.{Subscription}
use Rattle.device.specs.State.{sent_at, told_at}
use Rattle.device.specs.Run.{mute_at}
use Rattle.device.specs.declared.Device.{Device}
use Rattle.replies.specs.Bytes.{notification_bytes, keep_alive_bytes}

-- R50. All that it comes to: the answer's numbers, the device and the output.
pub record Dispatch : Type 0 where
  pub answer : List ℕ
  pub device : Device
  pub output : List ℕ

-- R50. A dispatch of these.
abbrev pub dispatch : List ℕ → Device → List ℕ → Dispatch
dispatch answer d output = record { answer = answer; device = d; output = output }

-- R3. The subscription entry at a place.
abbrev pub subscription_at : Device → ℕ → Subscription
subscription_at d i = get_or d.subscriptions i free

-- R50. The device once an entry's notification is taken.
unfoldable pub notified_of : Device → ℕ → Device
notified_of d i = sent_at (told_at d i) (subscription_at d i).connection

-- R48. The notification of the entry at place i, with the value of now.
abbrev pub notification_at : Device → ℕ → List ℕ
notification_at d i = notification_bytes (subscription_at d i) (mute_at d (subscription_at d i).emitter)

-- R49. The notification of the entry at place i, with the value of now.
unfoldable pub notifying : Device → List ℕ → ℕ → Dispatch
notifying d out i =
    let m = notification_at d i in
    dispatch (taking_numbers (Notification (subscription_at d i).connection (length m))) (notified_of d i) (at_front m out)

-- R49. The keep-alive of connection n.
unfoldable pub reminding : Device → List ℕ → ℕ → Dispatch
reminding d out n =
    let m = keep_alive_bytes (heartbeat_kept (get_or d.connections n closed)) in
    dispatch (taking_numbers (KeepAlive n (length m))) (sent_at d n) (at_front m out)

-- R49. The entry at i if there is one, else connection n if there is one, else nothing.
unfoldable pub taken_by : Bool → Bool → Device → List ℕ → ℕ → ℕ → Dispatch
taken_by waits due d out i n =
    cond waits (notifying d out i) (cond due (reminding d out n) (dispatch (taking_numbers Nothing) d out))

-- R49. Taking, of the lowest entry that waits and the lowest connection that is due.
abbrev pub dispatched : Device → List ℕ → Dispatch
dispatched d out =
    let i = lowest_waiting d.subscriptions in
    let n = lowest_due d.connections in
    taken_by (ltb i entry_count) (ltb n connection_count) d out i n

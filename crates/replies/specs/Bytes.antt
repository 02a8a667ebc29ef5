-- R35, R48, R49. What the device sends, as bytes.
use Rattle.std.specs.Prelude.{ℕ, ◌+◌, List, [], ◌∷◌, ◌++◌, take, length}
use Rattle.octets.specs.Numbers.{bytes16, bytes32}
use Rattle.heartbeat.specs.Beat.{form_of, value_of}
use Rattle.heartbeat.specs.declared.Heartbeat.{Heartbeat}
use Rattle.frame.specs.Limits.{least_notification, least_response, notification, keep_alive}
use Rattle.layout.specs.Message.{message, beat_bytes}
use Rattle.subscription.specs.declared.Subscription.{Subscription}
use Rattle.objects.specs.Methods.{mute_property}
use Rattle.objects.specs.Answers.{Carried}

-- R63. The least output of delivery and take.
abbrev pub least_output : ℕ
least_output = 4096

-- R35. The answer of that status with these parameters.
abbrev pub answer_told : ℕ → ℕ → List ℕ → Carried
answer_told status count parameters = record { status = status; count = count; length = length parameters; bytes = parameters }

-- R35. A response: its handle, status and parameters.
unfoldable pub response_bytes : ℕ → Carried → List ℕ
response_bytes handle a =
    bytes32 (least_response + a.length) ++ (bytes32 handle ++ (a.status ∷ a.count ∷ take a.length a.bytes))

-- R48. The context that a subscription was given: as many of the bytes that it holds as are counted.
unfoldable pub context_sent : Subscription → List ℕ
context_sent s = take s.context_count s.context

-- R48. The notification's front: to whom, parameter count 2, the context behind its count.
unfoldable pub subscriber_bytes : Subscription → List ℕ
subscriber_bytes s =
    bytes32 (least_notification + 6 + s.context_count)
    ++ (bytes32 s.object ++ (bytes32 s.method ++ (2 ∷ bytes16 s.context_count ++ context_sent s)))

-- R48. What changed: emitter, event, property 4.1, the value, 1.
unfoldable pub change_bytes : Subscription → ℕ → List ℕ
change_bytes s value = bytes32 s.emitter ++ (bytes32 s.event ++ (bytes32 mute_property ++ (value ∷ 1 ∷ [])))

-- R48. The notification's entry.
unfoldable pub notification_entry : Subscription → ℕ → List ℕ
notification_entry s value = subscriber_bytes s ++ change_bytes s value

-- R48. The notification as a message.
unfoldable pub notification_bytes : Subscription → ℕ → List ℕ
notification_bytes s value = message notification 1 (notification_entry s value)

-- R36, R49. A keep-alive as a message.
unfoldable pub keep_alive_bytes : Heartbeat → List ℕ
keep_alive_bytes h = message keep_alive 1 (beat_bytes (form_of h) (value_of h))

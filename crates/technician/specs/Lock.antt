-- R34, R35, R42. The lock of a channel and the reply to it, in bytes.
use Rattle.std.specs.Prelude.{ℕ, ◌+◌, ◌^◌, ◌<◌, ◌≤◌, ◌≡◌, Bool, true, false, not, ◌&&◌, List, [], ◌∷◌, ◌++◌, length, get_or, take}
use Rattle.numbers.specs.Kind.{kind_message}
use Rattle.laws.specs.Lists.{joined}
use Rattle.octets.specs.Numbers.{bytes32}
use Rattle.frame.specs.Decide.{decide, taken}
use Rattle.layout.specs.Message.{at_front}
use Rattle.answers.specs.Numbers.{delivery_numbers}
use Rattle.answers.specs.declared.Delivery.TheVariants as deliveries
use Rattle.connection.specs.State.{live_at}
use Rattle.device.specs.State.{mute_count}
use Rattle.replies.specs.Bytes.{least_output}
use Rattle.stream.specs.Calls.{deliver, ask}
use Rattle.endpoint.specs.Outcome.{Outcome}
use Rattle.endpoint.specs.Deliver.{held_at, deliver_call}
use Rattle.endpoint.specs.declared.Record.{Record}
use Rattle.feed.specs.Feed.{Feeding, feeding, unfed}
use Rattle.cutting.specs.Cutting.{SameEnd, feed_all}
use Rattle.promise.specs.Calls.{HostCall, call_of}
use Rattle.promise.specs.Heartbeats.{brought_by}
use Rattle.promise.specs.Reset.{asks_in}

-- R42. The 27 bytes of the lock of the channel at that place, 4097 at place 0, with a handle.
unfoldable pub lock_bytes : ℕ → ℕ → List ℕ
lock_bytes handle at =
    0x3B ∷ 0x00 ∷ 0x01 ∷ 0x00 ∷ 0x00 ∷ 0x00 ∷ 0x1A ∷ 0x01 ∷ 0x00 ∷ 0x01 ∷ 0x00 ∷ 0x00 ∷ 0x00 ∷ 0x11
    ∷ bytes32 handle ++ (0x00 ∷ 0x00 ∷ 0x10 ∷ (0x01 + at) ∷ 0x00 ∷ 0x01 ∷ 0x00 ∷ 0x03 ∷ 0x00 ∷ [])

-- R35. The 20 bytes of the reply to it, with the handle and a status.
unfoldable pub reply_bytes : ℕ → ℕ → List ℕ
reply_bytes handle status =
    0x3B ∷ 0x00 ∷ 0x01 ∷ 0x00 ∷ 0x00 ∷ 0x00 ∷ 0x13 ∷ 0x03 ∷ 0x00 ∷ 0x01 ∷ 0x00 ∷ 0x00 ∷ 0x00 ∷ 0x0A
    ∷ bytes32 handle ++ (status ∷ 0x00 ∷ [])

-- R3. Who holds the channel at that place: 0 for nobody, else the connection and 1.
abbrev pub holder_in : Record → ℕ → ℕ
holder_in r at = get_or r.device.holders at 0

-- R28, R63. Connection k is open with none of its bytes waiting, and its output has room: it can ask for one of the eight channels.
pub record CanAsk (r : Record) (k handle at : ℕ) (out : List ℕ) : Type 0 where
  pub live : live_at r.device.connections k ≡ true
  pub none : held_at r k ≡ 0
  pub room : least_output ≤ length out
  pub four : handle < 2 ^ 32
  pub channel : at < mute_count

-- R28. The delivery of the 27 bytes on connection k.
abbrev pub lock_call : Record → List ℕ → ℕ → ℕ → ℕ → List ℕ → Outcome
lock_call r area k handle at out = deliver_call r area k (lock_bytes handle at) out

-- R28. How far a host has come by it: 27 bytes are taken, and one reply of 20 bytes is put.
abbrev pub lock_fed : Record → List ℕ → ℕ → ℕ → ℕ → List ℕ → Feeding
lock_fed r area k handle at out =
    let o = lock_call r area k handle at out in
    feeding o.answer o.state o.area o.output 27 20 ((kind_message ∷ 20 ∷ []) ∷ [])

-- R35, R42. The 27 bytes of connection k are answered by the 20 bytes with that status, and the channel is then connection n's.
pub record Answered (r : Record) (area : List ℕ) (k handle at : ℕ) (out : List ℕ) (status n : ℕ) : Type 0 where
  pub answer : (lock_call r area k handle at out).answer ≡ delivery_numbers (deliveries.Message 27 20)
  pub output : (lock_call r area k handle at out).output ≡ at_front (reply_bytes handle status) out
  pub holder : holder_in (lock_call r area k handle at out).state at ≡ n + 1
  -- and in whatever pieces they come, a host that feeds them comes to the same
  pub cut : (pieces : List (List ℕ)) → joined pieces ≡ lock_bytes handle at
      → SameEnd (feed_all k (unfed r area out) pieces) (lock_fed r area k handle at out)

-- R42. By this call a message is whole that asks for the lock of the channel at that place.
unfoldable pub asks_now : ℕ → Record → List ℕ → HostCall → Bool
asks_now at r area (deliver k piece out) =
    let xs = brought_by r area k piece in
    asks_in (decide xs) at (take (taken (decide xs)) xs)
asks_now at r area (ask a) = false

-- R42. None of these calls asks for it.
unfoldable pub nobody_locks : ℕ → Record → List ℕ → List HostCall → Bool
nobody_locks at r area [] = true
nobody_locks at r area (c ∷ rest) = not (asks_now at r area c) && nobody_locks at (call_of r area c).state (call_of r area c).area rest

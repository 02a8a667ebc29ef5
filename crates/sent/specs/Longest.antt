-- The longest reply is reached: 119 commands that ask a mute for its class. R35, R38, R39.
use Rattle.std.specs.Prelude.{ℕ, zero, suc, ◌+◌, ◌*◌, ◌≤◌, ◌<◌, ◌≡◌, true, List, [], ◌∷◌, ◌++◌, length}
use Rattle.octets.specs.Zeros.{zeros}
use Rattle.answers.specs.Numbers.{delivery_numbers}
use Rattle.answers.specs.declared.Delivery.TheVariants.{Message}
use Rattle.frame.specs.Limits.{command_wanting_reply}
use Rattle.frame.specs.Decide.{decide}
use Rattle.frame.specs.declared.Decision.TheVariants.{Sound}
use Rattle.layout.specs.Message.{message}
use Rattle.area.specs.Area.{area_bytes, area_sound}
use Rattle.connection.specs.State.{live_at}
use Rattle.replies.specs.Bytes.{least_output}
use Rattle.device.specs.declared.Device.{Device}
use Rattle.endpoint.specs.State.{fresh_state, record_obeys}
use Rattle.endpoint.specs.Calls.{open_call}
use Rattle.endpoint.specs.Deliver.{held_at, deliver_call}
use Rattle.endpoint.specs.declared.Record.{Record}
use Rattle.sent.specs.Sent.{longest_reply, reply_to}

-- R9, R38. The command 1.1 to 4097, with handle 7: 17 bytes, the least that a command has.
abbrev pub class_command : List ℕ
class_command = 0 ∷ 0 ∷ 0 ∷ 17 ∷ 0 ∷ 0 ∷ 0 ∷ 7 ∷ 0 ∷ 0 ∷ 16 ∷ 1 ∷ 0 ∷ 1 ∷ 0 ∷ 1 ∷ 0 ∷ []

-- R13. So many of it, one behind another.
unfoldable pub class_commands : ℕ → List ℕ
class_commands zero = []
class_commands (suc k) = class_command ++ class_commands k

-- R23. The message of them.
abbrev pub class_message : ℕ → List ℕ
class_message k = message command_wanting_reply k (class_commands k)

-- R28, R63. Nothing refuses a delivery to connection n: rows 1 to 4 do not apply.
pub record Delivers (r : Record) (area : List ℕ) (n : ℕ) (out : List ℕ) : Type 0 where
  pub obeying : record_obeys r ≡ true
  pub lying : area_sound r.held area ≡ true
  pub living : live_at r.device.connections n ≡ true
  pub roomy : least_output ≤ length out

-- R28, R63. Nor is a byte of the connection undecided.
pub record Unrefused (r : Record) (area : List ℕ) (n : ℕ) (out : List ℕ) : Type 0 where
  pub delivers : Delivers r area n out
  pub empty : held_at r n ≡ 0

-- Theorem. The message of 119 of them is sound, and gets a reply of 2,628 bytes, whatever the device.
pub record LongestReached : Type 0 where
  -- of k of them, by a law: 17 bytes a command, 22 a response
  pub sound : (k : ℕ) → 0 < k → k ≤ 119 → decide (class_message k) ≡ Sound (10 + k * 17)
  pub reply : (d : Device) (n k : ℕ) → 0 < k → k ≤ 119 → length (reply_to d n (class_message k)) ≡ 10 + k * 22
  pub longest : (d : Device) (n : ℕ) → length (reply_to d n (class_message 119)) ≡ longest_reply
  -- so that a delivery answers that many bytes, to a connection just opened of a fresh record for one
  pub delivered : (r : Record) (area : List ℕ) (n : ℕ) (out : List ℕ) → Unrefused r area n out
      → (deliver_call r area n (class_message 119) out).answer ≡ delivery_numbers (Message 2033 longest_reply)
  pub fresh : (reading : ℕ) (out : List ℕ) → least_output ≤ length out
      → Unrefused (open_call (fresh_state reading)).state (zeros area_bytes) 0 out

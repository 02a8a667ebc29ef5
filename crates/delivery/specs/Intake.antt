-- R28 to R31. What a piece of an open connection does.
use Rattle.std.specs.Prelude.{ℕ, ◌+◌, ◌-◌, List, ◌++◌, length, take}
use Rattle.std.proofs.lemmas.List.Edits.{sets}
use Rattle.answers.specs.Numbers.{delivery_numbers}
use Rattle.answers.specs.declared.Delivery.TheVariants.{More, Message, Closed}
use Rattle.frame.specs.Decide.{decide}
use Rattle.frame.specs.declared.Decision.{Decision}
use Rattle.frame.specs.declared.Decision.TheVariants.{Undecided, Faulty, Sound}
use Rattle.layout.specs.Message.{at_front}
use Rattle.area.specs.Area.{part_at, undecided_of, part_cleared}
use Rattle.device.specs.State.{close_of}
use Rattle.device.specs.declared.Device.{Device}
use Rattle.serve.specs.Sound.{Ruled, sound_of}

-- R28, R29, R30, R31. All that it comes to: the answer's numbers, the device, the count, the area and the output.
pub record Intake : Type 0 where
  pub answer : List ℕ
  pub device : Device
  pub count : ℕ
  pub area : List ℕ
  pub output : List ℕ

-- R28, R29, R30, R31. An intake of these.
abbrev pub intake : List ℕ → Device → ℕ → List ℕ → List ℕ → Intake
intake answer d count area output = record { answer = answer; device = d; count = count; area = area; output = output }

-- R31. A sound message: its part cleared, its count 0, the reply at the output's front.
unfoldable pub messaged : Ruled → List ℕ → ℕ → ℕ → List ℕ → Intake
messaged q area n taken out =
    intake (delivery_numbers (Message taken (length q.reply))) q.device 0 (part_cleared area n) (at_front q.reply out)

-- R29, R30, R31. By what connection n's k undecided bytes and the piece, together xs, decide.
unfoldable pub delivered_by : Decision → Device → List ℕ → ℕ → ℕ → List ℕ → List ℕ → List ℕ → Intake
delivered_by Undecided d area n k piece xs out =
    intake (delivery_numbers (More (length piece))) d (k + length piece) (sets area (part_at n + k) piece) out
delivered_by (Faulty fault t) d area n k piece xs out =
    intake (delivery_numbers (Closed (t - k) fault)) (close_of d n) 0 (part_cleared area n) out
delivered_by (Sound t) d area n k piece xs out = messaged (sound_of d n (take t xs)) area n (t - k) out

-- R28. A piece of an open connection.
unfoldable pub taken_in : Device → List ℕ → ℕ → ℕ → List ℕ → List ℕ → Intake
taken_in d area n k piece out =
    delivered_by (decide (undecided_of area n k ++ piece)) d area n k piece (undecided_of area n k ++ piece) out

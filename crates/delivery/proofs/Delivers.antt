-- What each way of a piece comes to. Assumes nothing.
use Prim.Native.Nat.{ℕ, ◌+◌, ◌-◌}
use mathlib.Core.Path.{◌≡◌, ◌∙◌}
use mathlib.Core.List.{List, ◌++◌}
use lib.ListN.{length, take}
use lib.Seq.{sets}
use Rattle.answers.specs.Numbers.{delivery_numbers}
use Rattle.answers.specs.declared.Delivery.TheVariants.{More, Message, Closed}
use Rattle.numbers.specs.declared.Fault.{Fault}
use Rattle.frame.specs.Decide.{decide}
use Rattle.frame.specs.declared.Decision.TheVariants.{Undecided, Faulty, Sound}
use Rattle.layout.specs.Message.{at_front}
use Rattle.area.specs.Area.{part_at, undecided_of, part_cleared}
use Rattle.device.specs.State.{close_of}
use Rattle.device.specs.declared.Device.{Device}
use Rattle.serve.specs.Sound.{Ruled, sound_of}
use Rattle.delivery.specs.Intake.{Intake, intake, messaged, delivered_by, taken_in}

pub messaged_is : (q : Ruled) (area : List ℕ) (n taken : ℕ) (out : List ℕ) (l : ℕ) (d : Device) (a o : List ℕ)
    → l ≡ length q.reply → d ≡ q.device → a ≡ part_cleared area n → o ≡ at_front q.reply out
    → intake (delivery_numbers (Message taken l)) d 0 a o ≡ messaged q area n taken out
unfolding messaged
messaged_is q area n taken out l d a o e1 e2 e3 e4 = rw (e1, e2, e3, e4)

module _ (d : Device) (area : List ℕ) (n k : ℕ) (piece out : List ℕ) where
  pub taken_waits : (a : List ℕ) → decide (undecided_of area n k ++ piece) ≡ Undecided → a ≡ sets area (part_at n + k) piece
      → intake (delivery_numbers (More (length piece))) d (k + length piece) a out ≡ taken_in d area n k piece out
  unfolding taken_in delivered_by
  taken_waits a e e1 = rw (e, e1)

  pub taken_closed : (fault : Fault) (t : ℕ) (s : Device) (a : List ℕ) → decide (undecided_of area n k ++ piece) ≡ Faulty fault t
      → s ≡ close_of d n → a ≡ part_cleared area n
      → intake (delivery_numbers (Closed (t - k) fault)) s 0 a out ≡ taken_in d area n k piece out
  unfolding taken_in delivered_by
  taken_closed fault t s a e e1 e2 = rw (e, e1, e2)

  pub taken_runs : (t : ℕ) (g : List ℕ) (i : Intake) → decide (undecided_of area n k ++ piece) ≡ Sound t
      → undecided_of g n t ≡ take t (undecided_of area n k ++ piece) → part_cleared g n ≡ part_cleared area n
      → i ≡ messaged (sound_of d n (undecided_of g n t)) g n (t - k) out → i ≡ taken_in d area n k piece out
  unfolding taken_in delivered_by messaged
  taken_runs t g i e m a q = q ∙ rw (e, m, a)

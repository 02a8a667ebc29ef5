-- For the contracts of inner functions and for proofs: no rule is here.
use Rattle.std.specs.Prelude.{ℕ, List, Result, Ok, Err, cond, length, ltb}
use Rattle.frame.specs.declared.Decision.{Decision}
use Rattle.frame.specs.declared.Decision.TheVariants.{Undecided, Faulty, Sound}
use Rattle.numbers.specs.declared.Refusal.{Refusal}
use Rattle.numbers.specs.declared.Refusal.TheVariants as refusal
use Rattle.writer.specs.Write.{least_room}

-- Refusal 4 applies to the buffer, or does not.
unfoldable pub room_check : List ℕ → Result Unit Refusal
room_check buf = cond (ltb (length buf) least_room) (Err refusal.NoRoom) (Ok tt)

-- The length of the sound message that a buffer's front decides; 2,049 bytes always decide, so the first case never comes.
unfoldable pub length_by : Decision → Result ℕ Refusal
length_by Undecided = Err refusal.NoRoom
length_by (Faulty f n) = Err (refusal.Fault f)
length_by (Sound n) = Ok n

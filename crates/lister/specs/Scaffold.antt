-- For the contracts of inner functions and for proofs: no rule is here.
use Rattle.std.specs.Prelude.{ℕ, ◌+◌, ◌*◌, ◌≤◌, ◌≡◌, List, [], ◌∷◌, Option, Some, None, length, take}
use Rattle.numbers.specs.declared.Fault.{Fault}
use Rattle.numbers.specs.declared.Refusal.{Refusal}
use Rattle.numbers.specs.Refusal.{fault_told}
use Rattle.frame.specs.Decide.{decide}
use Rattle.frame.specs.declared.Decision.{Decision}
use Rattle.frame.specs.declared.Decision.TheVariants.{Undecided, Faulty, Sound}
use Rattle.lines.specs.Scaffold.{Puts}
use Rattle.lister.specs.declared.Listed.{Listed}
use Rattle.lister.specs.Listing.{bytes_of, lines_of}

-- The message at the front of s where d, what s decides, is sound.
unfoldable pub sound_first : Decision → List ℕ → List (List ℕ)
sound_first Undecided s = []
sound_first (Faulty f n) s = []
sound_first (Sound n) s = take n s ∷ []

-- R78. The message at the front of s, if it is sound.
unfoldable pub first_of : List ℕ → List (List ℕ)
first_of s = sound_first (decide s) s

-- The fault of bytes that decide d, if they have one.
unfoldable pub fault_by : Decision → Option Fault
fault_by Undecided = None
fault_by (Faulty f n) = Some f
fault_by (Sound n) = None

-- The fault that a refusal tells, if it tells one.
abbrev pub fault_of : Refusal → Option Fault
fault_of r = fault_told r

-- What bytes that are not sound decide, by their fault; how many of them it takes is left out.
unfoldable pub stopped_by : Option Fault → Decision
stopped_by None = Undecided
stopped_by (Some f) = Faulty f 0

-- ms, messages at the front of s, which stands from the offset on, were listed.
pub record Lists (ms : List (List ℕ)) (s : List ℕ) (offset : ℕ) (before : List ℕ) (at : ℕ) (after : List ℕ) (r : Listed) : Type 0 where
  pub used : r.used ≡ bytes_of ms
  pub within : r.used ≤ length s
  pub puts : Puts (lines_of offset ms) before at after r.put
  -- a message has at least 10 bytes
  pub room : r.put ≤ at + 4 * r.used

-- For the contracts of inner functions and for proofs: no rule is here.
use Rattle.std.specs.Prelude.{ℕ, ◌+◌, ◌≤◌, ◌≡◌, List, length}
use Rattle.std.proofs.lemmas.List.Edits.{sets}

-- R78. The room of any line: a type of 8 bits; a count, size, fault or number of bytes left of 16 bits.
abbrev pub line_room : ℕ
line_room = 40

-- The bytes of a line were put at a place, all others stay, and the answer is the place behind them.
pub record Puts (line before : List ℕ) (at : ℕ) (after : List ℕ) (r : ℕ) : Type 0 where
  pub text : after ≡ sets before at line
  pub next : r ≡ at + length line

-- And there are not more of them than the room of a line.
pub record PutsLine (line before : List ℕ) (at : ℕ) (after : List ℕ) (r : ℕ) : Type 0 where
  pub puts : Puts line before at after r
  pub room : r ≤ at + line_room

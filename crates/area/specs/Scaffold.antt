-- For the contracts of inner functions and for proofs: no rule is here.
use Rattle.std.specs.Prelude.{ℕ, ◌+◌, ◌-◌, ◌≤◌, ◌<◌, ◌≡◌, false, List, length, take, drop}
use Rattle.std.proofs.lemmas.List.Edits.{sets}
use Rattle.octets.specs.Zeros.{zeros}
use Rattle.frame.specs.Limits.{greatest_size}
use Rattle.frame.specs.Decide.{decide, settled}
use Rattle.frame.specs.Scaffold.{SoundAt}
use Rattle.area.specs.Area.{part_bytes, area_bytes, part_at, undecided_of}

-- Connection n's bytes behind its first u are zeros already.
abbrev pub ZerosBehind : List ℕ → ℕ → ℕ → Type 0
ZerosBehind area n u = take (part_bytes - u) (drop (part_at n + u) area) ≡ zeros (part_bytes - u)

-- What a piece is taken into: an area that refusal 2 lets pass, and connection n's k bytes in it.
pub record Lying (area : List ℕ) (n k : ℕ) : Type 0 where
  pub number : n < 8
  pub long : length area ≡ area_bytes
  pub few : k ≤ greatest_size
  pub waiting : settled (decide (undecided_of area n k)) ≡ false
  pub zeroed : ZerosBehind area n k

-- The piece, as far as it fits, behind the k bytes of connection n.
unfoldable pub gathered : List ℕ → ℕ → ℕ → List ℕ → List ℕ
gathered area n k piece = sets area (part_at n + k) (take (part_bytes - k) piece)

-- A sound message of t bytes leads connection n's part, k of them from before; u bytes lie there.
pub record MessageLies (area : List ℕ) (n k t u : ℕ) : Type 0 where
  pub number : n < 8
  pub long : length area ≡ area_bytes
  pub behind : k ≤ t
  pub fits : t ≤ part_bytes
  pub sound : SoundAt (undecided_of area n t) t
  pub reach : u ≤ part_bytes
  pub zeroed : ZerosBehind area n u

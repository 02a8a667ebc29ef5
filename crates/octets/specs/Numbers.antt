-- R6. Numbers on the wire, read and written.
use Rattle.std.specs.Prelude.{ℕ, ◌+◌, ◌*◌, ◌/◌, ◌%◌, ◌<◌, List, [], ◌∷◌, get_or}

-- R6. The number of the two bytes from place at on; a place past the end counts as 0.
unfoldable pub be16_at : List ℕ → ℕ → ℕ
be16_at s at = get_or s at 0 * 256 + get_or s (at + 1) 0

-- R6. The number of the four bytes from place at on; a place past the end counts as 0.
unfoldable pub be32_at : List ℕ → ℕ → ℕ
be32_at s at = get_or s at 0 * 16777216 + get_or s (at + 1) 0 * 65536 + get_or s (at + 2) 0 * 256 + get_or s (at + 3) 0

-- R6. The two bytes of a number.
unfoldable pub bytes16 : ℕ → List ℕ
bytes16 v = v / 256 % 256 ∷ v % 256 ∷ []

-- R6. The four bytes of a number.
unfoldable pub bytes32 : ℕ → List ℕ
bytes32 v = v / 16777216 % 256 ∷ v / 65536 % 256 ∷ v / 256 % 256 ∷ v % 256 ∷ []

-- R6. Every element is a byte.
abbrev pub Octets : List ℕ → Type 0
Octets s = (i : ℕ) → get_or s i 0 < 256

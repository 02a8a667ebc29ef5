-- R4. Bytes that are zero.
use Rattle.std.specs.Prelude.{ℕ, List, [], ◌∷◌, Bool, true, ◌&&◌, eqb, replicate}

-- R4. n bytes, each 0.
unfoldable pub zeros : ℕ → List ℕ
zeros n = replicate n 0

-- R4. Every byte is 0.
unfoldable pub all_zero : List ℕ → Bool
all_zero [] = true
all_zero (x ∷ xs) = eqb x 0 && all_zero xs

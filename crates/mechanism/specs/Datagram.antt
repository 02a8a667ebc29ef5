-- R75. What resets.
use Rattle.std.specs.Prelude.{ℕ, Bool, ◌&&◌, List, [], ◌∷◌, ◌++◌}
use Rattle.octets.specs.Same.{same_bytes}
use Rattle.mechanism.specs.declared.Mechanism.{Mechanism}

-- R75. The eight bytes before the key.
abbrev pub sentinel : List ℕ
sentinel = 0xDE ∷ 0xAF ∷ 0xDA ∷ 0xDA ∷ 0xCA ∷ 0xFE ∷ 0xBA ∷ 0xBE ∷ []

-- R75. The datagram resets: armed, and the sentinel with the key.
unfoldable pub resets : Mechanism → List ℕ → Bool
resets m datagram = m.armed && same_bytes datagram (sentinel ++ m.key)

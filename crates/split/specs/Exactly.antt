-- R81. What the messages of some bytes are.
use Rattle.std.specs.Prelude.{ℕ, suc, ◌<◌, ◌≡◌, true, false, List, [], ◌∷◌, ◌++◌, length, get_or, take, drop}
use Rattle.laws.specs.Lists.{all, joined}
use Rattle.frame.specs.Decide.{decide, settled}
use Rattle.frame.specs.declared.Decision.TheVariants.{Undecided, Sound}
use Rattle.split.specs.Split.{Split, parts, messages_then, split_of, decides_sound, sound_messages}

-- R16. The last byte of m is its deciding byte: with it m is decided, and no front of m without it is.
pub record LastDecides (m : List ℕ) : Type 0 where
  pub decided : settled (decide m) ≡ true
  pub before : (k : ℕ) → k < length m → decide (take k m) ≡ Undecided

-- R81. Every message is sound.
abbrev pub AllSound : List (List ℕ) → Type 0
AllSound ms = all (λ (m : List ℕ). decides_sound (decide m)) ms ≡ true

-- R81. A split of s: nothing is lost, each message ends with its deciding byte, and a fault ends the messages.
pub record SplitsAs (s : List ℕ) (p : Split) : Type 0 where
  -- the messages one behind another, and what is left, are the bytes
  pub joins : joined p.messages ++ p.left ≡ s
  -- each message ends with its deciding byte
  pub ends : (i : ℕ) → i < length p.messages → LastDecides (get_or p.messages i [])
  -- all but the last are sound
  pub sound : (i : ℕ) → suc i < length p.messages → decides_sound (decide (get_or p.messages i [])) ≡ true
  -- where the last is too, what is left is undecided
  pub rest : AllSound p.messages → decide p.left ≡ Undecided

-- Theorem. The messages of some bytes are exactly what the deciding bytes make of them.
pub record SplitsExactly : Type 0 where
  -- split_of is such a split, and there is no other
  pub splits : (s : List ℕ) → SplitsAs s (split_of s)
  pub only : (s : List ℕ) (p : Split) → SplitsAs s p → p ≡ split_of s
  -- bytes that come behind sound messages go on from what was left
  pub more : (s t : List ℕ) → AllSound (split_of s).messages
      → split_of (s ++ t) ≡ messages_then (split_of s).messages (split_of ((split_of s).left ++ t))
  -- and behind a fault nothing is split
  pub stopped : (s t : List ℕ) → all (λ (m : List ℕ). decides_sound (decide m)) (split_of s).messages ≡ false
      → split_of (s ++ t) ≡ parts (split_of s).messages ((split_of s).left ++ t)
  -- the sound ones: none where no sound message stands at the front, else the first and then those behind it
  pub sound_none : (s : List ℕ) → ((n : ℕ) → decide s ≡ Sound n → ⊥) → sound_messages s ≡ []
  pub sound_then : (s : List ℕ) (n : ℕ) → decide s ≡ Sound n → sound_messages s ≡ take n s ∷ sound_messages (drop n s)

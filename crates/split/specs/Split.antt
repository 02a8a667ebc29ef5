-- R16, R78, R81. The messages of some bytes: the first up to its deciding byte, and then on.
use Rattle.std.specs.Prelude.{ℕ, zero, suc, Bool, cond, true, false, List, [], ◌∷◌, ◌++◌, length, take, drop}
use Rattle.frame.specs.Decide.{decide, taken}
use Rattle.frame.specs.declared.Decision.{Decision}
use Rattle.frame.specs.declared.Decision.TheVariants.{Undecided, Faulty, Sound}

-- R81. Messages, and the bytes that are left behind them.
pub record Split : Type 0 where
  pub messages : List (List ℕ)
  pub left : List ℕ

-- R81. These messages, and these bytes behind them.
abbrev pub parts : List (List ℕ) → List ℕ → Split
parts ms left = record { messages = ms; left = left }

-- R81. These messages, and a split behind them.
abbrev pub messages_then : List (List ℕ) → Split → Split
messages_then ms rest = parts (ms ++ rest.messages) rest.left

-- R16, R31. The bytes s by what they decide: undecided they are left; a sound message and then the rest; nothing behind a fault.
unfoldable pub split_by : Decision → List ℕ → Split → Split
split_by Undecided s rest = parts [] s
split_by (Faulty f k) s rest = parts (take k s ∷ []) (drop k s)
split_by (Sound k) s rest = messages_then (take k s ∷ []) rest

-- R81. At most so many messages.
unfoldable pub split_within : ℕ → List ℕ → Split
split_within zero s = parts [] s
split_within (suc most) s = split_by (decide s) s (split_within most (drop (taken (decide s)) s))

-- R81. All of them: a message has at least one byte.
unfoldable pub split_of : List ℕ → Split
split_of s = split_within (length s) s

-- R78. The decision is that of a sound message.
unfoldable pub decides_sound : Decision → Bool
decides_sound Undecided = false
decides_sound (Faulty f k) = false
decides_sound (Sound k) = true

-- R78. The sound ones of some messages.
unfoldable pub sound_among : List (List ℕ) → List (List ℕ)
sound_among [] = []
sound_among (m ∷ ms) = cond (decides_sound (decide m)) (m ∷ sound_among ms) (sound_among ms)

-- R78. The sound messages at the front of s, one after another.
unfoldable pub sound_messages : List ℕ → List (List ℕ)
sound_messages s = sound_among (split_of s).messages

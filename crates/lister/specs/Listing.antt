-- R78, R79. The listing of some input.
use Rattle.std.specs.Prelude.{ℕ, ◌+◌, List, [], ◌∷◌, ◌++◌, cond, length, drop, eqb}
use Rattle.numbers.specs.Fault.{fault_number}
use Rattle.frame.specs.Header.{pdu_size, pdu_type, message_count}
use Rattle.frame.specs.Decide.{decide}
use Rattle.frame.specs.declared.Decision.{Decision}
use Rattle.frame.specs.declared.Decision.TheVariants.{Undecided, Faulty, Sound}
use Rattle.split.specs.Split.{sound_messages}
use Rattle.lines.specs.Text.{message_line, stop_line, part_line, end_line}

-- R78. How many bytes some messages are.
unfoldable pub bytes_of : List (List ℕ) → ℕ
bytes_of [] = 0
bytes_of (m ∷ ms) = length m + bytes_of ms

-- R78. The line of the message m at an offset.
unfoldable pub line_of : ℕ → List ℕ → List ℕ
line_of at m = message_line at (pdu_type m) (message_count m) (pdu_size m)

-- R78. A line for each of some messages that stand one after another from the offset at on.
unfoldable pub lines_of : ℕ → List (List ℕ) → List ℕ
lines_of at [] = []
lines_of at (m ∷ ms) = line_of at m ++ lines_of (at + length m) ms

-- R79. The last line, where left bytes stand at the offset at and decide d.
unfoldable pub last_by : Decision → ℕ → ℕ → List ℕ
last_by (Faulty f n) at left = stop_line at (fault_number f)
last_by Undecided at left = cond (eqb left 0) (end_line at) (part_line at left)
-- never behind all the sound messages
last_by (Sound n) at left = []

-- R79. The last line for the bytes s at an offset.
unfoldable pub last_line : ℕ → List ℕ → List ℕ
last_line at s = last_by (decide s) at (length s)

-- R79. How many bytes the sound messages at the front of s are.
unfoldable pub listed_bytes : List ℕ → ℕ
listed_bytes s = bytes_of (sound_messages s)

-- R79. What stands behind them.
unfoldable pub unlisted : List ℕ → List ℕ
unlisted s = drop (listed_bytes s) s

-- R78, R79. The listing of the bytes s, which stand at the offset at and end the input.
unfoldable pub listing_from : ℕ → List ℕ → List ℕ
listing_from at s = lines_of at (sound_messages s) ++ last_line (at + listed_bytes s) (unlisted s)

-- R78, R79. The listing of the whole input.
unfoldable pub listing : List ℕ → List ℕ
listing s = listing_from 0 s

-- R23, R24. A message's bytes, from its type, messageCount and data, and its place in a buffer.
use Rattle.std.specs.Prelude.{ℕ, ◌+◌, List, ◌∷◌, ◌++◌, cond, length, drop, eqb}
use Rattle.octets.specs.Numbers.{bytes16, bytes32}
use Rattle.heartbeat.specs.Beat.{seconds_form}
use Rattle.frame.specs.Limits.{sync, version, least_size}

-- R23. pduSize: the header's 9 bytes and the data.
abbrev pub size_of : List ℕ → ℕ
size_of body = length body + least_size

-- R23. The 3B and the header.
unfoldable pub head_bytes : ℕ → ℕ → ℕ → List ℕ
head_bytes kind count size = sync ∷ bytes16 version ++ (bytes32 size ++ (kind ∷ bytes16 count))

-- R23. A whole message.
unfoldable pub message : ℕ → ℕ → List ℕ → List ℕ
message kind count body = head_bytes kind count (size_of body) ++ body

-- R15. A heartbeat's bytes: 2 of seconds, else 4 of milliseconds.
unfoldable pub beat_bytes : ℕ → ℕ → List ℕ
beat_bytes form value = cond (eqb form seconds_form) (bytes16 value) (bytes32 value)

-- R24. m at the buffer's front, all behind it as it was.
unfoldable pub at_front : List ℕ → List ℕ → List ℕ
at_front m buf = m ++ drop (length m) buf

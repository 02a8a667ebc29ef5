-- R71, R73. The arguments of 3.14, and what they arm.
use Rattle.std.specs.Prelude.{ℕ, ◌+◌, Bool, true, false, cond, not, ◌&&◌, ◌||◌, List, eqb, leb, length, get_or, take, drop}
use Rattle.std.specs.Prelude.{Option, Some, None}
use Rattle.octets.specs.Numbers.{be16_at}
use Rattle.dotted.specs.Text.{Dotted, dotted_of}
use Rattle.mechanism.specs.State.{key_bytes, no_address, disarmed}
use Rattle.mechanism.specs.declared.Mechanism.{Mechanism}

-- R73. What 3.14 makes of its arguments.
pub record Arming : Type 0 where
  pub taken : Bool
  pub mechanism : Mechanism

-- R71. Where the text starts: behind the key and its own length.
abbrev pub text_start : ℕ
text_start = 18

-- R71. The text length that the arguments tell.
abbrev pub text_length : List ℕ → ℕ
text_length part = be16_at part key_bytes

-- R71. The key.
unfoldable pub key_in : List ℕ → List ℕ
key_in part = take key_bytes part

-- R71. The text.
unfoldable pub text_in : List ℕ → List ℕ
text_in part = take (text_length part) (drop text_start part)

-- R71. The port.
unfoldable pub port_in : List ℕ → ℕ
port_in part = be16_at part (text_start + text_length part)

-- R71. The length is not the one that the text length tells.
unfoldable pub is_misfit : List ℕ → Bool
is_misfit part = not (eqb (length part) (20 + text_length part))

-- R73. The first part is 224 to 239.
unfoldable pub is_multicast : List ℕ → Bool
is_multicast address = leb 224 (get_or address 0 0) && leb (get_or address 0 0) 239

-- R73. An address, and multicast.
unfoldable pub is_group : Dotted → Bool
is_group d = d.sound && is_multicast d.address

-- R73. A text that 3.14 takes: empty, or a multicast address.
unfoldable pub is_text_taken : List ℕ → Bool
is_text_taken text = eqb (length text) 0 || is_group (dotted_of text)

-- R73. The address of a text, zeros for the empty one.
unfoldable pub address_of : List ℕ → List ℕ
address_of text = cond (eqb (length text) 0) no_address (dotted_of text).address

-- R73. The text or the port is not taken: status 7.
unfoldable pub is_untaken : List ℕ → Bool
is_untaken part = not (is_text_taken (text_in part)) || eqb (port_in part) 0

-- R73. The mechanism that these arguments arm.
unfoldable pub armed_by : List ℕ → Mechanism
armed_by part = record { armed = true; key = key_in part; address = address_of (text_in part); port = port_in part }

-- R73. What 3.14 makes of its arguments: nothing where the text or the port is not taken.
unfoldable pub arming_of : List ℕ → Arming
arming_of part =
    cond (is_untaken part)
    (record { taken = false; mechanism = disarmed })
    (record { taken = true; mechanism = armed_by part })

-- R73. The mechanism of arguments that are taken.
abbrev pub mechanism_in : Arming → Option Mechanism
mechanism_in a = cond a.taken (Some a.mechanism) None

-- R73. The address of a text that 3.14 takes.
abbrev pub address_taken : List ℕ → Option (List ℕ)
address_taken text = cond (is_text_taken text) (Some (address_of text)) None

-- R70. The reset mechanism.
use Rattle.std.specs.Prelude.{ℕ, false, List, replicate}
use Rattle.mechanism.specs.declared.Mechanism.{Mechanism}

-- R70. The bytes of a key.
abbrev pub key_bytes : ℕ
key_bytes = 16

-- R70. The bytes of an address.
abbrev pub address_bytes : ℕ
address_bytes = 4

-- R73. The address of an empty text.
abbrev pub no_address : List ℕ
no_address = replicate address_bytes 0

-- R70. The mechanism disarmed, all zero.
abbrev pub disarmed : Mechanism
disarmed = record { armed = false; key = replicate key_bytes 0; address = no_address; port = 0 }

-- R70. The mechanism with another key.
abbrev pub with_key : Mechanism → List ℕ → Mechanism
with_key m key = record { armed = m.armed; key = key; address = m.address; port = m.port }

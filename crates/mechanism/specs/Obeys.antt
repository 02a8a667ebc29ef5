-- R61k, R61l. The record rules of the mechanism.
use Rattle.std.specs.Prelude.{ℕ, Bool, cond, not, ◌&&◌, ◌||◌, List, eqb}
use Rattle.octets.specs.Zeros.{all_zero}
use Rattle.mechanism.specs.Arguments.{is_multicast}
use Rattle.mechanism.specs.declared.Mechanism.{Mechanism}

-- R61. Row l: an address that 3.14 would take: that of no text, or multicast.
unfoldable pub is_address_taken : List ℕ → Bool
is_address_taken address = all_zero address || is_multicast address

-- R61. Rows k and l: the mechanism keeps the record rules.
unfoldable pub mechanism_obeys : Mechanism → Bool
mechanism_obeys m =
    cond m.armed
    (is_address_taken m.address && not (eqb m.port 0))
    (all_zero m.key && all_zero m.address && eqb m.port 0)

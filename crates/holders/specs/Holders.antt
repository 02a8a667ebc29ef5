-- R42, R60, R61f. The holder of a mute's lock, as a number.
use Rattle.std.specs.Prelude.{ℕ, ◌+◌, ◌-◌, Bool, cond, not, ◌&&◌, ◌||◌, List, eqb, ltb}
use Rattle.connection.specs.State.{connection_count, live_at}
use Rattle.connection.specs.declared.Connection.{Connection}

-- R3. Connection n as a holder: n + 1; a number that no connection has holds nothing.
unfoldable pub owner_of : ℕ → ℕ
owner_of n = cond (ltb n connection_count) (n + 1) 0

-- R40. Status 3: somebody holds the lock, and it is not connection n.
unfoldable pub is_other : ℕ → ℕ → Bool
is_other holder n = not (eqb holder 0) && not (eqb holder (owner_of n))

-- R61. Row f: the holder is nobody or an open connection.
unfoldable pub holder_obeys : List Connection → ℕ → Bool
holder_obeys cs holder = eqb holder 0 || live_at cs (holder - 1)

-- R60. The lock of a connection that is not open is freed.
unfoldable pub swept_holder : List Connection → ℕ → ℕ
swept_holder cs holder = cond (holder_obeys cs holder) holder 0

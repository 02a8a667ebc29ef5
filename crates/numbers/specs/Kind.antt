-- R66. The kinds of an answer that refuses nothing, by name.
use Rattle.std.specs.Prelude.{ℕ, List, [], ◌∷◌}

-- R66. Of a delivery: more needed.
abbrev pub kind_more : ℕ
kind_more = 1

-- R66. Of a delivery: a message.
abbrev pub kind_message : ℕ
kind_message = 2

-- R66. Of a delivery: closed by a fault.
abbrev pub kind_closed : ℕ
kind_closed = 3

-- R66. Of a taking: nothing.
abbrev pub kind_nothing : ℕ
kind_nothing = 0

-- R66. Of a taking: a notification.
abbrev pub kind_notification : ℕ
kind_notification = 1

-- R66. Of a taking: a keep-alive.
abbrev pub kind_keep_alive : ℕ
kind_keep_alive = 2

-- R66. Of a datagram: nothing changed.
abbrev pub kind_unchanged : ℕ
kind_unchanged = 0

-- R66. Of a datagram: a reset.
abbrev pub kind_reset : ℕ
kind_reset = 1

-- R66. All of them, in that order.
abbrev pub kinds : List ℕ
kinds = kind_more ∷ kind_message ∷ kind_closed ∷ kind_nothing ∷ kind_notification ∷ kind_keep_alive ∷ kind_unchanged ∷ kind_reset ∷ []

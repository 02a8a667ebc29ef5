-- R40. The statuses of a command, by name, in the order in which they are tried.
use Rattle.std.specs.Prelude.{ℕ, List, [], ◌∷◌}
use Rattle.numbers.specs.declared.Status.{Status}
use Rattle.numbers.specs.declared.Status.TheVariants as status

-- R40. The target is no object.
abbrev pub no_object : ℕ
no_object = 5

-- R40. The object has no such method.
abbrev pub no_method : ℕ
no_method = 11

-- R40. Lock or unlock of a manager.
abbrev pub forbidden : ℕ
forbidden = 8

-- R40. Wrong parameter count, length or last pair.
abbrev pub malformed : ℕ
malformed = 4

-- R40. Another connection holds the mute's lock.
abbrev pub held_by_other : ℕ
held_by_other = 3

-- R40. The emitter is no mute, or the event not 1.1.
abbrev pub strange_emitter : ℕ
strange_emitter = 6

-- R40. A mode, a mute's value, a text or a port that is not taken.
abbrev pub bad_value : ℕ
bad_value = 7

-- R40. Nothing to unlock or remove, or a subscription that is held already.
abbrev pub out_of_turn : ℕ
out_of_turn = 9

-- R40. All subscription entries are used.
abbrev pub no_free_entry : ℕ
no_free_entry = 10

-- R40. The command was carried out.
abbrev pub carried_out : ℕ
carried_out = 0

-- R40. All of them, in that order.
abbrev pub statuses : List ℕ
statuses =
    no_object ∷ no_method ∷ forbidden ∷ malformed ∷ held_by_other ∷ strange_emitter ∷ bad_value ∷ out_of_turn
    ∷ no_free_entry ∷ carried_out ∷ []

-- R40. The number of a status that a command fails with: the others than 0.
abbrev pub status_number : Status → ℕ
status_number status.NoObject = no_object
status_number status.NoMethod = no_method
status_number status.Forbidden = forbidden
status_number status.Malformed = malformed
status_number status.HeldByOther = held_by_other
status_number status.StrangeEmitter = strange_emitter
status_number status.BadValue = bad_value
status_number status.OutOfTurn = out_of_turn
status_number status.NoFreeEntry = no_free_entry

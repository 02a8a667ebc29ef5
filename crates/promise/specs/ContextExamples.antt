-- R38, R40, R44, R45, R48 with numbers: subscriptions with contexts of 0, 1, 63, 64 and 65 bytes, worked by the rules as one table.
use Rattle.std.specs.Prelude.{ℕ, ◌+◌, ◌≡◌, List, [], ◌∷◌, ◌++◌, map, length, replicate}
use Rattle.octets.specs.Numbers.{bytes16, bytes32}
use Rattle.reader.specs.Examples.{reply7, muted_to}
use Rattle.layout.specs.Message as layouts
use Rattle.objects.specs.Methods.{subscription_manager}
use Rattle.numbers.specs.Status.{malformed, strange_emitter, bad_value, out_of_turn, carried_out}
use Rattle.answers.specs.Numbers.{taking_numbers}
use Rattle.answers.specs.declared.Taking.TheVariants as takings
use Rattle.device.specs.declared.Device.{Device}
use Rattle.promise.specs.Examples.{Row, row, two_open, after_message, reply_row, taken_from, mute4097}

-- R38. The parameters of 3.1: emitter, event 1.1, subscriber object 9 and method 3.1, a context counted so, the mode, the last pair.
abbrev pub add_arguments : ℕ → ℕ → List ℕ → ℕ → ℕ → List ℕ
add_arguments emitter counted context mode last =
    bytes32 emitter ++ (0 ∷ 1 ∷ 0 ∷ 1 ∷ (bytes32 9 ++ (0 ∷ 3 ∷ 0 ∷ 1 ∷ (bytes16 counted ++ (context ++ (mode ∷ 0 ∷ last ∷ []))))))

-- R38. A command of 3.1 with these parameters and handle 7.
abbrev pub add_of : List ℕ → List ℕ
add_of part =
    layouts.message 1 1 (bytes32 (17 + length part) ++ (bytes32 7 ++ (bytes32 subscription_manager ++ (0 ∷ 3 ∷ 0 ∷ 1 ∷ 5 ∷ part))))

-- R44. A context of n bytes, all the same.
abbrev pub context_of_all : ℕ → ℕ → List ℕ
context_of_all n byte = replicate n byte

-- R44. A subscription to 4097 with that context.
abbrev pub add_with : List ℕ → List ℕ
add_with context = add_of (add_arguments 4097 (length context) context 1 0)

-- R40. A 3.1 on a device, and the status of its response.
abbrev pub add_row : Device → List ℕ → ℕ → Row
add_row d m status = reply_row d 0 m (reply7 status)

-- R48. After a 3.1 connection 1 mutes 4097: what take gives, as far as so many bytes.
abbrev pub tell_row : Device → List ℕ → ℕ → List ℕ → Row
tell_row d m long wanted = row (taken_from (after_message (after_message d 0 m) 1 mute4097) long) wanted

-- R44, R48. A context of n bytes is taken, and sent as it was given.
abbrev pub held_rows : ℕ → List Row
held_rows n =
    let m = add_with (context_of_all n 0xAB) in
    add_row (two_open 0) m carried_out
    ∷ tell_row (two_open 0) m (39 + n) (taking_numbers (takings.Notification 0 (39 + n)) ++ muted_to (context_of_all n 0xAB))
    ∷ []

-- R40, R41. One of 65 bytes is status 7, and there is nothing to take.
abbrev pub too_long_rows : List Row
too_long_rows =
    add_row (two_open 0) (add_with (context_of_all 65 0xAB)) bad_value
    ∷ tell_row (two_open 0) (add_with (context_of_all 65 0xAB)) 0 (taking_numbers takings.Nothing)
    ∷ []

-- R40. The first that applies: 4 for the length, also above 64, and for the last pair; 6; 7 for the mode; 7 before 9.
-- Four bytes without a count are read with their first two as the count: 01 02 03 04 is 4, 00 02 A1 B2 a context of two bytes.
abbrev pub order_rows : List Row
order_rows =
    add_row (two_open 0) (add_of (add_arguments 4097 3 (context_of_all 4 0xAB) 1 0)) malformed
    ∷ add_row (two_open 0) (add_of (add_arguments 4097 5 (context_of_all 4 0xAB) 1 0)) malformed
    ∷ add_row (two_open 0) (add_of (add_arguments 4097 65 (context_of_all 64 0xAB) 1 0)) malformed
    ∷ add_row (two_open 0) (add_of (add_arguments 4097 0x0102 (0x03 ∷ 0x04 ∷ []) 1 0)) malformed
    ∷ add_row (two_open 0) (add_of (add_arguments 4097 0x0002 (0xA1 ∷ 0xB2 ∷ []) 1 0)) carried_out
    ∷ add_row (two_open 0) (add_of (add_arguments 4096 65 (context_of_all 65 0xAB) 2 1)) malformed
    ∷ add_row (two_open 0) (add_of (add_arguments 4096 65 (context_of_all 65 0xAB) 2 0)) strange_emitter
    ∷ add_row (two_open 0) (add_of (add_arguments 4097 4 (context_of_all 4 0xAB) 2 0)) bad_value
    ∷ add_row (after_message (two_open 0) 0 (add_with [])) (add_with (context_of_all 65 0xAB)) bad_value
    ∷ []

-- R45. With another context it is the same subscription: 9, and what it was given first is sent.
abbrev pub twin_rows : List Row
twin_rows =
    let d = after_message (two_open 0) 0 (add_with (context_of_all 4 0x11)) in
    add_row d (add_with (context_of_all 64 0xAB)) out_of_turn
    ∷ tell_row d (add_with (context_of_all 64 0xAB)) 43 (taking_numbers (takings.Notification 0 43) ++ muted_to (context_of_all 4 0x11))
    ∷ []

-- R44, R48. All rows.
abbrev pub context_table : List Row
context_table = held_rows 0 ++ held_rows 1 ++ held_rows 63 ++ held_rows 64 ++ too_long_rows ++ order_rows ++ twin_rows

-- Theorem. Every row gives what it is to give.
abbrev pub ContextsWorked : Type 0
ContextsWorked = map (λ (r : Row). r.gives) context_table ≡ map (λ (r : Row). r.wanted) context_table

-- R70 to R77 with numbers, worked by the rules as one table.
use Rattle.std.specs.Prelude.{ℕ, ◌+◌, ◌≡◌, List, [], ◌∷◌, ◌++◌, map, length, replicate}
use Rattle.octets.specs.Numbers.{bytes16, bytes32}
use Rattle.reader.specs.Examples.{lock4097, reply7}
use Rattle.layout.specs.Message as layouts
use Rattle.mechanism.specs.Datagram.{sentinel}
use Rattle.objects.specs.Methods.{device_manager, subscription_manager}
use Rattle.numbers.specs.declared.Fault.TheVariants as fault
use Rattle.numbers.specs.Status.{no_method, malformed, held_by_other, bad_value, carried_out}
use Rattle.answers.specs.Numbers.{delivery_numbers, resetting_numbers}
use Rattle.answers.specs.declared.Delivery.TheVariants as deliveries
use Rattle.answers.specs.declared.Resetting.{Resetting}
use Rattle.answers.specs.declared.Resetting.TheVariants as resettings
use Rattle.device.specs.declared.Device.{Device}
use Rattle.stream.specs.Calls.{handed, asked}
use Rattle.promise.specs.Rulebook.{opening, closing, datagram, rule}
use Rattle.promise.specs.Examples.{Row, row, two_open, after_message, told, reply_row}

-- R71. A command of 3.14 for an object, with handle 7 and this parameter count.
abbrev pub set_key : ℕ → ℕ → List ℕ → List ℕ
set_key object count part =
    layouts.message 1 1 (bytes32 (17 + length part) ++ (bytes32 7 ++ (bytes32 object ++ (0 ∷ 3 ∷ 0 ∷ 14 ∷ count ∷ part))))

-- R71. Its parameters: the key, the text's length, the text, the port.
abbrev pub arguments : List ℕ → ℕ → List ℕ → ℕ → List ℕ
arguments key size text port = key ++ (bytes16 size ++ (text ++ bytes16 port))

-- R70. A key, 00 01 .. 0F.
abbrev pub key_a : List ℕ
key_a = 0x00 ∷ 0x01 ∷ 0x02 ∷ 0x03 ∷ 0x04 ∷ 0x05 ∷ 0x06 ∷ 0x07 ∷ 0x08 ∷ 0x09 ∷ 0x0A ∷ 0x0B ∷ 0x0C ∷ 0x0D ∷ 0x0E ∷ 0x0F ∷ []

-- R70. A key that differs from it in one bit.
abbrev pub key_b : List ℕ
key_b = 0x00 ∷ 0x01 ∷ 0x02 ∷ 0x03 ∷ 0x04 ∷ 0x05 ∷ 0x06 ∷ 0x07 ∷ 0x08 ∷ 0x09 ∷ 0x0A ∷ 0x0B ∷ 0x0C ∷ 0x0D ∷ 0x0E ∷ 0x0E ∷ []

-- R70. A key of zeros.
abbrev pub no_key : List ℕ
no_key = replicate 16 0

-- R73. The text 239.255.0.1, which is taken.
abbrev pub text239 : List ℕ
text239 = 50 ∷ 51 ∷ 57 ∷ 46 ∷ 50 ∷ 53 ∷ 53 ∷ 46 ∷ 48 ∷ 46 ∷ 49 ∷ []

-- R73. The text 240.0.0.1, above multicast.
abbrev pub text240 : List ℕ
text240 = 50 ∷ 52 ∷ 48 ∷ 46 ∷ 48 ∷ 46 ∷ 48 ∷ 46 ∷ 49 ∷ []

-- R73. The text 223.255.255.255, below multicast.
abbrev pub text223 : List ℕ
text223 = 50 ∷ 50 ∷ 51 ∷ 46 ∷ 50 ∷ 53 ∷ 53 ∷ 46 ∷ 50 ∷ 53 ∷ 53 ∷ 46 ∷ 50 ∷ 53 ∷ 53 ∷ []

-- R73. The text 0.0.0.0, which is no group.
abbrev pub text0 : List ℕ
text0 = 48 ∷ 46 ∷ 48 ∷ 46 ∷ 48 ∷ 46 ∷ 48 ∷ []

-- R72. The text 239.1.1.01, with a zero in front.
abbrev pub text_leading : List ℕ
text_leading = 50 ∷ 51 ∷ 57 ∷ 46 ∷ 49 ∷ 46 ∷ 49 ∷ 46 ∷ 48 ∷ 49 ∷ []

-- R72. The text 239.1.1, of three parts.
abbrev pub text_short : List ℕ
text_short = 50 ∷ 51 ∷ 57 ∷ 46 ∷ 49 ∷ 46 ∷ 49 ∷ []

-- R73. A device read at 5000, connections 0 and 1 open, armed by 0 with a key, a text and port 50,000.
abbrev pub armed_with : List ℕ → List ℕ → Device
armed_with key text = after_message (two_open 5000) 0 (set_key device_manager 2 (arguments key (length text) text 50000))

-- R74. And then by connection 1 with another key.
abbrev pub armed_again : Device
armed_again = after_message (armed_with key_a []) 1 (set_key device_manager 2 (arguments key_b 0 [] 50000))

-- R70. A device's key, address and port.
abbrev pub mechanism_of : Device → List ℕ
mechanism_of d = d.mechanism.key ++ (d.mechanism.address ++ (d.mechanism.port ∷ []))

-- R76. The device after a datagram.
abbrev pub after_datagram : Device → List ℕ → Device
after_datagram d g = (rule d (asked (datagram g))).0

-- R73. A 3.14 with these parameters, and the status of its response.
abbrev pub status_row : List ℕ → ℕ → Row
status_row part status = reply_row (two_open 0) 0 (set_key device_manager 2 part) (reply7 status)

-- R77. A datagram, and the answer that it is to get.
abbrev pub datagram_row : Device → List ℕ → Resetting → Row
datagram_row d g answer = row (rule d (asked (datagram g))).1.answer (resetting_numbers answer)

-- R12, R30. A message with a count without bytes: it closes its connection, and gets no reply.
abbrev pub closed_row : List ℕ → Row
closed_row m = row (told (rule (two_open 0) (handed 0 m [])).1) (delivery_numbers (deliveries.Closed (length m) fault.Data))

-- R71, R73. Statuses 0, 7 and 4 of 3.14, 11 on another object, and a 3.14 that closes its connection.
abbrev pub status_rows : List Row
status_rows =
    status_row (arguments key_a 0 [] 50000) carried_out
    ∷ status_row (arguments no_key 0 [] 65535) carried_out
    ∷ status_row (arguments key_a 11 text239 1) carried_out
    ∷ status_row (arguments key_a 0 [] 0) bad_value
    ∷ status_row (arguments key_a 9 text240 50000) bad_value
    ∷ status_row (arguments key_a 15 text223 50000) bad_value
    ∷ status_row (arguments key_a 7 text0 50000) bad_value
    ∷ status_row (arguments key_a 10 text_leading 50000) bad_value
    ∷ status_row (arguments key_a 7 text_short 50000) bad_value
    ∷ status_row (arguments key_a 12 text239 50000) malformed
    ∷ status_row (arguments key_a 10 text239 50000) malformed
    ∷ status_row key_a malformed
    ∷ reply_row (two_open 0) 0 (set_key device_manager 0 []) (reply7 malformed)
    ∷ reply_row (two_open 0) 0 (set_key device_manager 1 (arguments key_a 0 [] 0)) (reply7 malformed)
    ∷ reply_row (two_open 0) 0 (set_key subscription_manager 2 (arguments key_a 0 [] 50000)) (reply7 no_method)
    ∷ closed_row (set_key device_manager 2 [])
    ∷ []

-- R70, R74. What the record keeps, that a closure leaves it, and that the last key counts.
abbrev pub kept_rows : List Row
kept_rows =
    row (mechanism_of (armed_with key_a [])) (key_a ++ (0 ∷ 0 ∷ 0 ∷ 0 ∷ 50000 ∷ []))
    ∷ row (mechanism_of (armed_with key_a text239)) (key_a ++ (239 ∷ 255 ∷ 0 ∷ 1 ∷ 50000 ∷ []))
    ∷ row (mechanism_of (rule (armed_with key_a []) (asked (closing 0))).0) (key_a ++ (0 ∷ 0 ∷ 0 ∷ 0 ∷ 50000 ∷ []))
    ∷ datagram_row armed_again (sentinel ++ key_a) resettings.Nothing
    ∷ datagram_row armed_again (sentinel ++ key_b) resettings.Done
    ∷ []

-- R75. Which datagrams reset.
abbrev pub datagram_rows : List Row
datagram_rows =
    datagram_row (armed_with key_a []) (sentinel ++ key_a) resettings.Done
    ∷ datagram_row (armed_with key_a []) (sentinel ++ key_b) resettings.Nothing
    ∷ datagram_row (armed_with key_a []) (sentinel ++ (key_a ++ (0 ∷ []))) resettings.Nothing
    ∷ datagram_row (armed_with key_a []) key_a resettings.Nothing
    ∷ datagram_row (armed_with key_a []) [] resettings.Nothing
    ∷ datagram_row (armed_with no_key []) (sentinel ++ no_key) resettings.Done
    ∷ datagram_row (two_open 0) (sentinel ++ no_key) resettings.Nothing
    ∷ []

-- R76. Connection 0 holds 4097 and has hung.
abbrev pub hung : Device
hung = after_message (armed_with key_a []) 0 lock4097

-- R76. The device after a reset, with connection 0 opened again.
abbrev pub again : Device
again = (rule (after_datagram hung (sentinel ++ key_a)) (asked opening)).0

-- R76. Another gets status 3 before the reset, a new controller status 0 after it.
abbrev pub rack_rows : List Row
rack_rows =
    reply_row hung 1 lock4097 (reply7 held_by_other)
    ∷ reply_row again 0 lock4097 (reply7 carried_out)
    ∷ row (again.reading ∷ mechanism_of again) (5000 ∷ no_key ++ (0 ∷ 0 ∷ 0 ∷ 0 ∷ 0 ∷ []))
    ∷ datagram_row again (sentinel ++ key_a) resettings.Nothing
    ∷ datagram_row again (sentinel ++ no_key) resettings.Nothing
    ∷ []

-- R71, R73, R74, R75, R76. All rows.
abbrev pub reset_table : List Row
reset_table = status_rows ++ kept_rows ++ datagram_rows ++ rack_rows

-- Theorem. Every row gives what is wanted.
abbrev pub ResetWorked : Type 0
ResetWorked = map (λ (r : Row). r.gives) reset_table ≡ map (λ (r : Row). r.wanted) reset_table

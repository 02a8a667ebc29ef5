-- R9, R12, R83. Messages with a count that does not go with its bytes, each beside one that does, or with a bad context: one table.
use Rattle.std.specs.Prelude.{ℕ, ◌≡◌, List, [], ◌∷◌, ◌++◌, map}
use Rattle.octets.specs.Numbers.{bytes16, bytes32}
use Rattle.octets.specs.Zeros.{zeros}
use Rattle.reader.specs.Examples.{Example, worked}

-- R9. The fields of a lock of 4097 with handle 7, behind its size, with that parameter count.
abbrev pub lock_counting : ℕ → List ℕ
lock_counting count =
    0x00 ∷ 0x00 ∷ 0x00 ∷ 0x11 ∷ 0x00 ∷ 0x00 ∷ 0x00 ∷ 0x07 ∷ 0x00 ∷ 0x00 ∷ 0x10 ∷ 0x01 ∷ 0x00 ∷ 0x01 ∷ 0x00 ∷ 0x03 ∷ count ∷ []

-- R9. A set of 4097 with handle 7: one parameter, and its byte.
abbrev pub set_to_muted : List ℕ
set_to_muted =
    0x00 ∷ 0x00 ∷ 0x00 ∷ 0x12 ∷ 0x00 ∷ 0x00 ∷ 0x00 ∷ 0x07 ∷ 0x00 ∷ 0x00 ∷ 0x10 ∷ 0x01 ∷ 0x00 ∷ 0x04 ∷ 0x00 ∷ 0x02 ∷ 0x01
    ∷ 0x01 ∷ []

-- R9. A response to handle 7 of that size, with status 0, that count and these parameters.
abbrev pub response_counting : ℕ → ℕ → List ℕ → List ℕ
response_counting size count part =
    0x00 ∷ 0x00 ∷ 0x00 ∷ size ∷ 0x00 ∷ 0x00 ∷ 0x00 ∷ 0x07 ∷ 0x00 ∷ count ∷ part

-- R9. A notification of that size to object 9, method 3.1, from 4097, event 1.1: that count, context 01 02 03 04, these event parameters.
abbrev pub notification_counting : ℕ → ℕ → List ℕ → List ℕ
notification_counting size count part =
    0x00 ∷ 0x00 ∷ 0x00 ∷ size ∷ 0x00 ∷ 0x00 ∷ 0x00 ∷ 0x09 ∷ 0x00 ∷ 0x03 ∷ 0x00 ∷ 0x01 ∷ count ∷ 0x00 ∷ 0x04 ∷ 0x01 ∷ 0x02 ∷ 0x03 ∷ 0x04
    ∷ 0x00 ∷ 0x00 ∷ 0x10 ∷ 0x01 ∷ 0x00 ∷ 0x01 ∷ 0x00 ∷ 0x01 ∷ part

-- R7. A header with that pduSize, type and messageCount, and the data behind it.
abbrev pub framed_by : ℕ → ℕ → ℕ → List ℕ → List ℕ
framed_by size kind count body = 0x3B ∷ 0x00 ∷ 0x01 ∷ 0x00 ∷ 0x00 ∷ 0x00 ∷ size ∷ kind ∷ 0x00 ∷ count ∷ body

-- R83. That lock, announcing one parameter, in a message of its own.
abbrev pub announced_lock : List ℕ
announced_lock = framed_by 0x1A 0x01 0x01 (lock_counting 1)

-- R83. The set, and behind it that lock.
abbrev pub set_then_announced : List ℕ
set_then_announced = framed_by 0x2C 0x01 0x02 (set_to_muted ++ lock_counting 1)

-- R83. A notification with 65 bytes of context, all there, and no event parameters.
abbrev pub context_of65 : List ℕ
context_of65 = framed_by 0x61 0x02 0x01 (bytes32 88 ++ (zeros 8 ++ (1 ∷ (bytes16 65 ++ zeros 73))))

-- R83. One whose context of 1 byte would end behind the least entry, which is all there is.
abbrev pub context_past : List ℕ
context_past = framed_by 0x20 0x02 0x01 (bytes32 23 ++ (zeros 8 ++ (1 ∷ (bytes16 1 ++ zeros 8))))

-- R19, R20, R21. A row of a message that is refused: 8 with fault 6, for the message and its entry 0, and neither part nor context.
abbrev pub refused_row : List ℕ → Example
refused_row bytes = record { bytes = bytes; reads = 8 ∷ 6 ∷ []; first = 8 ∷ 6 ∷ []; part = []; context = [] }

-- R9, R12, R83. Commands of both types, a command behind a sound one, responses and notifications.
abbrev pub count_rows : List Example
count_rows =
    refused_row announced_lock
    ∷ refused_row (framed_by 0x1A 0x00 0x01 (lock_counting 255))
    ∷ refused_row set_then_announced
    ∷ record {
      bytes = framed_by 0x2C 0x01 0x02 (set_to_muted ++ lock_counting 0);
      reads = 0 ∷ 45 ∷ 1 ∷ 2 ∷ [];
      first = 0 ∷ 0 ∷ 7 ∷ 4097 ∷ 4 ∷ 2 ∷ 1 ∷ [];
      part = 0x01 ∷ [];
      context = [];
    }
    ∷ refused_row (framed_by 0x13 0x03 0x01 (response_counting 0x0A 1 []))
    ∷ record {
      bytes = framed_by 0x14 0x03 0x01 (response_counting 0x0B 1 (0x02 ∷ []));
      reads = 0 ∷ 21 ∷ 3 ∷ 1 ∷ [];
      first = 0 ∷ 3 ∷ 7 ∷ 0 ∷ 1 ∷ [];
      part = 0x02 ∷ [];
      context = [];
    }
    ∷ refused_row (framed_by 0x14 0x03 0x01 (response_counting 0x0B 0 (0x02 ∷ [])))
    ∷ refused_row (framed_by 0x24 0x02 0x01 (notification_counting 0x1B 2 []))
    ∷ record {
      bytes = framed_by 0x25 0x02 0x01 (notification_counting 0x1C 2 (0x00 ∷ []));
      reads = 0 ∷ 38 ∷ 2 ∷ 1 ∷ [];
      first = 0 ∷ 2 ∷ 9 ∷ 3 ∷ 1 ∷ 2 ∷ 4 ∷ 4097 ∷ 1 ∷ 1 ∷ [];
      part = 0x00 ∷ [];
      context = 0x01 ∷ 0x02 ∷ 0x03 ∷ 0x04 ∷ [];
    }
    ∷ refused_row (framed_by 0x25 0x02 0x01 (notification_counting 0x1C 1 (0x00 ∷ [])))
    ∷ record {
      bytes = framed_by 0x24 0x02 0x01 (notification_counting 0x1B 1 []);
      reads = 0 ∷ 37 ∷ 2 ∷ 1 ∷ [];
      first = 0 ∷ 2 ∷ 9 ∷ 3 ∷ 1 ∷ 1 ∷ 4 ∷ 4097 ∷ 1 ∷ 1 ∷ [];
      part = [];
      context = 0x01 ∷ 0x02 ∷ 0x03 ∷ 0x04 ∷ [];
    }
    ∷ refused_row (framed_by 0x24 0x02 0x01 (notification_counting 0x1B 0 []))
    ∷ refused_row context_of65
    ∷ refused_row context_past
    ∷ []

-- Theorem. Every row is worked out as it stands.
abbrev pub CountsRead : Type 0
CountsRead = map worked count_rows ≡ count_rows

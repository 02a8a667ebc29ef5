-- R13, R16, R18. The data of a message, and its deciding byte.
use Rattle.std.specs.Prelude.{ℕ, List, Option, Some, None, Bool, cond, true, false, length, get_or, take, drop, ltb, eqb}
use Rattle.numbers.specs.declared.Fault.{Fault}
use Rattle.numbers.specs.declared.Fault.TheVariants as fault
use Rattle.frame.specs.Limits.{sync, header_end, keep_alive, seconds_bytes, milliseconds_bytes}
use Rattle.frame.specs.Header.{pdu_type, message_count, message_length, header_fault}
use Rattle.frame.specs.Entry.{entries_fill}
use Rattle.frame.specs.declared.Decision.{Decision}
use Rattle.frame.specs.declared.Decision.TheVariants.{Undecided, Faulty, Sound}

-- R13. A keep-alive's data has 2 bytes or 4.
unfoldable pub keep_alive_fill : List ℕ → Bool
keep_alive_fill t = cond (eqb (length t) seconds_bytes) true (eqb (length t) milliseconds_bytes)

-- R13. The data is right for its type and messageCount.
unfoldable pub data_sound : ℕ → ℕ → List ℕ → Bool
data_sound kind count t = cond (eqb kind keep_alive) (keep_alive_fill t) (entries_fill count kind t)

-- R16. The last byte decides: a sound message, or fault 6; m is the whole message.
unfoldable pub decide_data : List ℕ → Decision
decide_data m =
    cond (data_sound (pdu_type m) (message_count m) (drop header_end m)) (Sound (length m)) (Faulty fault.Data (length m))

-- R16. The tenth byte decides where the header has a fault; else the last byte does.
unfoldable pub decide_header : Option Fault → List ℕ → Decision
decide_header None s = cond (ltb (length s) (message_length s)) Undecided (decide_data (take (message_length s) s))
decide_header (Some f) s = Faulty f header_end

-- R16. What the bytes at the front of s decide, and how many of them it takes.
unfoldable pub decide : List ℕ → Decision
decide s =
    cond (eqb (length s) 0) Undecided
    (cond (eqb (get_or s 0 0) sync)
    (cond (ltb (length s) header_end) Undecided (decide_header (header_fault s) s))
    (Faulty fault.Start 1))

-- R18. The bytes up to and including the deciding one; 0 while undecided.
unfoldable pub taken : Decision → ℕ
taken Undecided = 0
taken (Faulty f n) = n
taken (Sound n) = n

-- R18. Something is decided.
unfoldable pub settled : Decision → Bool
settled Undecided = false
settled (Faulty f n) = true
settled (Sound n) = true

-- R9, R11 to R14. The entries of a message's data.
use Rattle.std.specs.Prelude.{ℕ, zero, suc, ◌+◌, ◌-◌, List, Bool, cond, false, ◌||◌, length, get_or, drop, ltb, eqb}
use Rattle.octets.specs.Numbers.{be16_at, be32_at}
use Rattle.frame.specs.Limits.{notification, response, least_command, least_notification, least_response, greatest_context}
use Rattle.frame.specs.Places.{command_count_place, notification_count_place, response_count_place, context_count_place}

-- R9. The least entry.
unfoldable pub least_entry : ℕ → ℕ
least_entry kind = cond (ltb kind notification) least_command (cond (eqb kind notification) least_notification least_response)

-- R9. How many bytes an entry's context has: a notification gives a count, other entries have no context.
unfoldable pub context_count : ℕ → List ℕ → ℕ
context_count kind e = cond (eqb kind notification) (be16_at e context_count_place) 0

-- R9. The parameter offset: where an entry's parameters start, behind the fields of the least entry and the context.
unfoldable pub parameter_offset : ℕ → List ℕ → ℕ
parameter_offset kind e = least_entry kind + context_count kind e

-- R9, R11. The context of the entry at the front of t has more than 64 bytes, or the parameter offset is past the end of t.
unfoldable pub is_context_bad : ℕ → List ℕ → Bool
is_context_bad kind t = ltb greatest_context (context_count kind t) || ltb (length t) (parameter_offset kind t)

-- R9. Where the parameter count stands in an entry.
unfoldable pub count_place : ℕ → ℕ
count_place kind =
    cond (ltb kind notification) command_count_place (cond (eqb kind notification) notification_count_place response_count_place)

-- R9. The least parameter count, at which there are no parameters.
unfoldable pub least_count : ℕ → ℕ
least_count kind = cond (eqb kind notification) 1 0

-- R12. A count and that many parameter bytes go together: none at the least count, one or more above it.
unfoldable pub count_fits : ℕ → ℕ → ℕ → Bool
count_fits least count bytes = cond (ltb count least) false (cond (eqb count least) (eqb bytes 0) (ltb 0 bytes))

-- R11, R12. An entry of that parameter offset, size and count, with the message from the offset on: the size reaches no further.
unfoldable pub entry_fits : ℕ → ℕ → ℕ → ℕ → List ℕ → Bool
entry_fits kind offset size count part =
    cond (ltb size offset) false
    (cond (ltb (length part) (size - offset)) false (count_fits (least_count kind) count (size - offset)))

-- R11, R12. What the entry at the front of t says of itself fits the bytes from its parameter offset on.
abbrev pub fits_at : ℕ → List ℕ → Bool
fits_at kind t = entry_fits kind (parameter_offset kind t) (be32_at t 0) (get_or t (count_place kind) 0) (drop (parameter_offset kind t) t)

-- R11. The size of the entry at the front of t that keeps R9, R11 and R12; 0 where there is none.
unfoldable pub entry_size : ℕ → List ℕ → ℕ
entry_size kind t =
    cond (ltb (length t) (least_entry kind)) 0
    (cond (is_context_bad kind t) 0
    (cond (fits_at kind t) (be32_at t 0) 0))

-- R13. So many entries fill the data exactly.
unfoldable pub entries_fill : ℕ → ℕ → List ℕ → Bool
entries_fill zero kind t = eqb (length t) 0
entries_fill (suc n) kind t = cond (eqb (entry_size kind t) 0) false (entries_fill n kind (drop (entry_size kind t) t))

-- R14. The bytes are one entry of that type, 0 to 3, and nothing more.
unfoldable pub well_formed : ℕ → List ℕ → Bool
well_formed kind e = cond (ltb response kind) false (entries_fill 1 kind e)

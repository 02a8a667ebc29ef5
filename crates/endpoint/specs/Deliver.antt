-- R28 to R31. A delivery.
use Rattle.std.specs.Prelude.{ℕ, cond, List, length, get_or, set, ltb}
use Rattle.numbers.specs.Refusal.{bad_record, bad_area, no_connection, no_room}
use Rattle.area.specs.Area.{area_sound}
use Rattle.connection.specs.State.{live_at}
use Rattle.replies.specs.Bytes.{least_output}
use Rattle.delivery.specs.Intake.{Intake, taken_in}
use Rattle.endpoint.specs.State.{state_of, record_obeys}
use Rattle.endpoint.specs.Outcome.{Outcome, outcome, refused}
use Rattle.endpoint.specs.declared.Record.{Record}

-- R3. The count of connection n's undecided bytes.
abbrev pub held_at : Record → ℕ → ℕ
held_at r n = get_or r.held n 0

-- R28. What a delivery gives: the intake, with connection n's count in the record.
abbrev pub with_intake : Record → ℕ → Intake → Outcome
with_intake r n i = outcome i.answer (state_of i.device (set r.held n i.count)) i.area i.output

-- R28, R64. Deliver: 1, then 2, then 3, then 4, else what the bytes decide.
unfoldable pub deliver_call : Record → List ℕ → ℕ → List ℕ → List ℕ → Outcome
deliver_call r area n piece out =
    cond (record_obeys r)
    (cond (area_sound r.held area)
    (cond (live_at r.device.connections n)
    (cond (ltb (length out) least_output) (refused no_room r area out)
    (with_intake r n (taken_in r.device area n (held_at r n) piece out)))
    (refused no_connection r area out))
    (refused bad_area r area out))
    (refused bad_record r area out)

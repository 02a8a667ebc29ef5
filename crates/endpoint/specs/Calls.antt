-- R56 to R60, R67. Opening, closing, ticking and clearing.
use Rattle.std.specs.Prelude.{ℕ, cond, List, [], length, eqb, Option, Some, None}
use Rattle.octets.specs.Zeros.{zeros}
use Rattle.area.specs.Area.{area_bytes, area_sound, part_cleared, closed_cleared, held_kept}
use Rattle.connection.specs.State.{live_at}
use Rattle.device.specs.State.{Opened, open_of, lives_in}
use Rattle.device.specs.Time.{Ticked, tick_of}
use Rattle.answers.specs.Numbers.{clearing_numbers, opening_numbers, closing_numbers, ticking_numbers}
use Rattle.endpoint.specs.State.{state_of, record_obeys, closed_state}
use Rattle.numbers.specs.Refusal.{bad_record, bad_area, no_connection, table_full, clock_back, refusal_numbers}
use Rattle.numbers.specs.declared.Refusal.TheVariants as refusals
use Rattle.endpoint.specs.Outcome.{Outcome, outcome, refused}
use Rattle.endpoint.specs.declared.Record.{Record}

-- R64, R67. The answer of clear: 2, else done.
unfoldable pub clear_answer : List ℕ → List ℕ
clear_answer area = cond (eqb (length area) area_bytes) (clearing_numbers tt) (refusal_numbers refusals.BadArea)

-- R67. The area after clear.
unfoldable pub cleared_area : List ℕ → List ℕ
cleared_area area = cond (eqb (length area) area_bytes) (zeros area_bytes) area

-- R58. Opening, by what the device gives.
unfoldable pub opened_by : Option ℕ → Record → Opened → Outcome
opened_by (Some n) r o = outcome (opening_numbers n) (state_of o.device r.held) [] []
opened_by None r o = refused table_full r [] []

-- R58, R64. Open: 1, then 5, else the number opened.
unfoldable pub open_call : Record → Outcome
open_call r = cond (record_obeys r) (opened_by (open_of r.device).answer r (open_of r.device)) (refused bad_record r [] [])

-- R59, R64. Close: 1, then 2, then 3, else the closure.
unfoldable pub close_call : Record → List ℕ → ℕ → Outcome
close_call r area n =
    cond (record_obeys r)
    (cond (area_sound r.held area)
    (cond (live_at r.device.connections n)
    (outcome (closing_numbers tt) (closed_state r n) (part_cleared area n) [])
    (refused no_connection r area []))
    (refused bad_area r area []))
    (refused bad_record r area [])

-- R56. A tick by what the device gives: whoever is then not open has no count and no byte.
unfoldable pub ticked_by : Option ℕ → Record → Ticked → List ℕ → Outcome
ticked_by (Some mask) r t area =
    outcome (ticking_numbers mask)
    (state_of t.device (held_kept (lives_in t.device) r.held)) (closed_cleared (lives_in t.device) area) []
ticked_by None r t area = refused clock_back r area []

-- R56, R64. Tick: 1, then 2, then 6, else the connections that it closed.
unfoldable pub tick_call : Record → List ℕ → ℕ → Outcome
tick_call r area reading =
    cond (record_obeys r)
    (cond (area_sound r.held area)
    (ticked_by (tick_of r.device reading).answer r (tick_of r.device reading) area)
    (refused bad_area r area []))
    (refused bad_record r area [])

-- R69. What C is handed by the endpoint's calls: the record and the answer's numbers, each in its field.
use Rattle.std.specs.Prelude.{ℕ, List, cond, eqb}
use Rattle.numbers.specs.Kind.{kind_message, kind_closed}
use Rattle.answers.specs.Numbers.{numbers_of}
use Rattle.answers.specs.declared.Numbers.{Numbers}
use Rattle.endpoint.specs.Outcome.{Outcome}
use Rattle.endpoint.specs.declared.Record.{Record}
use Rattle.melorwyth.specs.declared.Cleared.{Cleared}
use Rattle.melorwyth.specs.declared.Opened.{Opened}
use Rattle.melorwyth.specs.declared.Closed.{Closed}
use Rattle.melorwyth.specs.declared.Ticked.{Ticked}
use Rattle.melorwyth.specs.declared.Delivered.{Delivered}
use Rattle.melorwyth.specs.declared.Taken.{Taken}
use Rattle.melorwyth.specs.declared.Reset.{Reset}

-- R69. Of clear.
unfoldable pub cleared_of : List ℕ → Cleared
cleared_of l = record { number = (numbers_of l).number }

-- R69. What close hands back, of a record and numbers.
abbrev pub closed_with : Record → Numbers → Closed
closed_with s m = record { state = s; number = m.number }

-- R69. Of close.
unfoldable pub closed_of : Outcome → Closed
closed_of o = closed_with o.state (numbers_of o.answer)

-- R69. What open hands back, of a record and numbers.
abbrev pub opened_with : Record → Numbers → Opened
opened_with s m = record { state = s; number = m.number; connection = m.first }

-- R69. Of open.
unfoldable pub opened_of : Outcome → Opened
opened_of o = opened_with o.state (numbers_of o.answer)

-- R69. What tick hands back, of a record and numbers.
abbrev pub ticked_with : Record → Numbers → Ticked
ticked_with s m = record { state = s; number = m.number; closed = m.first }

-- R69. Of tick.
unfoldable pub ticked_of : Outcome → Ticked
ticked_of o = ticked_with o.state (numbers_of o.answer)

-- R69. A delivery's third number where it closed: the fault.
unfoldable pub fault_in : Numbers → ℕ
fault_in m = cond (eqb m.first kind_closed) m.third 0

-- R69. A delivery's third number where it was a message: the reply's length.
unfoldable pub length_in : Numbers → ℕ
length_in m = cond (eqb m.first kind_message) m.third 0

-- R69. What deliver hands back, of a record and numbers.
abbrev pub delivered_with : Record → Numbers → Delivered
delivered_with s m =
    record { state = s; number = m.number; kind = m.first; fault = fault_in m; taken = m.second; length = length_in m }

-- R69. Of deliver.
unfoldable pub delivered_of : Outcome → Delivered
delivered_of o = delivered_with o.state (numbers_of o.answer)

-- R69. What take hands back, of a record and numbers.
abbrev pub taken_with : Record → Numbers → Taken
taken_with s m = record { state = s; number = m.number; kind = m.first; connection = m.second; length = m.third }

-- R69. Of take.
unfoldable pub taken_of : Outcome → Taken
taken_of o = taken_with o.state (numbers_of o.answer)

-- R69. What a datagram hands back, of a record and numbers.
abbrev pub reset_with : Record → Numbers → Reset
reset_with s m = record { state = s; number = m.number; reset = m.first }

-- R69. Of a datagram.
unfoldable pub reset_of : Outcome → Reset
reset_of o = reset_with o.state (numbers_of o.answer)

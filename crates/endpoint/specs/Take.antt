-- R49, R50. Taking.
use Rattle.std.specs.Prelude.{ℕ, cond, List, [], length, ltb}
use Rattle.numbers.specs.Refusal.{bad_record, no_room}
use Rattle.replies.specs.Bytes.{least_output}
use Rattle.taking.specs.Dispatch.{Dispatch, dispatched}
use Rattle.endpoint.specs.State.{state_of, record_obeys}
use Rattle.endpoint.specs.Outcome.{Outcome, outcome, refused}
use Rattle.endpoint.specs.declared.Record.{Record}

-- R50. What a take gives: the dispatch, with the record's counts as they were.
abbrev pub with_dispatch : Record → Dispatch → Outcome
with_dispatch r s = outcome s.answer (state_of s.device r.held) [] s.output

-- R49, R64. Take: 1, then 4, else one message or nothing.
unfoldable pub take_call : Record → List ℕ → Outcome
take_call r out =
    cond (record_obeys r)
    (cond (ltb (length out) least_output) (refused no_room r [] out) (with_dispatch r (dispatched r.device out)))
    (refused bad_record r [] out)

use Rattle.std.proofs.Common.{sym, ◌∙◌, arith}
use Rattle.writer.proofs.Outcomes.{start_done}
use Rattle.writer.proofs.start.Goals as goal

pub returns : goal.returns
returns c =
    let a = c.args in
    let well = sym c.well_formed-2.ensures ∙ c.if-not-well_formed.false in
    start_done a.buf.now a.kind a.e.now c.in_ok-check_room.ensures.enough well (omega arith) c.put_message.new.buf c.put_message.ensures

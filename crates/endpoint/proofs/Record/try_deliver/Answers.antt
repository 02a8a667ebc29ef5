use Rattle.endpoint.proofs.Delivers.{deliver_lies}
use Rattle.endpoint.proofs.Record.try_deliver.Goals as goal

pub take_in-requires : goal.take_in-requires
take_in-requires c =
    let a = c.args in
    let lies =
    deliver_lies a.self.now a.area.now a.n a.piece.now a.output.now c.in_ok-check.ensures.rules c.in_ok-check_area.ensures
    c.in_ok-check_connection.ensures.open c.check.ensures.sized c.check.ensures.counted in
    (c.in_ok-check_connection.ensures.low, lies, c.in_ok-check_room.ensures)

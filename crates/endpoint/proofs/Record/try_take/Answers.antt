use Rattle.endpoint.proofs.Takes.{take_done}
use Rattle.endpoint.proofs.Record.try_take.Goals as goal

pub returns : goal.returns
returns c =
    take_done c.args.self.now c.args.output.now c.in_ok-check.ensures.rules c.in_ok-check_room.ensures _ _ _ c.take.ensures

use Rattle.reader.proofs.Places.{part_ok}
use Rattle.reader.proofs.part_place.Goals as goal

pub returns : goal.returns
returns c =
    part_ok c.args.s.now c.args.index c.in-Ok.field-0 c.parameter_offset.result c.in-Ok.ensures.place c.parameter_offset.ensures.0

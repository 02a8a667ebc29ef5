use Rattle.std.proofs.Common.{◌∙◌}
use Rattle.reader.proofs.Places.{context_ok}
use Rattle.reader.proofs.context_place.Goals as goal

pub returns : goal.returns
returns c =
    let w = context_ok c.args.s.now c.args.index c.in-Ok.field-0 c.in-Ok.ensures.place in
    (c.context_at.ensures.0 ∙ w.0, c.context_at.ensures.1 ∙ w.1)

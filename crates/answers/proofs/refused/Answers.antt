use Rattle.answers.proofs.Behind.{refused_told}
use Rattle.answers.proofs.refused.Goals as goal

pub returns : goal.returns
returns c = refused_told c.args.refusal _ _ _ c.number-number.ensures c.fault.ensures c.map_or-first.ensures

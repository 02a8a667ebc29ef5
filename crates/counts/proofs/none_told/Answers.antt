use Rattle.counts.proofs.Tells.{none_told}
use Rattle.counts.proofs.none_told.Goals as goal

pub returns : goal.returns
returns c = none_told

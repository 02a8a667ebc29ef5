use Rattle.counts.proofs.Tells.{context_told}
use Rattle.counts.proofs.context_told.Goals as goal

pub returns : goal.returns
returns c = context_told

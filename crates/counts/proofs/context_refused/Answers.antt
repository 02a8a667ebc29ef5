use Rattle.counts.proofs.Refuses.{context_refused}
use Rattle.counts.proofs.context_refused.Goals as goal

pub returns : goal.returns
returns c = context_refused

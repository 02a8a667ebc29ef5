use Rattle.cutting.proofs.Walks.{cutting}
use Rattle.cutting.proofs.cutting_does_not_matter.Goals as goal

pub returns : goal.returns
returns c = cutting

use Rattle.cutting.proofs.Taken.{taking_all}
use Rattle.cutting.proofs.all_is_taken.Goals as goal

pub returns : goal.returns
returns c = taking_all

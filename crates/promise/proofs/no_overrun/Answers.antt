use Rattle.promise.proofs.Overrun.{no_overrun}
use Rattle.promise.proofs.no_overrun.Goals as goal

pub returns : goal.returns
returns c = no_overrun

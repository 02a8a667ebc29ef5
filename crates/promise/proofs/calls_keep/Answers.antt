use Rattle.promise.proofs.Kept.{calls_keep}
use Rattle.promise.proofs.calls_keep.Goals as goal

pub returns : goal.returns
returns c = calls_keep

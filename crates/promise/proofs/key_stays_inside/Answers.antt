use Rattle.promise.proofs.ResetKey.{key_stays_inside}
use Rattle.promise.proofs.key_stays_inside.Goals as goal

pub returns : goal.returns
returns c = key_stays_inside

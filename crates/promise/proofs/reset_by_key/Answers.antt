use Rattle.promise.proofs.Reset.{reset_by_key}
use Rattle.promise.proofs.reset_by_key.Goals as goal

pub returns : goal.returns
returns c = reset_by_key

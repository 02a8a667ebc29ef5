use Rattle.promise.proofs.Examples.{worked}
use Rattle.promise.proofs.contexts_worked.Goals as goal

pub returns : goal.returns
returns c = worked.2

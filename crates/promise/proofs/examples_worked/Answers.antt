use Rattle.promise.proofs.Examples.{worked}
use Rattle.promise.proofs.examples_worked.Goals as goal

pub returns : goal.returns
returns c = worked.0

use Rattle.promise.proofs.ResetExamples.{reset_worked}
use Rattle.promise.proofs.reset_worked.Goals as goal

pub returns : goal.returns
returns c = reset_worked

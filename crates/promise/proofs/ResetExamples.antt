-- ResetWorked: its table, computed beside that of Examples. Assumes nothing.
use Rattle.promise.specs.ResetExamples.{ResetWorked}
use Rattle.promise.proofs.Examples.{worked}

pub reset_worked : ResetWorked
reset_worked = worked.1

use Rattle.promise.proofs.Closure.{closure_leaves_nothing}
use Rattle.promise.proofs.closure_leaves_nothing.Goals as goal

pub returns : goal.returns
returns c = closure_leaves_nothing

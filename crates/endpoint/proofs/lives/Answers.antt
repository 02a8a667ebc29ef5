use mathlib.Core.Path.{refl}
use native.Mathlib.Omega.{arith}
use Rattle.connection.specs.State.{closed}
use Rattle.endpoint.proofs.States.{filling_more}
use Rattle.endpoint.proofs.lives.Goals as goal

pub loop-n-preserved : goal.loop-n-preserved
loop-n-preserved c = filling_more closed c.loop-n.invariant refl (omega arith)

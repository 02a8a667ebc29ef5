use Rattle.area.proofs.Clears.{Clearing}
use Rattle.area.proofs.clear_closed.Given as goal

abbrev pub invariant-loop-n : goal.invariant-loop-n
invariant-loop-n l = Clearing l.n l.fn.lives l.initial.area l.area

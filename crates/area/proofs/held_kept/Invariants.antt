use Rattle.area.proofs.Counts.{Keeping}
use Rattle.area.proofs.held_kept.Given as goal

abbrev pub invariant-loop-n : goal.invariant-loop-n
invariant-loop-n l = Keeping l.n l.fn.lives l.fn.held l.kept

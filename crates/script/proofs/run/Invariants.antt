use lib.ListN.{length}
use Rattle.script.proofs.Stages.{Playing}
use Rattle.script.proofs.run.Given as goal

abbrev pub invariant-loop-call : goal.invariant-loop-call
invariant-loop-call l = Playing l.initial.state l.initial.area l.script l.initial.output l.area l.output l.state l.answer l.rest

abbrev pub decreases-loop-call : goal.decreases-loop-call
decreases-loop-call l = length l.rest

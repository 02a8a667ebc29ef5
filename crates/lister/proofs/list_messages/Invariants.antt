use Prim.Native.Nat.{◌-◌}
use lib.ListN.{length}
use Rattle.lister.proofs.Walks.{Walked}
use Rattle.lister.proofs.list_messages.Given as goal

abbrev pub invariant-loop-used : goal.invariant-loop-used
invariant-loop-used l = Walked l.s l.offset l.initial.out l.used l.put l.out

abbrev pub decreases-loop-used : goal.decreases-loop-used
decreases-loop-used l = length l.s - l.used

use lib.ListN.{length}
use Rattle.feed.proofs.Feedings.{left_to, Going}
use Rattle.feed.proofs.feed.Given as goal

abbrev pub invariant-loop-area : goal.invariant-loop-area
invariant-loop-area l = Going l.n l.piece l.initial.fed l.initial.area l.initial.output l.fed l.area l.output

abbrev pub decreases-loop-area : goal.decreases-loop-area
decreases-loop-area l = left_to l.fed (length l.piece)

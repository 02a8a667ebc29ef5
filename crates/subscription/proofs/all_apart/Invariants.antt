use Rattle.std.proofs.Common.{◌≡◌, length}
use Rattle.laws.specs.Lists.{all_pairs}
use Rattle.subscription.specs.Obeys.{apart}
use Rattle.subscription.proofs.all_apart.Given as goal

abbrev pub invariant-loop-last : goal.invariant-loop-last
invariant-loop-last l = all_pairs apart l.entries ≡ all_pairs apart l.rest

abbrev pub decreases-loop-last : goal.decreases-loop-last
decreases-loop-last l = length l.rest

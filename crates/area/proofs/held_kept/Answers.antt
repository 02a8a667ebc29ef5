use Rattle.std.proofs.Common.{rules}
use Rattle.area.proofs.Counts.{keeping_open, keeping_closed, keeping_all}
use Rattle.area.proofs.held_kept.Goals as goal
use Rattle.area.proofs.held_kept.Goals.{then-not-is_open, else-not-is_open}

pub loop-n-preserved : goal.loop-n-preserved
loop-n-preserved c =
    let kept = c.loop-n.invariant in
    elim c.if-not-is_open.branch [
      | then-not-is_open w ↦ rw w.kept-is (keeping_closed _ _ _ _ kept c.loop-n-test.true w.if-not-is_open.true)
      | else-not-is_open w ↦ rw w.kept-is (keeping_open _ _ _ _ kept c.loop-n-test.true w.if-not-is_open.false)
    ]

pub returns : goal.returns
returns c = search (keeping_all, rules)

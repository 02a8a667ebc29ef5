use mathlib.Core.Path.{sym, ◌∙◌}
use borrow.Author.Rules.{rules}
use Rattle.feed.proofs.Feedings.{going_first, less_left, going_all}
use Rattle.feed.proofs.feed.Goals as goal

pub loop-area-init : goal.loop-area-init
loop-area-init c =
    let a = c.args in
    going_first a.state a.area.now a.n a.piece.now a.output.now _ _ _ c.offer-fed.ensures (search rules)

pub loop-area-smaller : goal.loop-area-smaller
loop-area-smaller c = less_left _ _ _ _ _ _ _ _ c.loop-area.invariant (sym c.goes_on.ensures ∙ c.loop-area-test.true) _ _ _ c.offer-fed-in-loop-area.ensures

pub returns : goal.returns
returns c =
    let a = c.args in
    going_all _ _ _ _ _ _ _ _ c.loop-area.invariant a.state a.area.now a.output.now c.offer-fed.ensures (sym c.goes_on.ensures ∙ c.loop-area-test.false)

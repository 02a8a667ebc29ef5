use mathlib.Core.Path.{refl}
use Rattle.script.proofs.Stages.{playing_all}
use Rattle.script.proofs.run.Goals as goal

pub returns : goal.returns
returns c =
    let l = c.loop-call in
    let a = c.args in
    let e = playing_all a.state a.area.now a.script.now a.output.now l.area l.output l.state l.answer l.rest.now l.invariant c.in_default.ensures in
    rw (← e) refl

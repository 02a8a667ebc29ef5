use Rattle.std.proofs.Common.{◌≤◌, length, drop, length-drop, arith}
use Rattle.laws.proofs.Parts.{rest}
use Rattle.frame.proofs.Sounds.{sound_at}
use Rattle.lister.proofs.Walks.{walked_stop, walked_all, nothing_unsound, nothing_fault}
use Rattle.lister.proofs.list_messages.Goals as goal

pub overflow_add-used : goal.overflow_add-used
overflow_add-used c =
    let x = sound_at _ _ c.in-Ok.ensures.0 in
    omega (arith, x.high)

pub loop-used-smaller : goal.loop-used-smaller
loop-used-smaller c =
    let x = sound_at _ _ c.in-Ok.ensures.0 in
    omega (arith, x.low, x.high, c.loop-used-test.true)

pub returns-in-Err : goal.returns-in-Err
returns-in-Err c =
    let l = c.loop-used in
    let p = c.in-Err.ensures in
    walked_stop l.invariant (rest l.used c.args.s.now) p.0 p.1 p.2

pub returns : goal.returns
returns c =
    let l = c.loop-used in
    let s = c.args.s.now in
    let z : length (drop l.used s) ≤ 0 = omega (arith, length-drop l.used s, c.loop-used-test.false) in
    walked_all l.invariant (nothing_unsound (drop l.used s) z) (nothing_fault (drop l.used s) z)

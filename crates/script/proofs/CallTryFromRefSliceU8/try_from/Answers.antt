use Rattle.std.proofs.Common.{arith, refl, sym, ◌<◌, get_or}
use Rattle.script.specs.declared.Call.TheVariants.{Datagram, Deliver}
use Rattle.script.proofs.Stages.{first_open, first_close, first_tick, first_take, first_sent, is_datagram, is_deliver}
use Rattle.script.proofs.CallTryFromRefSliceU8.try_from.Goals as goal

pub returns-in-0 : goal.returns-in-0
returns-in-0 c = first_open c.args.s.now (omega arith) c.in-0.is

pub returns-in-1 : goal.returns-in-1
returns-in-1 c = first_close c.args.s.now (omega arith) _ c.in-1.is refl

pub returns-in-2 : goal.returns-in-2
returns-in-2 c = first_tick c.args.s.now (omega arith) _ c.in-2.is c.be32.ensures

pub returns-in-3 : goal.returns-in-3
returns-in-3 c = first_take c.args.s.now (omega arith) c.in-3.is

pub returns-in-4 : goal.returns-in-4
returns-in-4 c =
    let s = c.args.s.now in
    let p = c.piece in
    let h : 3 < get_or s 0 0 = omega arith in
    first_sent s (omega arith) (Datagram p.result) p.result.now h (p.ensures h) refl
    (λ o. sym (is_datagram (get_or s 0 0) (get_or s 1 0) p.result.now o c.in-4.is))

pub returns-in_default : goal.returns-in_default
returns-in_default c =
    let s = c.args.s.now in
    let p = c.piece-in_default in
    let h : 3 < get_or s 0 0 = omega arith in
    first_sent s (omega arith) (Deliver (get_or s 1 0) p.result) p.result.now h (p.ensures h) refl
    (λ o. sym (is_deliver (get_or s 0 0) (get_or s 1 0) p.result.now o (λ e. omega arith)))

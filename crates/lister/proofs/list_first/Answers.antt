use Rattle.std.proofs.Common.{◌∙◌, refl, arith}
use Rattle.lister.proofs.Readings.{read_size}
use Rattle.lister.proofs.Walks.{first_listed, first_refused}
use Rattle.lister.proofs.list_first.Goals as goal

pub overflow_sub-size : goal.overflow_sub-size
overflow_sub-size c = let r = c.in-Ok in omega (arith, (read_size c.args.s.now r.field-0.message r.field-0.length r.ensures).0)

pub returns-in-Ok : goal.returns-in-Ok
returns-in-Ok c =
    let a = c.args in
    let r = c.in-Ok in
    first_listed a.s.now r.field-0.message r.field-0.length a.offset a.out.now a.at r.ensures c.kind.ensures c.count.ensures c.put_message-put.ensures

pub returns-in-Err : goal.returns-in-Err
returns-in-Err c =
    let w = first_refused c.args.s.now c.in-Err.refusal c.in-Err.ensures in
    (w.0, c.fault.ensures ∙ w.1, refl)

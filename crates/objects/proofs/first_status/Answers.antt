use Rattle.objects.proofs.Shapes.{first_unnamed, first_err}
use Rattle.objects.proofs.first_status.Goals as goal

pub returns-in_err-method : goal.returns-in_err-method
returns-in_err-method c =
    let e = c.in_err-method.ensures in
    let n = first_unnamed _ _ c.args.count c.args.part.now c.if-not-is_object.ensures e.1 in
    first_err _ _ _ _ c.from_residual.result c.in_err-method.field-0.0 c.from_residual.ensures.1 (rw e.0 n)

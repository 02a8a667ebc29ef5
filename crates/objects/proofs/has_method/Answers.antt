use Rattle.objects.proofs.Shapes.{unnamed_not}
use Rattle.objects.proofs.has_method.Goals as goal

pub returns-in-Err : goal.returns-in-Err
returns-in-Err c = unnamed_not _ c.in-Err.ensures.1 c.args.target

use Rattle.objects.proofs.Shapes.{unnamed_malformed}
use Rattle.objects.proofs.is_malformed.Goals as goal

pub returns-in-Err : goal.returns-in-Err
returns-in-Err c = unnamed_malformed _ c.in-Err.ensures.1 c.args.count c.args.part.now _ c.is_empty.ensures

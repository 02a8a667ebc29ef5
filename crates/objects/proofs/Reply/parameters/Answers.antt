use Rattle.std.proofs.Common.{refl}
use Rattle.objects.proofs.Shapes.{class_fits}
use Rattle.objects.proofs.Reply.parameters.Goals as goal

pub returns-in-Class : goal.returns-in-Class
returns-in-Class c = rw (c.in-Class.is, c.identification.ensures) (refl, class_fits c.in-Class.class)

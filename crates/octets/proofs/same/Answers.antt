use Rattle.std.proofs.Common.{◌∙◌}
use Rattle.octets.proofs.Sames.{same_fold}
use Rattle.octets.proofs.same.Goals as goal

pub returns : goal.returns
returns c = c.all_same.ensures ∙ same_fold c.args.a.now c.args.b.now c.if-a-b.false

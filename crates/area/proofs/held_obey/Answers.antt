use Rattle.std.proofs.Common.{◌∙◌}
use Rattle.area.proofs.Counts.{all_obey}
use Rattle.area.proofs.held_obey.Goals as goal

pub returns : goal.returns
returns c = c.counts_obey.ensures ∙ all_obey c.args.lives c.args.held

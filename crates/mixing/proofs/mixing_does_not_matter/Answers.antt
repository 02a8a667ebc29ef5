use Rattle.mixing.proofs.Mixing.{mixing}
use Rattle.mixing.proofs.mixing_does_not_matter.Goals as goal

pub returns : goal.returns
returns c = mixing

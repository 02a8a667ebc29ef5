use Rattle.script.proofs.Tells.{runs_told}
use Rattle.script.proofs.runs_tell.Goals as goal

pub returns : goal.returns
returns c = runs_told

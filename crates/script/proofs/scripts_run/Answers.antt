use Rattle.script.proofs.Chains.{scripts_run}
use Rattle.script.proofs.scripts_run.Goals as goal

pub returns : goal.returns
returns c = scripts_run

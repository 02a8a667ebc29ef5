use Rattle.promise.proofs.Whole.{demand_three}
use Rattle.promise.proofs.demand_three.Goals as goal

pub returns : goal.returns
returns c = demand_three

use Rattle.promise.proofs.Reset.{rack_free_again}
use Rattle.promise.proofs.rack_free_again.Goals as goal

pub returns : goal.returns
returns c = rack_free_again

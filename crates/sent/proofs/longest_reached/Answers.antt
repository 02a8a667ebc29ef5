use Rattle.sent.proofs.Longest.{longest_reached}
use Rattle.sent.proofs.longest_reached.Goals as goal

pub returns : goal.returns
returns c = longest_reached

use Rattle.clock.proofs.Hosts.{two_hosts}
use Rattle.clock.proofs.two_hosts.Goals as goal

pub returns : goal.returns
returns c = two_hosts

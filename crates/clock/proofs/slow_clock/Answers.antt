use Rattle.clock.proofs.Clock.{slow_clock}
use Rattle.clock.proofs.slow_clock.Goals as goal

pub returns : goal.returns
returns c = slow_clock

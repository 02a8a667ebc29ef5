use Rattle.technician.proofs.Evening.{evening_in_a_hall}
use Rattle.technician.proofs.evening_in_a_hall.Goals as goal

pub returns : goal.returns
returns c = evening_in_a_hall

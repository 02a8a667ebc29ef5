use Rattle.technician.proofs.Technician.{technician_let_in}
use Rattle.technician.proofs.technician_let_in.Goals as goal

pub returns : goal.returns
returns c = technician_let_in

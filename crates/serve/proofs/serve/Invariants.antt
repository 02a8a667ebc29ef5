use Rattle.std.proofs.Common.{◌-◌}
use Rattle.serve.proofs.Serves.{Serving}
use Rattle.serve.proofs.serve.Given as goal

abbrev pub invariant-loop : goal.invariant-loop
invariant-loop l = Serving l.n l.kind l.count l.body l.initial.out l.initial.device l.out l.device l.t (l.count - l.counter) l.at

use Rattle.connection.specs.State.{is_live}
use Rattle.endpoint.proofs.States.{Filling}
use Rattle.endpoint.proofs.lives.Given as goal

abbrev pub invariant-loop-n : goal.invariant-loop-n
invariant-loop-n l = Filling is_live 8 l.n l.connections l.initial.out l.out

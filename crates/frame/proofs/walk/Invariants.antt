use Rattle.std.proofs.Common.{◌≡◌, ◌-◌}
use Rattle.frame.specs.Scaffold.{walked}
use Rattle.frame.proofs.walk.Given as goal

abbrev pub invariant-loop : goal.invariant-loop
invariant-loop l = walked l.count l.kind l.body ≡ walked (l.count - l.counter) l.kind l.t

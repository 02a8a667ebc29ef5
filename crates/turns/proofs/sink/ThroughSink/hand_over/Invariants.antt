use Rattle.std.proofs.Common.{◌≡◌, ◌≤◌, length, take}
use Rattle.std.specs.Io.KnownBytes.{Appends}
use Rattle.turns.proofs.sink.ThroughSink.hand_over.Given as goal

abbrev pub invariant-write : goal.invariant-write
invariant-write g l = record {
  within : l.done ≤ length l.s;
  taken : Appends (g.W.Write.contents l.fn.self.at.now) (g.W.Write.contents l.self.at.now) (take l.done l.s);
  name : l.self.at.ghost_name ≡ l.fn.self.at.ghost_name;
}

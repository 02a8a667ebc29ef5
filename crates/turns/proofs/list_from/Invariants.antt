use Rattle.std.proofs.Common.{◌+◌, ◌-◌, ◌≡◌, ◌≤◌, length}
use Rattle.frame.specs.Limits.{greatest_size}
use Rattle.turns.specs.Scaffold.{piece_bytes, text_bytes}
use Rattle.turns.specs.Ends.{ListingRuns}
use Rattle.turns.proofs.list_from.Given as goal

abbrev pub invariant-loop-offset : goal.invariant-loop-offset
invariant-loop-offset g l = record {
  input_length : length l.space ≡ piece_bytes;
  out_length : length l.lines ≡ text_bytes;
  few : l.held ≤ greatest_size;
  same : g.K.Sink.room l.sink ≡ g.K.Sink.room l.fn.sink;
  names : (g.S.Source.name l.source ≡ g.S.Source.name l.fn.source) × (g.K.Sink.name l.sink ≡ g.K.Sink.name l.fn.sink);
  runs : ListingRuns (g.S.Source.left l.fn.source) (g.S.Source.left l.source) (g.K.Sink.text l.fn.sink) (g.K.Sink.text l.sink) l.space l.offset l.held;
}

abbrev pub decreases-loop-offset : goal.decreases-loop-offset
decreases-loop-offset g l = 18446744073709551616 - (l.offset + l.held)

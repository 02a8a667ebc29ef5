use Rattle.std.proofs.Common.{◌≡◌, ◌*◌, length}
use Rattle.area.specs.Area.{parts_sound}
use Rattle.area.proofs.parts_sound.Given as goal

abbrev pub invariant-loop-part : goal.invariant-loop-part
invariant-loop-part l = record {
  same : parts_sound l.fn.held l.fn.area ≡ parts_sound l.part-iterator.b.rest.now l.part-iterator.a.rest.now;
  left : length l.part-iterator.a.rest.now ≡ length l.part-iterator.b.rest.now * 2049;
  size : l.part-iterator.a.size ≡ 2049;
}

use Rattle.std.proofs.Common.{◌∙◌, arith, ap, sym, length, length-append, refl}
use Rattle.area.proofs.Sounds.{parts_next}
use Rattle.area.proofs.parts_sound.Goals as goal

pub returns-then-not-part_sound : goal.returns-then-not-part_sound
returns-then-not-part_sound c =
    let i = c.loop-part.invariant in
    let s = c.in-Some.ensures.steps in
    sym (i.same ∙ parts_next _ _ _ _ _ s.1 s.0.1.0 (s.0.1.1 ∙ i.size) (c.part_sound.ensures) ∙ rw c.if-not-part_sound.true refl)

pub loop-part-preserved : goal.loop-part-preserved
loop-part-preserved c =
    let i = c.loop-part.invariant in
    let s = c.in-Some.ensures.steps in
    record {
      same = i.same ∙ parts_next _ _ _ _ _ s.1 s.0.1.0 (s.0.1.1 ∙ i.size) (c.part_sound.ensures) ∙ rw c.if-not-part_sound.false refl;
      left = omega (arith, i.left, ap length s.1, ap length s.0.1.0, s.0.1.1, i.size, length-append c.in-Some.part.now c.next.new.self.a.rest.now);
      size = s.0.0 ∙ i.size;
    }

use Rattle.std.proofs.Common.{arith, refl, ap, ◌∙◌, Ok, take}
use lib.Seq.{length-take-le}
use Rattle.turns.proofs.Outcomes.{handed_up}
use Rattle.turns.proofs.Turnings.{goes_on}
use Rattle.turns.proofs.Runs.{running_none, running_more, running_over, running_failed, running_limit, ends_same}
use Rattle.turns.proofs.list_from.Goals as goal

pub loop-offset-init : goal.loop-offset-init
loop-offset-init g c = record {
  input_length = refl;
  out_length = omega arith;
  few = omega arith;
  same = refl;
  names = (refl, refl);
  runs = running_none _ _ _;
}

pub returns-in_err-next-clause-ends : goal.returns-in_err-next-clause-ends
returns-in_err-next-clause-ends g c =
    let l = c.loop-offset in
    let h = handed_up c.from_residual.result c.in_err-next.field-0.0 c.from_residual.ensures.1 in
    rw (← h) (ends_same l.invariant.same (running_failed l.invariant.runs c.turn.ensures.turned c.in_err-next.field-0.0 c.in_err-next.was))

pub loop-offset-smaller : goal.loop-offset-smaller
loop-offset-smaller g c =
    let l = c.loop-offset in
    let w = goes_on {held = take l.held l.space} (c.turn.ensures.turned.goes c.in-Some.next (c.in_ok-next.was ∙ ap Ok c.in-Some.is)) in
    omega (arith, w.1, length-take-le l.held l.space (omega (arith, l.invariant.input_length, l.invariant.few)))

pub loop-offset-preserved : goal.loop-offset-preserved
loop-offset-preserved g c =
    let l = c.loop-offset in
    let t = c.turn.ensures in
    let o = c.in_ok-next.was ∙ ap Ok c.in-Some.is in
    record {
      input_length = c.turn.auto.input ∙ l.invariant.input_length;
      out_length = c.turn.auto.out ∙ l.invariant.out_length;
      few = (goes_on {held = take l.held l.space} (t.turned.goes c.in-Some.next o)).0;
      same = t.turned.same ∙ l.invariant.same;
      names = (t.same_references.0 ∙ l.invariant.names.0, t.same_references.1 ∙ l.invariant.names.1);
      runs = running_more l.invariant.runs t.turned c.in-Some.next o;
    }

pub returns-in-None-clause-ends : goal.returns-in-None-clause-ends
returns-in-None-clause-ends g c =
    let l = c.loop-offset in
    let o = c.in_ok-next.was ∙ ap Ok c.in-None.is in
    ends_same l.invariant.same (running_over l.invariant.runs c.turn.ensures.turned o)

pub returns-clause-ends : goal.returns-clause-ends
returns-clause-ends g c =
    let l = c.loop-offset in
    ends_same l.invariant.same (running_limit l.invariant.runs _ _ (omega arith))

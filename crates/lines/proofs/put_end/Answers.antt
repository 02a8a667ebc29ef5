use Rattle.std.proofs.Common.{arith}
use borrow.Author.Tests.{eq-eqb}
use Rattle.lines.specs.Text.{space, end_line}
use Rattle.lines.proofs.Putting.{puts_then}
use Rattle.lines.proofs.Decimals.{short64}
use Rattle.lines.proofs.put_end.Goals as goal

pub returns : goal.returns
unfolding end_line
returns c =
    let a = c.args in
    simp (eq-eqb a.left 0 (omega arith))
    (record {
      puts = puts_then c.put_number-a.ensures c.put_text.ensures;
      room = omega (arith, short64 a.offset space (omega arith));
    })

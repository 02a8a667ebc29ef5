use Rattle.std.proofs.Common.{arith}
use Rattle.lines.specs.Text.{space, newline}
use Rattle.lines.proofs.Putting.{puts_then}
use Rattle.lines.proofs.Decimals.{short64, short16}
use Rattle.lines.proofs.put_word.Goals as goal

pub returns : goal.returns
returns c =
    let a = c.args in
    record {
      puts = puts_then c.put_number-a.ensures (puts_then c.put_text-b.ensures c.put_number.ensures);
      room = omega (arith, short64 a.offset space (omega arith), short16 a.n newline (omega arith));
    }

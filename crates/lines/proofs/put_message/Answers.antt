use Rattle.std.proofs.Common.{arith}
use Rattle.lines.specs.Text.{message_line, space, newline}
use Rattle.lines.proofs.Putting.{puts_then}
use Rattle.lines.proofs.Decimals.{short64, short16, short8}
use Rattle.lines.proofs.put_message.Goals as goal

pub returns : goal.returns
unfolding message_line
returns c =
    let a = c.args in
    let p = puts_then c.put_number-a.ensures (puts_then c.put_number-b.ensures (puts_then c.put_number-c.ensures c.put_number.ensures)) in
    record {
      puts = p;
      room = omega (arith, short64 a.offset space (omega arith), short8 a.kind space (omega arith), short16 a.count space (omega arith), short16 a.size newline (omega arith));
    }

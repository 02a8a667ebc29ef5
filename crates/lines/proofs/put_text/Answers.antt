use Rattle.std.proofs.Common.{arith, ◌+◌, ◌-◌, length}
use Rattle.lines.proofs.Putting.{puts_all}
use Rattle.lines.proofs.put_text.Goals as goal

pub returns : goal.returns
returns c =
    let a = c.args in
    puts_all a.s.now a.out.now a.at (a.at + length a.s.now - a.at) (omega arith) (omega arith) c.copy_from_slice.ensures.after

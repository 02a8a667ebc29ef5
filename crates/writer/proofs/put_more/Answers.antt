use Rattle.std.proofs.Common.{refl, arith}
use Rattle.writer.proofs.Messages.{put_behind}
use Rattle.writer.proofs.put_more.Goals as goal

pub returns : goal.returns
returns c =
    let a = c.args in
    rw (c.copy.ensures, c.put_head.ensures, c.be16-count.ensures) (put_behind a.kind _ _ a.buf.now a.n a.e.now refl (omega arith) (omega arith))

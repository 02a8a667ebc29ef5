use Rattle.std.proofs.Common.{arith}
use Rattle.script.proofs.Stages.{piece_all, piece_asked}
use Rattle.script.proofs.piece.Goals as goal

pub returns-then-rest-n : goal.returns-then-rest-n
returns-then-rest-n c h = piece_all c.args.s.now c.requires h (omega arith)

pub returns-else-rest-n : goal.returns-else-rest-n
returns-else-rest-n c h = piece_asked c.args.s.now c.requires h c.be32-n.result c.be32-n.ensures (omega arith)

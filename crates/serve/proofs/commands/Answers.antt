use Rattle.std.proofs.Common.{◌≢◌, arith}
use Rattle.serve.proofs.Replies.{commands_replied}
use Rattle.serve.proofs.commands.Goals as goal

pub returns-in_default : goal.returns-in_default
returns-in_default c =
    let a = c.args in
    let s = c.serve-end.ensures in
    let k : a.kind ≢ 0 = omega arith in
    commands_replied a.device.now a.n a.kind a.count a.body.now k a.out.now c.requires.4 c.requires.3 s.0 s.1 s.2 c.sent.ensures c.put_head.ensures

use Rattle.laws.proofs.Parts.{rest}
use Rattle.serve.proofs.Replies.{beats}
use Rattle.serve.proofs.sound.Goals as goal

pub heartbeat_of-beat-requires : goal.heartbeat_of-beat-requires
heartbeat_of-beat-requires c =
    let m = c.args.m.now in
    rw (rest 10 m) (beats m c.requires.1 c.in-4.is)

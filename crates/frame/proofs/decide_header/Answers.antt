use Rattle.std.proofs.Common.{◌+◌, arith, sym}
use Rattle.std.proofs.Math.Seq.{length-take-le}
use Rattle.frame.proofs.Headers.{sound_header}
use Rattle.frame.proofs.decide_header.Goals as goal

pub decide_data-requires : goal.decide_data-requires
decide_data-requires c =
    let s = c.args.s.now in
    let h = sound_header s (sym c.in_default.ensures) in
    omega (arith, length-take-le (c.be32.result + 1) s (omega arith), h.low)

use Prim.Native.Nat.{◌<◌}
use mathlib.Core.Path.{◌≡◌}
use native.Mathlib.Omega.{arith}
use Rattle.laws.proofs.Parts.{rest}
use Rattle.frame.specs.Limits.{header_end}
use Rattle.frame.specs.Header.{pdu_type, message_count}
use Rattle.serve.proofs.Replies.{fills, few}
use Rattle.serve.proofs.commanded.Goals as goal

pub commands-requires : goal.commands-requires
commands-requires c = let a = c.args in
    let p = c.requires in
    let m = a.m.now in
    let k : pdu_type m < 2 = p.1 in
    let e : c.be16.result ≡ message_count m = c.be16.ensures in
    let f = few m p.2 k in
    rw (e, rest header_end m) (p.0, k, fills m p.2 k, omega arith, f)

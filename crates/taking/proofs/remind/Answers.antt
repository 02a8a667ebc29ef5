use Rattle.std.proofs.Common.{◌≡◌, ◌<◌, length, arith, rules}
use Rattle.laws.proofs.Tables.{length_mapped}
use Rattle.taking.proofs.Takes.{heard_is, sent_is, reminded_is}
use Rattle.taking.proofs.remind.Goals as goal

pub returns : goal.returns
returns c =
    let d = c.args.device.now in
    let l : length d.connections ≡ 8 = search (length_mapped, rules) in
    let h : c.args.n < length d.connections = omega arith in
    reminded_is d c.args.n _ _ _ c.args.output.now _ (heard_is d c.args.n _ _ h c.heartbeat.ensures) c.put_keep_alive-length.ensures.0 c.put_keep_alive-length.ensures.1 (sent_is d c.args.n _ _ h c.sent.ensures)

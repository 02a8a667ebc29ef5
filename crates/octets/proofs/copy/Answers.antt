use Rattle.std.proofs.Common.{arith, length, ◌+◌, ◌-◌}
use Rattle.laws.proofs.Stores.{sets_mid}
use Rattle.octets.proofs.copy.Goals as goal

pub returns : goal.returns
returns c =
    let a = c.args in
    rw c.copy_from_slice.ensures.after (sets_mid a.src.now a.dst.now a.at (a.at + length a.src.now - a.at) (omega arith) (omega arith))

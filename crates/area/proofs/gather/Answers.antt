use Rattle.std.proofs.Common.{arith, ◌+◌, ◌-◌, ◌≡◌, ap, ◌∙◌, length, take, drop}
use Prim.Native.Nat.{min}
use Rattle.frame.specs.Decide.{decide}
use Rattle.area.specs.Area.{part_bytes, part_at}
use Rattle.area.specs.Scaffold.{gathered}
use Rattle.area.proofs.Gathers.{copied, looked, same_decision}
use Rattle.area.proofs.gather.Goals as goal

pub returns : goal.returns
returns c =
    let area = c.args.area.now in
    let n = c.args.n in
    let k = c.args.k in
    let piece = c.args.piece.now in
    let w = c.requires in
    let m = min (part_bytes - k) (length piece) in
    let e : c.copy.new.dst ≡ gathered area n k piece = copied area n k piece c.copy.new.dst (rw c.fitting-m.ensures at c.copy.ensures) in
    let z : part_at n + k + m - part_at n ≡ k + m = omega arith in
    let d : c.decide.result ≡ decide (take (k + m) (drop (part_at n) (gathered area n k piece))) = cc in
    (d ∙ ap decide (looked area n k w piece) ∙ same_decision area n k w piece, e)

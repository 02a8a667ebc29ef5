use Rattle.std.proofs.Common.{◌≡◌, refl, length, rules}
use Rattle.laws.proofs.Tables.{length_mapped}
use Rattle.device.proofs.Times.{sent_in_lem}
use Rattle.serve.proofs.sent.Goals as goal

pub returns : goal.returns
returns c =
    let a = c.args in
    let l : length a.device.now.connections ≡ 8 = search (length_mapped, rules) in
    sent_in_lem a.device.now a.n c.sent.result _ l c.requires c.sent.ensures _ refl

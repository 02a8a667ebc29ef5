use Rattle.std.proofs.Common.{refl, rules}
use Rattle.laws.proofs.Tables.{length_mapped}
use Rattle.device.proofs.Times.{heard_in}
use Rattle.device.proofs.Device.heard.Goals as goal

pub returns : goal.returns
returns c = heard_in c.args.self.now c.args.n c.heard.result _ (search (length_mapped, rules)) c.requires c.heard.ensures _ refl

use Rattle.std.proofs.Common.{refl}
use Rattle.device.proofs.Times.{beating_in}
use Rattle.device.proofs.Device.keep_alive.Goals as goal

pub returns-then-live_at : goal.returns-then-live_at
returns-then-live_at c = beating_in _ _ _ c.live_at.ensures _ _ _ refl c.if-live_at.true _ _ c.beating.ensures refl

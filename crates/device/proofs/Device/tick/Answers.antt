use Rattle.device.proofs.Times.{tick_ready}
use Rattle.device.proofs.Device.tick.Goals as goal

pub closing-mask-requires : goal.closing-mask-requires
closing-mask-requires c = tick_ready c.args.self.now _ c.requires c.if-step-ge-BACK.false

pub all_ticked-requires : goal.all_ticked-requires
all_ticked-requires c = tick_ready c.args.self.now _ c.requires c.if-step-ge-BACK.false

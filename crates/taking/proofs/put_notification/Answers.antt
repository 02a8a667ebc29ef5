use Rattle.std.proofs.Common.{◌≡◌, length, rules}
use Rattle.laws.proofs.Tables.{length_mapped}
use Rattle.taking.proofs.Takes.{entry_read, notification_is}
use Rattle.taking.proofs.put_notification.Goals as goal

pub returns : goal.returns
returns c =
    let l : length c.args.device.now.subscriptions ≡ 32 = search (length_mapped, rules) in
    notification_is c.args.device.now c.args.at _ _ c.args.output.now _ _ (entry_read _ c.requires.0 c.args.at l c.requires.1 c.requires.2 _) c.place-place.ensures.0 c.put_notification.ensures.0 c.put_notification.ensures.1

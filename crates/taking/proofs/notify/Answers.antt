use Rattle.std.proofs.Common.{◌≡◌, length, rules}
use Rattle.laws.proofs.Tables.{length_mapped}
use Rattle.taking.proofs.Takes.{entry_read, entry_place, told_sent, notified_is}
use Rattle.taking.proofs.notify.Goals as goal

pub returns : goal.returns
returns c =
    let d = c.args.device.now in
    let i = c.args.at in
    let o = c.requires.0 in
    let h = c.requires.1 in
    let w = c.requires.2 in
    let l : length d.subscriptions ≡ 32 = search (length_mapped, rules) in
    let k : length d.connections ≡ 8 = search (length_mapped, rules) in
    notified_is d i _ _ c.args.output.now _ _ (entry_read d o i l h w _) c.put_notification-length.ensures.0 c.put_notification-length.ensures.1
    (told_sent d i _ (entry_read d o i l h w _) _ _ (rw k (entry_place d o i l h w _ k)) c.sent.ensures _ c.tell.ensures)

use Rattle.subscription.specs.State.{lowest_waiting}
use Rattle.sent.proofs.Takes.{notified}
use Rattle.sent.proofs.Bits.{entries_words}
use Rattle.sent.proofs.notified_is_read.Goals as goal

-- the entries stand in the device, which stands in the record
pub returns : goal.returns
returns c =
    let r = c.args.rec in
    let e = c.well_formed.0.1.1.0.1.1.1.1.0 in
    let w = entries_words r.device.subscriptions e.0 e.1.1 (lowest_waiting r.device.subscriptions) in
    record { notified = λ out n l q. notified r out n l w q }

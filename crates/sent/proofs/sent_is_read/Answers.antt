use Rattle.sent.proofs.Sends.{sent_is_read}
use Rattle.sent.proofs.sent_is_read.Goals as goal

pub returns : goal.returns
returns c = sent_is_read

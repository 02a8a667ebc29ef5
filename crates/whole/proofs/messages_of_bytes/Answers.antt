use Rattle.whole.proofs.Since.{messages_of_bytes}
use Rattle.whole.proofs.messages_of_bytes.Goals as goal

pub returns : goal.returns
returns c = messages_of_bytes

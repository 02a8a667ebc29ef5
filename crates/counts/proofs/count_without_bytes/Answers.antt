use Rattle.counts.proofs.Refuses.{count_without_bytes}
use Rattle.counts.proofs.count_without_bytes.Goals as goal

pub returns : goal.returns
returns c = count_without_bytes

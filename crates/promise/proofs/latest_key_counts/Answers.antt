use Rattle.promise.proofs.ResetKey.{latest_key_counts}
use Rattle.promise.proofs.latest_key_counts.Goals as goal

pub returns : goal.returns
returns c = latest_key_counts

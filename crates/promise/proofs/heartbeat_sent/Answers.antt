use Rattle.promise.proofs.Heartbeats.{heartbeat_sent}
use Rattle.promise.proofs.heartbeat_sent.Goals as goal

pub returns : goal.returns
returns c = heartbeat_sent

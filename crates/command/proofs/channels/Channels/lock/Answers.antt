use Rattle.command.proofs.channels.Channels.lock.Goals as goal

pub returns : goal.returns
returns c = c.lock-answer.ensures c.args.self.mutes

use Rattle.command.proofs.channels.Channels.unlock.Goals as goal

pub returns : goal.returns
returns c = c.unlock-answer.ensures c.args.self.mutes

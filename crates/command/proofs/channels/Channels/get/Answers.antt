use Rattle.command.proofs.channels.Channels.get.Goals as goal

pub returns : goal.returns
returns c = c.get.ensures c.args.self.holders

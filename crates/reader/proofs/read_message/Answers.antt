use Rattle.frame.proofs.Sounds.{sound_at}
use Rattle.reader.proofs.read_message.Goals as goal

pub message_in-requires : goal.message_in-requires
message_in-requires c = sound_at c.args.s.now c.in-Sound.length (cc)

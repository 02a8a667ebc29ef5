-- SentIsRead, put together. Assumes nothing.
use Rattle.sent.specs.Sent.{SentIsRead}
use Rattle.sent.proofs.Takes.{beat_read, reminded}
use Rattle.sent.proofs.Replies.{reply_read}
use Rattle.sent.proofs.Deliveries.{delivered}

pub sent_is_read : SentIsRead
sent_is_read =
    record {
      beats = beat_read;
      reminded = reminded;
      replied = λ d n m rest o s. reply_read d n m o s rest;
      delivered = λ r area n piece out k l a p e. delivered r area n piece out a p k l e;
    }

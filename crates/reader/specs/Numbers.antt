-- R66. The numbers of the reader's answers.
use Rattle.std.specs.Prelude.{ℕ, List, [], ◌∷◌, Result, Ok, Err}
use Rattle.numbers.specs.Refusal.{not_refused, refusal_numbers}
use Rattle.numbers.specs.declared.Refusal.{Refusal}
use Rattle.frame.specs.Limits.{command_wanting_reply, notification, response, keep_alive}
use Rattle.heartbeat.specs.Beat.{form_of, value_of}
use Rattle.heartbeat.specs.declared.Heartbeat.{Heartbeat}
use Rattle.fields.specs.declared.CommandFields.{CommandFields}
use Rattle.fields.specs.declared.NotificationFields.{NotificationFields}
use Rattle.fields.specs.declared.ResponseFields.{ResponseFields}
use Rattle.reader.specs.declared.Message.{Message}
use Rattle.reader.specs.declared.Message.TheVariants.{Command, CommandWantingReply, Notification, Response, KeepAlive}
use Rattle.reader.specs.declared.Reading.{Reading}
use Rattle.reader.specs.declared.Entry.{Entry}
use Rattle.reader.specs.declared.Entry.TheVariants as entry

-- R66. A heartbeat: its form, and its value in that form's unit.
unfoldable pub heartbeat_numbers : Heartbeat → List ℕ
heartbeat_numbers h = form_of h ∷ value_of h ∷ []

-- R66. A message: its type and messageCount; a keep-alive's count is 1, and its heartbeat follows.
unfoldable pub message_numbers : Message → List ℕ
message_numbers (Command n) = 0 ∷ n ∷ []
message_numbers (CommandWantingReply n) = command_wanting_reply ∷ n ∷ []
message_numbers (Notification n) = notification ∷ n ∷ []
message_numbers (Response n) = response ∷ n ∷ []
message_numbers (KeepAlive h) = keep_alive ∷ 1 ∷ heartbeat_numbers h

-- R66. A reading: the message's length and what it is; or what the refusal tells.
unfoldable pub reading_numbers : Result Reading Refusal → List ℕ
reading_numbers (Ok r) = not_refused ∷ r.length ∷ message_numbers r.message
reading_numbers (Err e) = refusal_numbers e

-- R66. The fields of a command in the order of R9, 0 first for both types.
unfoldable pub command_numbers : CommandFields → List ℕ
command_numbers c = 0 ∷ c.handle ∷ c.target ∷ c.method.level ∷ c.method.index ∷ c.count ∷ []

-- R66. The fields of a notification in the order of R9, its type first.
unfoldable pub notification_numbers : NotificationFields → List ℕ
notification_numbers n =
    notification ∷ n.target ∷ n.method.level ∷ n.method.index ∷ n.count
    ∷ n.context_count ∷ n.emitter ∷ n.event.level ∷ n.event.index ∷ []

-- R66. The fields of a response in the order of R9, its type first.
unfoldable pub response_numbers : ResponseFields → List ℕ
response_numbers r = response ∷ r.handle ∷ r.status ∷ r.count ∷ []

-- R66. An entry: its fields; or what the refusal tells.
unfoldable pub entry_numbers : Result Entry Refusal → List ℕ
entry_numbers (Ok (entry.Command c)) = not_refused ∷ command_numbers c
entry_numbers (Ok (entry.Notification n)) = not_refused ∷ notification_numbers n
entry_numbers (Ok (entry.Response r)) = not_refused ∷ response_numbers r
entry_numbers (Err e) = refusal_numbers e

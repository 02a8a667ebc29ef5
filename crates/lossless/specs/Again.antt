-- R9, R20, R21. An entry's bytes again, from what the reader's public calls answered: nothing else of the message is used.
use Rattle.std.specs.Prelude.{ℕ, ◌+◌, ◌<◌, ◌≡◌, List, [], ◌∷◌, ◌++◌, Result, Ok, Err, length, get_or}
use Rattle.octets.specs.Numbers.{bytes16, bytes32}
use Rattle.frame.specs.Limits.{least_command, least_notification, least_response}
use Rattle.fields.specs.declared.CommandFields.{CommandFields}
use Rattle.fields.specs.declared.NotificationFields.{NotificationFields}
use Rattle.fields.specs.declared.ResponseFields.{ResponseFields}
use Rattle.numbers.specs.Refusal.{not_refused}
use Rattle.numbers.specs.declared.Refusal.{Refusal}
use Rattle.reader.specs.Read.{read_of}
use Rattle.reader.specs.Entry.{ReadsEntry, GivesPart}
use Rattle.reader.specs.Context.{GivesContext}
use Rattle.reader.specs.declared.Entry.{Entry}
use Rattle.reader.specs.declared.Entry.TheVariants as entry

-- R9. A command: its size, its fields in their order, its part.
unfoldable pub command_again : CommandFields → List ℕ → List ℕ
command_again c part =
    bytes32 (least_command + length part)
    ++ (bytes32 c.handle ++ (bytes32 c.target ++ (bytes16 c.method.level ++ (bytes16 c.method.index ++ (c.count ∷ part)))))

-- R9. A notification: its size, its fields in their order with the context behind its count, its part.
unfoldable pub notification_again : NotificationFields → List ℕ → List ℕ → List ℕ
notification_again n context part =
    bytes32 (least_notification + length context + length part)
    ++ (bytes32 n.target ++ (bytes16 n.method.level ++ (bytes16 n.method.index ++ (n.count
    ∷ bytes16 n.context_count ++ (context
    ++ (bytes32 n.emitter ++ (bytes16 n.event.level ++ (bytes16 n.event.index ++ part))))))))

-- R9. A response: its size, its fields in their order, its part.
unfoldable pub response_again : ResponseFields → List ℕ → List ℕ
response_again r part = bytes32 (least_response + length part) ++ (bytes32 r.handle ++ (r.status ∷ r.count ∷ part))

-- R9, R20. An entry's bytes from its answer, its context and its part; none from a refusal.
unfoldable pub entry_again : Result Entry Refusal → List ℕ → List ℕ → List ℕ
entry_again (Ok (entry.Command c)) context part = command_again c part
entry_again (Ok (entry.Notification n)) context part = notification_again n context part
entry_again (Ok (entry.Response r)) context part = response_again r part
entry_again (Err e) context part = []

-- R20, R21. The bytes e come from what reading entry i of s, its context and its part answered.
pub record Rebuilt (s : List ℕ) (i : ℕ) (e : List ℕ) : Type 0 where
  pub answer : Result Entry Refusal
  pub context : List ℕ
  pub part : List ℕ
  pub entry : ReadsEntry s i answer
  pub within : GivesContext s i context
  pub behind : GivesPart s i part
  pub bytes : e ≡ entry_again answer context part

-- R19, R20, R21. Reading s told n bytes, that type and as many entries as es has, and each of these is rebuilt from its answers.
pub record AllRebuilt (s : List ℕ) (n kind : ℕ) (es : List (List ℕ)) : Type 0 where
  pub message : read_of s ≡ not_refused ∷ n ∷ kind ∷ length es ∷ []
  pub each : (i : ℕ) → i < length es → Rebuilt s i (get_or es i [])

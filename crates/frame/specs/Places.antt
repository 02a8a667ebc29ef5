-- R7, R9. Where the fields stand, each place once: of the header in a message, of an entry in its bytes.
use Rattle.std.specs.Prelude.{ℕ}

-- R7. Where protocolVersion stands.
abbrev pub version_place : ℕ
version_place = 1

-- R7. Where pduSize stands.
abbrev pub size_place : ℕ
size_place = 3

-- R7. Where pduType stands.
abbrev pub type_place : ℕ
type_place = 7

-- R7. Where messageCount stands.
abbrev pub message_count_place : ℕ
message_count_place = 8

-- R9. Where the handle of a command or a response stands.
abbrev pub handle_place : ℕ
handle_place = 4

-- R9. Where a command's target stands.
abbrev pub command_target_place : ℕ
command_target_place = 8

-- R9. Where a command's method stands.
abbrev pub command_method_place : ℕ
command_method_place = 12

-- R9. Where a command's parameter count stands.
abbrev pub command_count_place : ℕ
command_count_place = 16

-- R9. Where a notification's target stands.
abbrev pub notification_target_place : ℕ
notification_target_place = 4

-- R9. Where a notification's method stands.
abbrev pub notification_method_place : ℕ
notification_method_place = 8

-- R9. Where a notification's parameter count stands.
abbrev pub notification_count_place : ℕ
notification_count_place = 12

-- R9. Where the count of a notification's context stands.
abbrev pub context_count_place : ℕ
context_count_place = 13

-- R9. Where the context itself starts.
abbrev pub context_place : ℕ
context_place = 15

-- R9. Where a notification's emitter stands behind an empty context; each byte of a context moves it on by one.
abbrev pub emitter_place : ℕ
emitter_place = 15

-- R9. Where its event stands behind an empty context.
abbrev pub event_place : ℕ
event_place = 19

-- R9. Where a response's status stands.
abbrev pub status_place : ℕ
status_place = 8

-- R9. Where a response's parameter count stands.
abbrev pub response_count_place : ℕ
response_count_place = 9

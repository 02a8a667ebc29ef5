-- R7 to R9, R13. The numbers of the wire, each once, by name.
use Rattle.std.specs.Prelude.{ℕ, ◌+◌}

-- R7. The byte that starts a message.
abbrev pub sync : ℕ
sync = 0x3B

-- R7. The 3B and the header.
abbrev pub header_end : ℕ
header_end = 10

-- R7. The only protocolVersion.
abbrev pub version : ℕ
version = 1

-- R8. The least pduSize: a header and no data.
abbrev pub least_size : ℕ
least_size = 9

-- R8. The greatest pduSize of what is received or written by the writer.
abbrev pub greatest_size : ℕ
greatest_size = 2048

-- R8. The longest message, which counts its 3B.
abbrev pub longest_message : ℕ
longest_message = greatest_size + 1

-- R9. The type of a command that wants a reply; that of one that wants none is 0.
abbrev pub command_wanting_reply : ℕ
command_wanting_reply = 1

-- R9. The type of a notification.
abbrev pub notification : ℕ
notification = 2

-- R9. The type of a response.
abbrev pub response : ℕ
response = 3

-- R9. The type of a keep-alive, the last.
abbrev pub keep_alive : ℕ
keep_alive = 4

-- R9. The least command.
abbrev pub least_command : ℕ
least_command = 17

-- R9. The least notification, whose context is empty.
abbrev pub least_notification : ℕ
least_notification = 23

-- R9. The least response.
abbrev pub least_response : ℕ
least_response = 10

-- R9. The most bytes that a context has.
abbrev pub greatest_context : ℕ
greatest_context = 64

-- R15. The bytes of a heartbeat in seconds.
abbrev pub seconds_bytes : ℕ
seconds_bytes = 2

-- R15. The bytes of a heartbeat in milliseconds.
abbrev pub milliseconds_bytes : ℕ
milliseconds_bytes = 4

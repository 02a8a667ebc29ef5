-- What the device sends is read: each message with whatever bytes stand behind it, as in an output. R19 to R21, R31, R35, R36, R48, R49.
use Rattle.std.specs.Prelude.{ℕ, ◌-◌, ◌/◌, ◌%◌, ◌≤◌, ◌<◌, ◌≡◌, List, [], ◌∷◌, ◌++◌, true, length, get_or, take, drop}
use Rattle.octets.specs.Numbers.{Octets}
use Rattle.numbers.specs.Refusal.{not_refused, fault}
use Rattle.numbers.specs.Fault.{fault_size}
use Rattle.answers.specs.Numbers.{delivery_numbers, taking_numbers}
use Rattle.answers.specs.declared.Delivery.TheVariants.{Message}
use Rattle.answers.specs.declared.Taking.TheVariants.{Notification, KeepAlive}
use Rattle.heartbeat.specs.declared.Heartbeat.{Heartbeat}
use Rattle.frame.specs.Limits.{header_end, command_wanting_reply, notification, response, keep_alive, longest_message}
use Rattle.frame.specs.Header.{pdu_type, message_count}
use Rattle.frame.specs.Decide.{decide}
use Rattle.frame.specs.declared.Decision.TheVariants.{Sound}
use Rattle.fields.specs.Place.{entry_bytes, parameters_of}
use Rattle.fields.specs.Fields.{command_of, heartbeat_of}
use Rattle.reader.specs.Numbers.{heartbeat_numbers}
use Rattle.reader.specs.Read.{read_of}
use Rattle.reader.specs.Entry.{entry_of, part_of}
use Rattle.reader.specs.Context.{entry_context}
use Rattle.layout.specs.Message.{at_front}
use Rattle.area.specs.Area.{undecided_of}
use Rattle.connection.specs.State.{closed}
use Rattle.connection.specs.Supervision.{heartbeat_kept}
use Rattle.connection.specs.Kept.{fits_form}
use Rattle.subscription.specs.State.{lowest_waiting}
use Rattle.subscription.specs.declared.Subscription.{Subscription}
use Rattle.objects.specs.Answers.{Carried as Answer}
use Rattle.replies.specs.Bytes.{context_sent, keep_alive_bytes}
use Rattle.device.specs.State.{heard_at}
use Rattle.device.specs.Run.{mute_at}
use Rattle.device.specs.declared.Device.{Device}
use Rattle.serve.specs.Serve.{ran_with, last_of}
use Rattle.serve.specs.Sound.{sound_of}
use Rattle.taking.specs.Dispatch.{subscription_at}
use Rattle.endpoint.specs.Deliver.{held_at, deliver_call}
use Rattle.endpoint.specs.Take.{take_call}
use Rattle.endpoint.specs.declared.Record.{Record}

-- R10. The level of a method or an event that is kept as one number.
abbrev pub level_of : ℕ → ℕ
level_of number = number / 65536

-- R10. Its index.
abbrev pub index_of : ℕ → ℕ
index_of number = number % 65536

-- R19, R36, R49. A keep-alive of n bytes stands at the front of s: its form and value are those of h.
pub record BeatRead (s : List ℕ) (n : ℕ) (h : Heartbeat) : Type 0 where
  pub sound : decide s ≡ Sound n
  pub message : read_of s ≡ not_refused ∷ n ∷ keep_alive ∷ 1 ∷ heartbeat_numbers h

-- R20, R21, R48. The notification of entry e stands there: to its subscriber, with context, emitter and event, then 4.1, the value, 1.
pub record NotificationRead (s : List ℕ) (n : ℕ) (e : Subscription) (value : ℕ) : Type 0 where
  pub sound : decide s ≡ Sound n
  pub message : read_of s ≡ not_refused ∷ n ∷ notification ∷ 1 ∷ []
  pub entry : entry_of s 0
      ≡ not_refused ∷ notification ∷ e.object ∷ level_of e.method ∷ index_of e.method ∷ 2
      ∷ e.context_count ∷ e.emitter ∷ level_of e.event ∷ index_of e.event ∷ []
  pub context : entry_context s 0 ≡ context_sent e
  pub part : part_of s 0 ≡ 0 ∷ 4 ∷ 0 ∷ 1 ∷ value ∷ 1 ∷ []

-- R49. The lowest entry that waits.
abbrev pub waiting_entry : Record → Subscription
waiting_entry r = subscription_at r.device (lowest_waiting r.device.subscriptions)

-- R48. The value of its mute, at this moment.
abbrev pub waiting_value : Record → ℕ
waiting_value r = mute_at r.device (waiting_entry r).emitter

-- R35. The most bytes of a reply: 119 responses of 22 bytes, behind the header.
abbrev pub longest_reply : ℕ
longest_reply = 2628

-- R31. The reply to the sound message m of connection n.
abbrev pub reply_to : Device → ℕ → List ℕ → List ℕ
reply_to d n m = (sound_of d n m).reply

-- R13. The bytes of command i of m.
abbrev pub command_bytes : List ℕ → ℕ → List ℕ
command_bytes m i = entry_bytes i (pdu_type m) (drop header_end m)

-- R35. The handle of command i of m.
abbrev pub handle_at : List ℕ → ℕ → ℕ
handle_at m i = (command_of (command_bytes m i)).handle

-- R34. The device that command i of m finds: those before it have been run.
abbrev pub found_by : Device → ℕ → List ℕ → ℕ → Device
found_by d n m i = last_of i (heard_at d n) n (pdu_type m) (drop header_end m)

-- R34. The answer to command i of m, run on that device.
abbrev pub answer_at : Device → ℕ → List ℕ → ℕ → Answer
answer_at d n m i =
    (ran_with (found_by d n m i) n (command_of (command_bytes m i)) (parameters_of (pdu_type m) (command_bytes m i))).answer

-- R20, R21, R35. A response message of n bytes stands at the front of s: so many entries, with these handles and answers, in order.
pub record ResponsesRead (s : List ℕ) (n count : ℕ) (handles : ℕ → ℕ) (answers : ℕ → Answer) : Type 0 where
  pub sound : decide s ≡ Sound n
  pub message : read_of s ≡ not_refused ∷ n ∷ response ∷ count ∷ []
  pub entry : (i : ℕ) → i < count
      → entry_of s i ≡ not_refused ∷ response ∷ handles i ∷ (answers i).status ∷ (answers i).count ∷ []
  pub part : (i : ℕ) → i < count → part_of s i ≡ take (answers i).length (answers i).bytes

-- R31. At the front of s stands the reply to the sound message m of connection n, of l bytes, and is read.
pub record ReplyRead (d : Device) (n : ℕ) (m s : List ℕ) (l : ℕ) : Type 0 where
  -- only a command that wants a reply and a keep-alive get one
  pub silent : (pdu_type m ≡ command_wanting_reply → ⊥) → (pdu_type m ≡ keep_alive → ⊥) → l ≡ 0
  -- a keep-alive gets itself
  pub answered : pdu_type m ≡ keep_alive → (reply_to d n m ≡ m) × BeatRead s l (heartbeat_of (drop header_end m))
  -- commands get one response each, in order, in a message that is read if it is no longer than a message may be
  pub responses : pdu_type m ≡ command_wanting_reply → l ≤ longest_message
      → ResponsesRead s l (message_count m) (handle_at m) (answer_at d n m)
  -- and is refused for its size if it is longer
  pub long : pdu_type m ≡ command_wanting_reply → longest_message < l → read_of s ≡ fault ∷ fault_size ∷ []
  -- none is longer than this
  pub short : l ≤ longest_reply

-- R31. A delivery of k bytes taken and l of reply: the message is the front of the undecided bytes and the piece, the reply the output's.
pub record Replied (r : Record) (area : List ℕ) (n : ℕ) (piece out : List ℕ) (k l : ℕ) (after : List ℕ) : Type 0 where
  pub message : List ℕ
  pub front : message ≡ take (length message) (undecided_of area n (held_at r n) ++ piece)
  pub sound : decide message ≡ Sound (length message)
  pub bytes : k ≡ length message - held_at r n
  pub size : l ≡ length (reply_to r.device n message)
  pub output : after ≡ at_front (reply_to r.device n message) out
  pub read : ReplyRead r.device n message after l

-- Theorem. Every keep-alive and every reply is decided sound, and read as what it is of.
pub record SentIsRead : Type 0 where
  -- every keep-alive
  pub beats : (h : Heartbeat) (rest : List ℕ) → fits_form h ≡ true
      → BeatRead (keep_alive_bytes h ++ rest) (length (keep_alive_bytes h)) h
  -- one that is taken: the output is read as the heartbeat of the connection that is named
  pub reminded : (r : Record) (out : List ℕ) (n l : ℕ) → (take_call r out).answer ≡ taking_numbers (KeepAlive n l)
      → BeatRead (take_call r out).output l (heartbeat_kept (get_or r.device.connections n closed))
  -- every reply
  pub replied : (d : Device) (n : ℕ) (m rest : List ℕ) → Octets m → decide m ≡ Sound (length m)
      → ReplyRead d n m (reply_to d n m ++ rest) (length (reply_to d n m))
  -- and what a delivery leaves in the output, where it answers that there was a message
  pub delivered : (r : Record) (area : List ℕ) (n : ℕ) (piece out : List ℕ) (k l : ℕ) → Octets area → Octets piece
      → (deliver_call r area n piece out).answer ≡ delivery_numbers (Message k l)
      → Replied r area n piece out k l (deliver_call r area n piece out).output

-- Theorem. Every notification that a take leaves in the output is read as the lowest waiting entry, with the value of that moment.
pub record NotifiedIsRead (r : Record) : Type 0 where
  -- and the connection that is named is the entry's
  pub notified : (out : List ℕ) (n l : ℕ) → (take_call r out).answer ≡ taking_numbers (Notification n l)
      → (n ≡ (waiting_entry r).connection) × NotificationRead (take_call r out).output l (waiting_entry r) (waiting_value r)

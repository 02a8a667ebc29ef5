-- R32 to R36. What a sound message does to the device, and the reply to it.
use Rattle.std.specs.Prelude.{ℕ, List, [], cond, drop, ltb, eqb}
use Rattle.heartbeat.specs.declared.Heartbeat.{Heartbeat}
use Rattle.frame.specs.Limits.{header_end, notification, response, keep_alive}
use Rattle.frame.specs.Header.{pdu_type, message_count}
use Rattle.fields.specs.Fields.{heartbeat_of}
use Rattle.layout.specs.Message.{message}
use Rattle.device.specs.State.{heard_at, sent_at, beating_at}
use Rattle.device.specs.declared.Device.{Device}
use Rattle.replies.specs.Bytes.{keep_alive_bytes}
use Rattle.serve.specs.Serve.{last_of, responses_of}

-- R31. The device, and the reply's bytes: none where there is no reply.
pub record Ruled : Type 0 where
  pub device : Device
  pub reply : List ℕ

-- R31. A device and a reply.
abbrev pub ruled : Device → List ℕ → Ruled
ruled d reply = record { device = d; reply = reply }

-- R34, R35. Commands run; type 1 is answered, and that is something sent.
unfoldable pub commands_of : Device → ℕ → ℕ → ℕ → List ℕ → Ruled
commands_of d n kind count t =
    cond (eqb kind 0) (ruled (last_of count d n kind t) [])
    (ruled (sent_at (last_of count d n kind t) n) (message response count (responses_of count d n kind t)))

-- R36. A keep-alive, and the answer to it.
unfoldable pub kept_alive : Device → ℕ → Heartbeat → Ruled
kept_alive d n h = ruled (beating_at d n h) (keep_alive_bytes h)

-- R32, R33, R34, R35, R36. What the sound message m of connection n does, and the reply to it.
unfoldable pub sound_of : Device → ℕ → List ℕ → Ruled
sound_of d n m =
    cond (eqb (pdu_type m) keep_alive) (kept_alive d n (heartbeat_of (drop header_end m)))
    (cond (ltb (pdu_type m) notification) (commands_of (heard_at d n) n (pdu_type m) (message_count m) (drop header_end m))
    (ruled (heard_at d n) []))

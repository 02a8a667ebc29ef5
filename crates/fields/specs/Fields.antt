-- R9, R10, R15. The fields of an entry, and the heartbeat of a keep-alive.
use Rattle.std.specs.Prelude.{ℕ, ◌+◌, List, cond, length, get_or, eqb}
use Rattle.octets.specs.Numbers.{be16_at, be32_at}
use Rattle.frame.specs.Limits.{notification, seconds_bytes}
use Rattle.frame.specs.Places.{handle_place, command_target_place, command_method_place, command_count_place}
use Rattle.frame.specs.Places.{notification_target_place, notification_method_place, notification_count_place}
use Rattle.frame.specs.Places.{context_count_place, emitter_place, event_place, status_place, response_count_place}
use Rattle.frame.specs.Entry.{context_count}
use Rattle.heartbeat.specs.declared.Heartbeat.{Heartbeat}
use Rattle.heartbeat.specs.declared.Heartbeat.TheVariants.{InSeconds, InMilliseconds}
use Rattle.fields.specs.declared.Method.{Method}
use Rattle.fields.specs.declared.CommandFields.{CommandFields}
use Rattle.fields.specs.declared.NotificationFields.{NotificationFields}
use Rattle.fields.specs.declared.ResponseFields.{ResponseFields}

-- R10. The method or event at a place of an entry.
unfoldable pub method_at : List ℕ → ℕ → Method
method_at e at = record { level = be16_at e at; index = be16_at e (at + 2) }

-- R9. The fields of a command.
unfoldable pub command_of : List ℕ → CommandFields
command_of e =
    record {
      handle = be32_at e handle_place;
      target = be32_at e command_target_place;
      method = method_at e command_method_place;
      count = get_or e command_count_place 0;
    }

-- R9. Where a notification's field stands that follows its context, whose bytes move it on by one each.
abbrev pub behind_context : List ℕ → ℕ → ℕ
behind_context e place = place + context_count notification e

-- R9. The fields of a notification; the context itself is a part of the message, as the parameters are.
unfoldable pub notification_of : List ℕ → NotificationFields
notification_of e =
    record {
      target = be32_at e notification_target_place;
      method = method_at e notification_method_place;
      count = get_or e notification_count_place 0;
      context_count = be16_at e context_count_place;
      emitter = be32_at e (behind_context e emitter_place);
      event = method_at e (behind_context e event_place);
    }

-- R9. The fields of a response.
unfoldable pub response_of : List ℕ → ResponseFields
response_of e = record { handle = be32_at e handle_place; status = get_or e status_place 0; count = get_or e response_count_place 0 }

-- R15. The heartbeat of a keep-alive's data, told by its length.
unfoldable pub heartbeat_of : List ℕ → Heartbeat
heartbeat_of t =
    cond (eqb (length t) seconds_bytes) (InSeconds (record { 0 = be16_at t 0 })) (InMilliseconds (record { 0 = be32_at t 0 }))

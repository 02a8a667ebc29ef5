-- R3, R57, R58, R60. The device: fresh, opening, closing, and what is heard and sent.
use Rattle.std.specs.Prelude.{ℕ, Bool, cond, List, Option, Some, None, map, replicate, slice_index_or, slice_set}
use Rattle.laws.specs.Lists.{any}
use Rattle.heartbeat.specs.declared.Heartbeat.{Heartbeat}
use Rattle.connection.specs.State.{connection_count, closed, opened, live_at, is_live, is_not_open, lowest_free}
use Rattle.connection.specs.Supervision.{heard_of, sent_of, beating_of}
use Rattle.connection.specs.declared.Connection.{Connection}
use Rattle.mechanism.specs.State.{disarmed}
use Rattle.subscription.specs.State.{entry_count, free, told_of, swept_of}
use Rattle.objects.specs.Tests.{unmuted}
use Rattle.holders.specs.Holders.{swept_holder}
use Rattle.device.specs.Setters.{with_connections, with_subscriptions, with_holders}
use Rattle.device.specs.declared.Device.{Device}

-- R58. What an opening comes to: the device, and the number opened, if one was free.
pub record Opened : Type 0 where
  pub device : Device
  pub answer : Option ℕ

-- R60. What a closing comes to: the device, and whether there was a connection to close.
pub record Closing : Type 0 where
  pub device : Device
  pub answer : Bool

-- R3. There are eight mutes.
abbrev pub mute_count : ℕ
mute_count = 8

-- R57. The fresh device at a first reading.
unfoldable pub fresh_of : ℕ → Device
fresh_of reading =
    record {
      reading = reading;
      connections = replicate connection_count closed;
      subscriptions = replicate entry_count free;
      mutes = replicate mute_count unmuted;
      holders = replicate mute_count 0;
      mechanism = disarmed;
    }

-- R3. Of each connection, whether it is open.
unfoldable pub lives_in : Device → List Bool
lives_in d = map is_live d.connections

-- R58. Opening: the lowest free number, or none.
unfoldable pub open_of : Device → Opened
open_of d =
    cond (any is_not_open d.connections)
    (record {
      device = with_connections d (slice_set d.connections (lowest_free d.connections) opened);
      answer = Some (lowest_free d.connections);
    })
    (record { device = d; answer = None })

-- R60. Whatever belongs to a connection that is not open is freed.
unfoldable pub sweep_of : Device → Device
sweep_of d =
    with_holders (with_subscriptions d (map (swept_of d.connections) d.subscriptions))
    (map (swept_holder d.connections) d.holders)

-- R60. The closure of connection n.
unfoldable pub close_of : Device → ℕ → Device
close_of d n = sweep_of (with_connections d (slice_set d.connections n closed))

-- R59, R60. The closure of connection n, and whether there was a connection to close.
unfoldable pub closing_of : Device → ℕ → Closing
closing_of d n = record { device = close_of d n; answer = live_at d.connections n }

-- R3. Connection n changed by f; a number past the last changes nothing.
abbrev pub at_connection : (Connection → Connection) → Device → ℕ → Device
at_connection f d n = with_connections d (slice_set d.connections n (f (slice_index_or d.connections n closed)))

-- R32. Connection n was heard.
unfoldable pub heard_at : Device → ℕ → Device
heard_at d n = at_connection heard_of d n

-- R55. Something was sent on connection n.
unfoldable pub sent_at : Device → ℕ → Device
sent_at d n = at_connection sent_of d n

-- R50. The entry at a place waits no more.
unfoldable pub told_at : Device → ℕ → Device
told_at d at = with_subscriptions d (slice_set d.subscriptions at (told_of (slice_index_or d.subscriptions at free)))

-- R36. A keep-alive of connection n, if that is open.
unfoldable pub beating_at : Device → ℕ → Heartbeat → Device
beating_at d n h = cond (live_at d.connections n) (at_connection (beating_of h) d n) d

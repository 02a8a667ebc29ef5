-- R28, R63. What a host has to lend so that nothing of its pieces is refused while the connection is open.
use Rattle.std.specs.Prelude.{ℕ, ◌+◌, ◌*◌, ◌≤◌, ◌≡◌, true, List, length}
use Rattle.laws.specs.Lists.{joined}
use Rattle.octets.specs.Numbers.{Octets}
use Rattle.connection.specs.State.{live_at}
use Rattle.replies.specs.Bytes.{least_output}
use Rattle.endpoint.specs.Deliver.{held_at}
use Rattle.endpoint.specs.declared.Record.{Record}
use Rattle.feed.specs.Feed.{unfed}
use Rattle.promise.specs.Kept.{Kept}
use Rattle.cutting.specs.Cutting.{feed_all}

-- R28, R63. Connection n is open, and the output has the least for a delivery and twice the undecided bytes and those that come.
pub record RoomFor (r : Record) (area : List ℕ) (n : ℕ) (bytes out : List ℕ) : Type 0 where
  pub kept : Kept r area
  pub octets : Octets bytes
  pub live : live_at r.device.connections n ≡ true
  pub room : least_output + 2 * (held_at r n + length bytes) ≤ length out

-- Theorem. Where there is room, pieces are taken to the last byte, or the connection is closed.
pub record AllIsTaken : Type 0 where
  pub pieces : (r : Record) (area : List ℕ) (n : ℕ) (out : List ℕ) (pieces : List (List ℕ)) → RoomFor r area n (joined pieces) out
      → let f = feed_all n (unfed r area out) pieces in
      live_at f.state.device.connections n ≡ true → f.taken ≡ length (joined pieces)

-- R60. What a closure takes and leaves.
use Rattle.std.specs.Prelude.{◌≡◌, ℕ, ◌+◌, ◌^◌, ◌<◌, Bool, true, false, cond, ◌&&◌, List, [], map}
use Rattle.std.specs.Prelude.{◌==◌, nat_le, slice_index, slice_index_or, slice_set}
use Rattle.connection.specs.State.{closed, live_at}
use Rattle.connection.specs.Supervision.{closes_at}
use Rattle.subscription.specs.State.{free}
use Rattle.subscription.specs.declared.Subscription.{Subscription}
use Rattle.numbers.specs.Status.{carried_out}
use Rattle.objects.specs.Methods.{first_mute, lock_method}
use Rattle.device.specs.Setters.{with_connections, with_subscriptions, with_holders}
use Rattle.device.specs.State.{mute_count, close_of}
use Rattle.device.specs.Obeys.{device_obeys}
use Rattle.device.specs.Run.{run_of}
use Rattle.device.specs.Time.{step_of, tick_of}
use Rattle.device.specs.declared.Device.{Device}

-- R60. The lock is connection n's.
unfoldable pub is_lock_of : ℕ → ℕ → Bool
is_lock_of n holder = holder == n + 1

-- R60. The entry is connection n's.
unfoldable pub is_entry_of : ℕ → Subscription → Bool
is_entry_of n s = s.used && s.connection == n

-- R60. The locks of connection n, each at its mute's place.
unfoldable pub locks_of : ℕ → Device → List ℕ
locks_of n d = map (λ (h : ℕ). cond (is_lock_of n h) h 0) d.holders

-- R60. The subscription entries of connection n, each at its own place with its mark.
unfoldable pub subscriptions_of : ℕ → Device → List Subscription
subscriptions_of n d = map (λ (s : Subscription). cond (is_entry_of n s) s free) d.subscriptions

-- R60. No lock.
unfoldable pub no_locks : Device → List ℕ
no_locks d = map (λ (h : ℕ). 0) d.holders

-- R60. No subscription entry.
unfoldable pub no_entries : Device → List Subscription
no_entries d = map (λ (s : Subscription). free) d.subscriptions

-- R60. Nothing of connection n is left in r, which came of d.
pub record Gone (n : ℕ) (d r : Device) : Type 0 where
  pub shut : live_at r.connections n ≡ false
  pub locks : locks_of n r ≡ no_locks d
  pub entries : subscriptions_of n r ≡ no_entries d

-- R60. Connection n is open in r, with its locks, entries and marks as in d.
pub record Stays (n : ℕ) (d r : Device) : Type 0 where
  pub live : live_at r.connections n ≡ true
  pub locks : locks_of n r ≡ locks_of n d
  pub entries : subscriptions_of n r ≡ subscriptions_of n d

-- R60. Connection n closed, its locks and entries freed, all else as it was.
unfoldable pub freed_of : Device → ℕ → Device
freed_of d n =
    with_holders
    (with_subscriptions (with_connections d (slice_set d.connections n closed))
    (map (λ (s : Subscription). cond (is_entry_of n s) free s) d.subscriptions))
    (map (λ (h : ℕ). cond (is_lock_of n h) 0 h) d.holders)

-- R56. A tick that is not refused.
abbrev pub Passing : Device → ℕ → Type 0
Passing d reading = nat_le (2 ^ 31) (step_of reading d.reading) ≡ false

-- R53. That tick closes connection n.
abbrev pub is_expiring : Device → ℕ → ℕ → Bool
is_expiring d reading n = closes_at (step_of reading d.reading) (slice_index_or d.connections n closed)

-- Theorem. A closure frees what the connection had and leaves what every other open one has.
pub record ClosureFrees : Type 0 where
  -- the host's close, or a fault's
  pub closing : (d : Device) (n : ℕ) → Gone n d (close_of d n)
  pub others : (d : Device) (n k : ℕ) → (k == n) ≡ false → live_at d.connections k ≡ true → Stays k d (close_of d n)
  pub same : (d : Device) (n k : ℕ) → (k == n) ≡ false
      → slice_index_or (close_of d n).connections k closed ≡ slice_index_or d.connections k closed
  -- where the record rules hold, closing comes to R60 word by word
  pub wording : (d : Device) (n : ℕ) → device_obeys d ≡ true → close_of d n ≡ freed_of d n
  -- a lock that the connection held can be taken
  pub releasing : (d : Device) (n k at : ℕ) → at < mute_count → slice_index d.holders at ≡ n + 1
      → (run_of (close_of d n) k (first_mute + at) lock_method 0 []).answer.status ≡ carried_out
  -- a tick that is not refused
  pub ticking : (d : Device) (reading n : ℕ) → Passing d reading → is_expiring d reading n ≡ true → Gone n d (tick_of d reading).device
  pub staying : (d : Device) (reading n : ℕ) → Passing d reading → live_at d.connections n ≡ true → is_expiring d reading n ≡ false
      → Stays n d (tick_of d reading).device
  pub expiring : (d : Device) (reading n k at : ℕ) → Passing d reading → is_expiring d reading n ≡ true
      → at < mute_count → slice_index d.holders at ≡ n + 1
      → (run_of (tick_of d reading).device k (first_mute + at) lock_method 0 []).answer.status ≡ carried_out

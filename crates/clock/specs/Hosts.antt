-- R51 to R56. A host that ticks every millisecond, and one that ticks ten times a second.
use Rattle.std.specs.Prelude.{ℕ, zero, suc, ◌+◌, ◌-◌, ◌*◌, ◌/◌, ◌%◌, ◌^◌, ◌<◌, ◌≤◌, ◌≡◌, true, false, List, [], ◌∷◌, leb, ltb, get_or}
use Rattle.octets.specs.Zeros.{zeros}
use Rattle.heartbeat.specs.declared.Heartbeat.TheVariants.{InMilliseconds}
use Rattle.area.specs.Area.{area_bytes}
use Rattle.connection.specs.State.{connection_count, closed}
use Rattle.connection.specs.declared.Connection.{Connection}
use Rattle.device.specs.State.{fresh_of, open_of, beating_at}
use Rattle.endpoint.specs.State.{state_of}
use Rattle.endpoint.specs.declared.Record.{Record}
use Rattle.promise.specs.Kept.{Accepted}
use Rattle.promise.specs.Ticks.{Watched}
use Rattle.promise.specs.Heartbeats.{ticks_call, ticks_time, all_pass, open_at_last, Paced}
use Rattle.clock.specs.Clock.{Typed, ticks_close}

-- R51. The readings of a host that ticks every p milliseconds, k of them from the last one on; the counter goes round at 2^32.
unfoldable pub every : ℕ → ℕ → ℕ → List ℕ
every p last zero = []
every p last (suc k) = (last + p) % 2 ^ 32 ∷ every p ((last + p) % 2 ^ 32) k

-- R56. The record and the area of such a host after k ticks, with no other call between.
abbrev pub host_at : Record → List ℕ → ℕ → ℕ → Record × List ℕ
host_at r area p k = ticks_call r area (every p r.device.reading k)

-- R56. Whom it has closed by then, the masks joined.
abbrev pub host_closes : Record → List ℕ → ℕ → ℕ → ℕ
host_closes r area p k = ticks_close r area (every p r.device.reading k)

-- R3. Connection n then.
abbrev pub connection_then : Record → List ℕ → ℕ → ℕ → ℕ → Connection
connection_then r area p k n = get_or (host_at r area p k).0.device.connections n closed

-- R53. Connection n is open at each of the host's ticks before the k-th, and closed at that.
pub record ClosesAtTick (r : Record) (area : List ℕ) (p k n : ℕ) : Type 0 where
  pub before : (j : ℕ) → j < k → (connection_then r area p j n).live ≡ true
  pub then : (connection_then r area p k n).live ≡ false

-- R53, R61. Record and area are accepted, and connection n is open in it with heartbeat H above zero and that silence.
pub record Tablet (r : Record) (area : List ℕ) (n H silence : ℕ) : Type 0 where
  pub typed : Typed r area []
  pub accepted : Accepted r area
  pub above : 0 < H
  pub watched : Watched r.device n H silence

-- R36, R58. A fresh record at a reading near the counter's end, one connection opened, which sets a heartbeat of 2 s.
unfoldable pub tablet_open : Record
tablet_open =
    state_of (beating_at (open_of (fresh_of 4294967000)).device 0 (InMilliseconds (record { 0 = 2000 }))) (zeros connection_count)

-- Theorem. What a slow clock being as good as a fast one says of a host that ticks every millisecond and one that does every 100.
pub record TwoHosts : Type 0 where
  -- however long they run, at each tick of a host that ticks every q milliseconds, 100 for ten times a second, one that ticks every
  -- millisecond has the same record and area, and has closed the same connections; so the same keep-alives are due
  pub same : (r : Record) (area : List ℕ) (q k : ℕ) → Typed r area [] → q < 2 ^ 31 → host_at r area 1 (q * k) ≡ host_at r area q k
  pub closed_same : (r : Record) (area : List ℕ) (q k : ℕ) → Typed r area [] → q < 2 ^ 31
      → host_closes r area 1 (q * k) ≡ host_closes r area q k
  -- whenever the ticks come, a silent connection is open as long as its silence and their time are below 3 × H
  pub uneven : (r : Record) (area readings : List ℕ) (n H s : ℕ) → Tablet r area n H s → all_pass r area readings ≡ true
      → open_at_last r area readings n ≡ ltb (s + ticks_time r.device.reading readings) (3 * H)
  -- and so at any pace
  pub live : (r : Record) (area : List ℕ) (n H s p k : ℕ) → Tablet r area n H s → p < 2 ^ 31
      → (connection_then r area p k n).live ≡ ltb (s + k * p) (3 * H)
  -- so the fast host closes it at the millisecond that makes 3 × H, and the slow one at its first tick from then on
  pub fast : (r : Record) (area : List ℕ) (n H s : ℕ) → Tablet r area n H s → ClosesAtTick r area 1 (3 * H - s) n
  pub slow : (r : Record) (area : List ℕ) (n H s : ℕ) → Tablet r area n H s → ClosesAtTick r area 100 ((3 * H - s + 99) / 100) n
  -- at neither before 3 × H, and at the slow one less than 100 ms after the fast one
  pub apart : (r : Record) (area : List ℕ) (n H s j k : ℕ) → Tablet r area n H s → ClosesAtTick r area 1 j n → ClosesAtTick r area 100 k n
      → (3 * H ≤ s + j) × (3 * H ≤ s + 100 * k) × (j ≤ 100 * k) × (100 * k < j + 100)
  -- at any pace, a keep-alive falls due once quiet and the time of the ticks come to H
  pub due : (r : Record) (area : List ℕ) (n H s q p k : ℕ) → Tablet r area n H s → Paced r.device n H q false → p < 2 ^ 31
      → (connection_then r area p k n).live ≡ true → (connection_then r area p k n).due ≡ leb H (q + k * p)
  -- so one that falls due at the fast host is due by the slow host's next tick
  pub due_by : (r : Record) (area : List ℕ) (n H s q j k : ℕ) → Tablet r area n H s → Paced r.device n H q false → j ≤ 100 * k
      → (connection_then r area 1 j n).due ≡ true → (connection_then r area 100 k n).live ≡ true
      → (connection_then r area 100 k n).due ≡ true
  -- with numbers, H 2 s: a tablet heard just now is closed after 6,000 ms by both; one silent for 99 ms after 5,901 ms and after 6,000
  pub heard_now : (r : Record) (area : List ℕ) (n : ℕ) → Tablet r area n 2000 0
      → ClosesAtTick r area 1 6000 n × ClosesAtTick r area 100 60 n
  pub heard_before : (r : Record) (area : List ℕ) (n : ℕ) → Tablet r area n 2000 99
      → ClosesAtTick r area 1 5901 n × ClosesAtTick r area 100 60 n
  -- there is such a tablet, and the counter goes round while it is silent
  pub tablet : Tablet tablet_open (zeros area_bytes) 0 2000 0

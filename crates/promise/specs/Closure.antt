-- R56, R58 to R60. Exactly the connections named are closed: nothing of them is left, nothing else touched; a reused number is new.
use Rattle.std.specs.Prelude.{ℕ, ◌-◌, ◌^◌, ◌<◌, ◌≡◌, Bool, true, false, cond, not, ◌&&◌, List, [], ◌∷◌, map, eqb, get_or, take, drop}
use Rattle.octets.specs.Zeros.{zeros}
use Rattle.area.specs.Area.{part_bytes, part_at}
use Rattle.connection.specs.State.{closed, opened, live_at}
use Rattle.subscription.specs.State.{free}
use Rattle.subscription.specs.declared.Subscription.{Subscription}
use Rattle.device.specs.Closure.{locks_of, subscriptions_of, no_locks, no_entries, Gone, Stays}
use Rattle.numbers.specs.Refusal.{not_refused}
use Rattle.numbers.specs.Kind.{kind_closed}
use Rattle.answers.specs.Numbers.{opening_numbers, closing_numbers, ticking_numbers}
use Rattle.endpoint.specs.Outcome.{Outcome}
use Rattle.endpoint.specs.Calls.{open_call, close_call, tick_call}
use Rattle.endpoint.specs.Deliver.{held_at, deliver_call}
use Rattle.endpoint.specs.declared.Record.{Record}
use Rattle.promise.specs.Rulebook.{bit_of}
use Rattle.promise.specs.Kept.{Kept}

-- R4. Connection n's part of the area.
unfoldable pub area_part : List ℕ → ℕ → List ℕ
area_part area n = take part_bytes (drop (part_at n) area)

-- R60. Nothing of connection n is left in r' and its area, which came of r.
pub record Left (n : ℕ) (r r' : Record) (area' : List ℕ) : Type 0 where
  pub gone : Gone n r.device r'.device
  pub blank : get_or r'.device.connections n closed ≡ closed
  pub count : held_at r' n ≡ 0
  pub bytes : area_part area' n ≡ zeros part_bytes

-- R60. Connection k is open, with its locks, entries, marks, count and part as they were.
pub record Unmoved (k : ℕ) (r : Record) (area : List ℕ) (r' : Record) (area' : List ℕ) : Type 0 where
  pub stays : Stays k r.device r'.device
  pub count : held_at r' k ≡ held_at r k
  pub bytes : area_part area' k ≡ area_part area k

-- R60. The lock is held by one of these connections.
unfoldable pub is_lock_in : (ℕ → Bool) → ℕ → Bool
is_lock_in these holder = not (eqb holder 0) && these (holder - 1)

-- R60. The entry is one of these connections'.
unfoldable pub is_entry_in : (ℕ → Bool) → Subscription → Bool
is_entry_in these s = s.used && these s.connection

-- R60. A call that closed exactly these connections.
pub record Closed (these : ℕ → Bool) (r : Record) (area : List ℕ) (o : Outcome) : Type 0 where
  -- they were open; afterwards whoever was and is none of them is open, and nobody else
  pub were : (n : ℕ) → these n ≡ true → live_at r.device.connections n ≡ true
  pub after : (n : ℕ) → live_at o.state.device.connections n ≡ (live_at r.device.connections n && not (these n))
  pub left : (n : ℕ) → these n ≡ true → Left n r o.state o.area
  pub others : (k : ℕ) → these k ≡ false → live_at r.device.connections k ≡ true → Unmoved k r area o.state o.area
  pub shut : (k : ℕ) → live_at r.device.connections k ≡ false
      → get_or o.state.device.connections k closed ≡ get_or r.device.connections k closed
  -- all locks and entries are the old ones, without theirs
  pub locks : o.state.device.holders ≡ map (λ (h : ℕ). cond (is_lock_in these h) 0 h) r.device.holders
  pub entries : o.state.device.subscriptions ≡ map (λ (s : Subscription). cond (is_entry_in these s) free s) r.device.subscriptions
  -- and neither mutes nor mechanism are touched
  pub mutes : o.state.device.mutes ≡ r.device.mutes
  pub mechanism : o.state.device.mechanism ≡ r.device.mechanism

-- R30, R59. The host's close, or a fault's: connection n alone; the reading, and of the others silence, quiet and heartbeat, stay too.
pub record ClosedAlone (n : ℕ) (r : Record) (area : List ℕ) (o : Outcome) : Type 0 where
  pub one : Closed (λ (k : ℕ). eqb k n) r area o
  pub reading : o.state.device.reading ≡ r.device.reading
  pub supervised : (k : ℕ) → eqb k n ≡ false
      → get_or o.state.device.connections k closed ≡ get_or r.device.connections k closed

-- R56. A tick's closures: exactly the connections whose bit is set in the mask, which is a byte.
pub record ClosedByTick (mask : ℕ) (r : Record) (area : List ℕ) (o : Outcome) : Type 0 where
  pub byte : mask < 2 ^ 8
  pub masked : Closed (bit_of mask) r area o

-- R58. Connection n is newly opened: all counts zero, no lock, no entry, no byte.
pub record New (n : ℕ) (r r' : Record) (area : List ℕ) : Type 0 where
  pub free : live_at r.device.connections n ≡ false
  pub connection : get_or r'.device.connections n closed ≡ opened
  pub locks : locks_of n r'.device ≡ no_locks r.device
  pub entries : subscriptions_of n r'.device ≡ no_entries r.device
  pub count : held_at r' n ≡ 0
  pub bytes : area_part area n ≡ zeros part_bytes

-- ---- what is supposed, of a record and an area that refusals 1 and 2 let pass

-- R56. A tick of a record and an area that keep their rules, with this answer.
pub record TickTold (r : Record) (area : List ℕ) (reading mask : ℕ) : Type 0 where
  pub kept : Kept r area
  pub answer : (tick_call r area reading).answer ≡ ticking_numbers mask

-- R58. An opening of a record and an area that keep their rules, with this number.
pub record OpeningTold (r : Record) (area : List ℕ) (n : ℕ) : Type 0 where
  pub kept : Kept r area
  pub answer : (open_call r).answer ≡ opening_numbers n

-- Theorem. A closure leaves nothing of its connections and all of the others; a number opened again is new.
pub record ClosureLeavesNothing : Type 0 where
  -- the host's close
  pub by_host : (r : Record) (area : List ℕ) (n : ℕ) → Kept r area → (close_call r area n).answer ≡ closing_numbers tt
      → ClosedAlone n r area (close_call r area n)
  -- a fault in the bytes delivered, whatever its number
  pub by_fault : (r : Record) (area : List ℕ) (n : ℕ) (piece out : List ℕ) (taken fault : ℕ) → Kept r area
      → (deliver_call r area n piece out).answer ≡ not_refused ∷ kind_closed ∷ taken ∷ fault ∷ []
      → ClosedAlone n r area (deliver_call r area n piece out)
  -- a tick
  pub by_tick : (r : Record) (area : List ℕ) (reading mask : ℕ) → TickTold r area reading mask
      → ClosedByTick mask r area (tick_call r area reading)
  -- opening gives a number that was not open, and whatever was there before, it starts as newly opened
  pub reopened : (r : Record) (area : List ℕ) (n : ℕ) → OpeningTold r area n → New n r (open_call r).state area
  pub open_others : (r : Record) (area : List ℕ) (n : ℕ) → OpeningTold r area n
      → (k : ℕ) → live_at r.device.connections k ≡ true → Unmoved k r area (open_call r).state area

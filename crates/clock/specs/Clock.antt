-- R51 to R56, R60, R62, R63. A slow clock is as good as a fast one.
use Rattle.std.specs.Prelude.{ℕ, ◌^◌, ◌<◌, ◌≡◌, Bool, true, ◌&&◌, List, [], ◌∷◌, eqb, length, get_or}
use Rattle.std.specs.Int.Bits.{bit_or}
use Rattle.octets.specs.Numbers.{Octets}
use Rattle.numbers.specs.Refusal.{bad_record}
use Rattle.connection.specs.State.{connection_count}
use Rattle.endpoint.specs.Outcome.{Outcome}
use Rattle.endpoint.specs.Calls.{tick_call}
use Rattle.endpoint.specs.declared.Record.{Record}
use Rattle.promise.specs.Heartbeats.{ticks_call, ticks_time}

-- R2, R3, R51. What the types of the tick call's arguments say of every record, area and reading: eight connections and eight counts, a
-- reading of 32 bits, bytes.
pub record Typed (r : Record) (area readings : List ℕ) : Type 0 where
  pub eight : length r.device.connections ≡ connection_count
  pub counts : length r.held ≡ connection_count
  pub reading : r.device.reading < 2 ^ 32
  pub octets : Octets area
  pub each : (i : ℕ) → get_or readings i 0 < 2 ^ 32

-- R51. The last of these readings, or the one before them where there is none.
unfoldable pub last_reading : ℕ → List ℕ → ℕ
last_reading last [] = last
last_reading last (reading ∷ rest) = last_reading reading rest

-- R66. The number of a call's answer: its refusal, or 0.
abbrev pub number_of : Outcome → ℕ
number_of o = get_or o.answer 0 bad_record

-- R56, R66. The mask of the connections that a tick closed: the second number of its answer, and none where it is refused.
abbrev pub closed_by : Outcome → ℕ
closed_by o = get_or o.answer 1 0

-- R56. The masks of ticks at these readings, with no other call between, joined.
unfoldable pub ticks_close : Record → List ℕ → List ℕ → ℕ
ticks_close r area [] = 0
ticks_close r area (reading ∷ rest) =
    let o = tick_call r area reading in
    bit_or (closed_by o) (ticks_close o.state o.area rest)

-- R64, R66. Each of them answers with that number.
unfoldable pub all_answer : ℕ → Record → List ℕ → List ℕ → Bool
all_answer number r area [] = true
all_answer number r area (reading ∷ rest) =
    let o = tick_call r area reading in
    eqb (number_of o) number && all_answer number o.state o.area rest

-- R56. Ticks at these readings do what one tick at the last of them does.
pub record AsOne (r : Record) (area readings : List ℕ) (one : Outcome) : Type 0 where
  -- the same record and area
  pub left : ticks_call r area readings ≡ (one.state, one.area)
  -- the same connections are closed
  pub closes : ticks_close r area readings ≡ closed_by one
  -- and where the one is refused, each of them is, by the same number
  pub answers : all_answer (number_of one) r area readings ≡ true

-- Theorem. Ticks whose steps add up to less than 2^31, with no other call between, come to one tick at the last reading, for every
-- record and area, refused ones too, and for any list of readings, the empty one too: the one tick then has a step of 0.
--
-- It holds where one would doubt it. Quiet stops counting while something is due, so that it is 0 at whichever of the ticks it fell
-- due. A connection closed early is all zero: without a heartbeat nothing of it is counted at the ticks behind, and it is in one mask
-- alone. What a closure frees stays free: who is open behind the last tick was open behind each. By the record rules silence is below
-- 3 × H, quiet is below H where nothing is due, and nothing belongs to a connection that is not open: so a step of 0 changes nothing. A
-- record or an area that is refused is handed back as it was, and refused again.
pub record SlowClock : Type 0 where
  pub as_one : (r : Record) (area readings : List ℕ) → Typed r area readings → ticks_time r.device.reading readings < 2 ^ 31
      → AsOne r area readings (tick_call r area (last_reading r.device.reading readings))

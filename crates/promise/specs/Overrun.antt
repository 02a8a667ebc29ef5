-- R53, R54, R62, R63. No count runs over: the greatest that silence and quiet come to, and what becomes of a record with more.
use Rattle.std.specs.Prelude.{ℕ, ◌+◌, ◌^◌, ◌<◌, ◌≤◌, ◌≡◌, true, List, [], ◌∷◌, get_or}
use Rattle.octets.specs.Zeros.{zeros}
use Rattle.numbers.specs.Refusal.{not_refused, bad_record}
use Rattle.heartbeat.specs.Beat.{greatest_milliseconds}
use Rattle.heartbeat.specs.declared.Heartbeat.TheVariants.{InMilliseconds}
use Rattle.connection.specs.State.{connection_count, closed}
use Rattle.connection.specs.Supervision.{greatest_silence, greatest_quiet}
use Rattle.device.specs.State.{fresh_of, open_of, beating_at}
use Rattle.device.specs.Time.{tick_of}
use Rattle.device.specs.declared.Device.{Device}
use Rattle.endpoint.specs.State.{state_of, record_obeys}
use Rattle.endpoint.specs.Outcome.{refused}
use Rattle.endpoint.specs.Calls.{tick_call}
use Rattle.endpoint.specs.declared.Record.{Record}
use Rattle.promise.specs.Ticks.{step_at}

-- R53. The silence of connection n with the step of a tick.
abbrev pub silence_with : Record → ℕ → ℕ → ℕ
silence_with r reading n = (get_or r.device.connections n closed).silence + step_at r reading

-- R54. So its quiet.
abbrev pub quiet_with : Record → ℕ → ℕ → ℕ
quiet_with r reading n = (get_or r.device.connections n closed).quiet + step_at r reading

-- R56. The device after ticks at these readings.
unfoldable pub ticks_by : Device → List ℕ → Device
ticks_by d [] = d
ticks_by d (reading ∷ rest) = ticks_by (tick_of d reading).device rest

-- R36, R58. A fresh record at reading 0, one connection opened, which sets the greatest heartbeat, and ticks at these readings.
unfoldable pub silent_for : List ℕ → Record
silent_for readings =
    state_of
    (ticks_by (beating_at (open_of (fresh_of 0)).device 0 (InMilliseconds (record { 0 = greatest_milliseconds }))) readings)
    (zeros connection_count)

-- R51. Readings from 0 on, whose steps are 2^31 less 1 each but for the last, of 2: together 3 × H less 1 for the greatest H.
abbrev pub long_silence : List ℕ
long_silence = 2147483647 ∷ 4294967294 ∷ 2147483645 ∷ 4294967292 ∷ 2147483643 ∷ 4294967290 ∷ 4294967292 ∷ []

-- R51. The first two of them: together H less 1.
abbrev pub long_quiet : List ℕ
long_quiet = 2147483647 ∷ 4294967294 ∷ []

-- R53, R54. A count comes to this with the step of a tick that neither 1 nor 6 refuses.
pub record Comes (r : Record) (reading count greatest : ℕ) : Type 0 where
  pub obeys : record_obeys r ≡ true
  pub timely : step_at r reading < 2 ^ 31
  pub sum : count ≡ greatest

-- Theorem. No count runs over, whatever record, area and reading: an accepted record's are small, and any other is refused by 1.
pub record NoOverrun : Type 0 where
  -- a record that 1 does not refuse, and a step that 6 does not: every count comes to these numbers at most
  pub silence : (r : Record) (reading n : ℕ) → record_obeys r ≡ true → step_at r reading < 2 ^ 31
      → silence_with r reading n ≤ greatest_silence
  pub quiet : (r : Record) (reading n : ℕ) → record_obeys r ≡ true → step_at r reading < 2 ^ 31
      → quiet_with r reading n ≤ greatest_quiet
  -- which 64 bits hold
  pub fit : (greatest_silence < 2 ^ 64) × (greatest_quiet < 2 ^ 64)
  -- and to no smaller ones: with the greatest heartbeat and the longest steps both are reached
  pub silence_comes : let r = silent_for long_silence in Comes r 2147483643 (silence_with r 2147483643 0) greatest_silence
  pub quiet_comes : let r = silent_for long_quiet in Comes r 2147483645 (quiet_with r 2147483645 0) greatest_quiet
  -- a record of which silence or quiet and the step would not fit 64 bits breaks a record rule, and is refused by 1
  pub silence_over : (r : Record) (area : List ℕ) (reading n : ℕ) → 2 ^ 64 ≤ silence_with r reading n
      → tick_call r area reading ≡ refused bad_record r area []
  pub quiet_over : (r : Record) (area : List ℕ) (reading n : ℕ) → 2 ^ 64 ≤ quiet_with r reading n
      → tick_call r area reading ≡ refused bad_record r area []
  -- so no tick is refused by 7
  pub never : (r : Record) (area : List ℕ) (reading : ℕ) → get_or (tick_call r area reading).answer 0 not_refused ≡ 7 → ⊥

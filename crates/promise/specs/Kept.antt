-- R62. What every call keeps of record and area.
use Rattle.std.specs.Prelude.{ℕ, ◌≡◌, cond, true, List, [], ltb, length}
use Rattle.octets.specs.Numbers.{Octets}
use Rattle.octets.specs.Zeros.{zeros}
use Rattle.area.specs.Area.{area_bytes, area_sound, undecided_of}
use Rattle.connection.specs.State.{connection_count}
use Rattle.stream.specs.Calls.{Held, Bytes}
use Rattle.endpoint.specs.State.{fresh_state, record_obeys}
use Rattle.endpoint.specs.Calls.{cleared_area}
use Rattle.endpoint.specs.Deliver.{held_at}
use Rattle.endpoint.specs.declared.Record.{Record}
use Rattle.promise.specs.Calls.{HostCall, call_of}

-- R3, R4. The undecided bytes of each connection, as the record counts them and the area holds them.
unfoldable pub held_in : Record → List ℕ → Held
held_in r area = λ n. cond (ltb n connection_count) (undecided_of area n (held_at r n)) []

-- R62. A record and an area that refusals 1 and 2 let pass.
pub record Accepted (r : Record) (area : List ℕ) : Type 0 where
  pub obeys : record_obeys r ≡ true
  pub sound : area_sound r.held area ≡ true

-- R62. Refusals 1 and 2 do not apply; the arrays have their lengths, and the area is made of bytes.
pub record Kept (r : Record) (area : List ℕ) : Type 0 where
  pub obeys : record_obeys r ≡ true
  pub sound : area_sound r.held area ≡ true
  pub eight : length r.device.connections ≡ connection_count
  pub counts : length r.held ≡ connection_count
  pub octets : Octets area

-- Theorem. From a fresh record and a zeroed area, no call leaves what refusal 1 or 2 applies to.
pub record CallsKeep : Type 0 where
  pub fresh : (reading : ℕ) → Kept (fresh_state reading) (zeros area_bytes)
  pub clearing : (area : List ℕ) → length area ≡ area_bytes → cleared_area area ≡ zeros area_bytes
  pub calling : (r : Record) (area : List ℕ) (c : HostCall) → Bytes c → Kept r area
      → Kept (call_of r area c).state (call_of r area c).area

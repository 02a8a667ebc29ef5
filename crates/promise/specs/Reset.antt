-- R75 to R77. Reset by key, and the channels after it.
use Rattle.std.specs.Prelude.{ℕ, zero, suc, ◌+◌, ◌<◌, ◌≡◌, Bool, true, false, not, ◌&&◌, ◌||◌, eqb, ltb}
use Rattle.std.specs.Prelude.{List, [], ◌∷◌, ◌++◌, length, get_or, take, drop}
use Rattle.numbers.specs.Status.{held_by_other, carried_out}
use Rattle.octets.specs.Zeros.{zeros}
use Rattle.frame.specs.Limits.{header_end, notification}
use Rattle.frame.specs.Header.{pdu_type, message_count}
use Rattle.frame.specs.Entry.{entry_size}
use Rattle.frame.specs.Decide.{decide}
use Rattle.frame.specs.declared.Decision.{Decision}
use Rattle.frame.specs.declared.Decision.TheVariants.{Undecided, Faulty, Sound}
use Rattle.fields.specs.Fields.{command_of}
use Rattle.fields.specs.declared.CommandFields.{CommandFields}
use Rattle.area.specs.Area.{area_bytes, area_sound}
use Rattle.mechanism.specs.State.{key_bytes, disarmed}
use Rattle.mechanism.specs.Datagram as mechanism
use Rattle.mechanism.specs.Datagram.{sentinel}
use Rattle.connection.specs.State.{connection_count, live_at}
use Rattle.objects.specs.Methods.{method_number, lock_method, first_mute}
use Rattle.device.specs.State.{mute_count, fresh_of}
use Rattle.device.specs.Run as commands
use Rattle.device.specs.declared.Device.{Device}
use Rattle.stream.specs.Calls.{ask, handed, asked, Held, none_held, AllBytes}
use Rattle.answers.specs.Numbers.{resetting_numbers}
use Rattle.answers.specs.declared.Resetting.TheVariants as resettings
use Rattle.endpoint.specs.State.{fresh_state, record_obeys}
use Rattle.numbers.specs.Refusal.{bad_record, bad_area}
use Rattle.endpoint.specs.Outcome.{outcome, refused}
use Rattle.reset.specs.Datagram.{restarted, datagram_call}
use Rattle.endpoint.specs.declared.Record.{Record}
use Rattle.promise.specs.Rulebook.{datagram, Asked}
use Rattle.promise.specs.Calls.{HostCall, run_calls}
use Rattle.promise.specs.Kept.{Accepted}
use Rattle.promise.specs.Whole.{wholes_of, by_rules, bytes_waiting}
use Rattle.promise.specs.Locks.{lock_status}

-- R75, R77. What a datagram needs to reset: refusals 1 and 2 do not apply, and it is the sentinel and the armed key.
pub record Matches (r : Record) (area g : List ℕ) : Type 0 where
  pub accepted : Accepted r area
  pub armed : r.device.mechanism.armed ≡ true
  pub bytes : g ≡ sentinel ++ r.device.mechanism.key

-- R75. The datagram is answered by a reset.
abbrev pub Resets : Record → List ℕ → List ℕ → Type 0
Resets r area g = (datagram_call r area g).answer ≡ resetting_numbers resettings.Done

-- Theorem. A datagram resets exactly when R75 says, and then leaves what R76 says; any other leaves all as it was.
pub record ResetByKey : Type 0 where
  -- R75, and exactly then
  pub resets : (r : Record) (area g : List ℕ) → Matches r area g → Resets r area g
  pub only : (r : Record) (area g : List ℕ) → Resets r area g → Matches r area g
  -- with a key of 16 bytes it has 24
  pub long : (r : Record) (area g : List ℕ) → length r.device.mechanism.key ≡ key_bytes → Resets r area g → length g ≡ 24
  -- R76: a fresh record at the last reading, and an area of zeros
  pub leaves : (r : Record) (area g : List ℕ) → Resets r area g
      → ((datagram_call r area g).state ≡ fresh_state r.device.reading) × ((datagram_call r area g).area ≡ zeros area_bytes)
  pub disarms : (reading : ℕ) → (fresh_state reading).device.mechanism ≡ disarmed
  -- the same datagram again does nothing
  pub once : (reading : ℕ) (area g : List ℕ) → ¬ Resets (fresh_state reading) area g
  -- all other datagrams leave record and area as they were
  pub otherwise : (r : Record) (area g : List ℕ) → ¬ Resets r area g
      → ((datagram_call r area g).state ≡ r) × ((datagram_call r area g).area ≡ area)
  -- R77: refusals 1 and 2, and no other
  pub refused_record : (r : Record) (area g : List ℕ) → record_obeys r ≡ false → datagram_call r area g ≡ refused bad_record r area []
  pub refused_area : (r : Record) (area g : List ℕ) → record_obeys r ≡ true → area_sound r.held area ≡ false
      → datagram_call r area g ≡ refused bad_area r area []
  pub nothing : (r : Record) (area g : List ℕ) → Accepted r area → ¬ Resets r area g
      → datagram_call r area g ≡ outcome (resetting_numbers resettings.Nothing) r area []
  -- R76: what follows a reset is what follows a fresh record and a zeroed area
  pub anew : (r : Record) (area g : List ℕ) (cs : List HostCall) → Resets r area g
      → let fresh = run_calls (fresh_state r.device.reading) (zeros area_bytes) cs in
      run_calls r area (ask (datagram g) ∷ cs) ≡ (fresh.0, restarted r ∷ fresh.1)
  -- over whole messages too: no undecided byte is held, and no connection is open
  pub nobody : (d : Device) (h : Held) (g : List ℕ) → mechanism.resets d.mechanism g ≡ true
      → let one = ask (datagram g) ∷ [] in
      ((by_rules d h one).0 ≡ fresh_of d.reading) × (bytes_waiting d h one ≡ none_held)
  pub shut_all : (reading n : ℕ) → live_at (fresh_of reading).connections n ≡ false

-- ---- the channels after a reset

-- R42. The command is the lock of the channel at that place.
unfoldable pub asks_with : ℕ → CommandFields → Bool
asks_with at c = eqb c.target (first_mute + at) && eqb (method_number c.method.level c.method.index) lock_method

-- R42. Of so many entries, one is.
unfoldable pub asks_over : ℕ → ℕ → ℕ → List ℕ → Bool
asks_over zero at kind t = false
asks_over (suc j) at kind t = asks_with at (command_of (take (entry_size kind t) t)) || asks_over j at kind (drop (entry_size kind t) t)

-- R42. A message in which a lock of that channel is asked for, by what it decides.
unfoldable pub asks_in : Decision → ℕ → List ℕ → Bool
asks_in Undecided at m = false
asks_in (Faulty fault t) at m = false
asks_in (Sound t) at m = ltb (pdu_type m) notification && asks_over (message_count m) at (pdu_type m) (drop header_end m)

-- R42. A call of the rules in which it is.
unfoldable pub asks_for : ℕ → Asked → Bool
asks_for at (handed n m out) = asks_in (decide m) at m
asks_for at (asked a) = false

-- R42. None of these calls asks for it.
unfoldable pub nobody_asks : ℕ → List Asked → Bool
nobody_asks at [] = true
nobody_asks at (w ∷ ws) = not (asks_for at w) && nobody_asks at ws

-- Theorem. After a reset no channel is held, and whoever asks first for a channel's lock gets it.
pub record RackFreeAgain : Type 0 where
  -- no channel is held, and whoever then asks for a channel's lock gets it
  pub unheld : (r : Record) (area g : List ℕ) → Resets r area g → (at : ℕ)
      → get_or (datagram_call r area g).state.device.holders at 0 ≡ 0
  pub free : (r : Record) (area g : List ℕ) → Resets r area g → (k at : ℕ) → at < mute_count
      → lock_status (datagram_call r area g).state.device k at ≡ carried_out
  -- whatever calls come after it, as long as no message asks for a channel, the first to ask for it gets it
  pub first : (r : Record) (area g : List ℕ) (cs : List HostCall) → Resets r area g → AllBytes cs → (k at : ℕ) → at < mute_count
      → nobody_asks at (wholes_of (fresh_of r.device.reading) none_held cs) ≡ true
      → lock_status (run_calls r area (ask (datagram g) ∷ cs)).0.0.device k at ≡ carried_out
  -- he then holds it, and another's lock of it is refused as held by another
  pub holds : (d : Device) (k j at : ℕ) → k < connection_count → at < mute_count → length d.holders ≡ mute_count
      → lock_status d k at ≡ carried_out → eqb j k ≡ false
      → lock_status (commands.run_of d k (first_mute + at) lock_method 0 []).device j at ≡ held_by_other

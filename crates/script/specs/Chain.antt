-- R81, R82. What a script's calls leave is what the rules over whole messages give.
use Rattle.std.specs.Prelude.{ℕ, zero, suc, ◌^◌, ◌≤◌, ◌<◌, ◌≡◌, cond, List, [], ◌∷◌, ◌++◌, ltb, length}
use Rattle.octets.specs.Numbers.{bytes32, Octets}
use Rattle.octets.specs.Zeros.{zeros}
use Rattle.area.specs.Area.{area_bytes}
use Rattle.device.specs.State.{fresh_of}
use Rattle.device.specs.declared.Device.{Device}
use Rattle.stream.specs.Calls.{deliver, ask, Held, none_held, AllBytes}
use Rattle.endpoint.specs.State.{fresh_state}
use Rattle.endpoint.specs.declared.Record.{Record}
use Rattle.promise.specs.Rulebook.{datagram}
use Rattle.promise.specs.Calls.{HostCall, record_with, area_with}
use Rattle.promise.specs.Kept.{held_in, Kept}
use Rattle.promise.specs.Whole.{by_rules, host_told, bytes_waiting}
use Rattle.answers.specs.Numbers.{numbers_of}
use Rattle.script.specs.Script.{Stage, stage, call_take, call_datagram, call_head, call_by, call_in, behind}
use Rattle.script.specs.Script.{calls_in, last_output, last_answer, script_of}

-- R82. How the rules over whole messages end these calls, from device d with the bytes h waiting: the rules' device, the bytes that
-- wait, and the last output and answer that the host is told.
unfoldable pub ruled_end : Device → Held → List HostCall → List ℕ → Stage
ruled_end d h calls output =
    stage (record_with (by_rules d h calls).0 (bytes_waiting d h calls)) (area_with (bytes_waiting d h calls))
    (last_output output calls (host_told d h calls)) (last_answer (numbers_of []) (host_told d h calls))

-- R82. A script's calls, at most so many, each lent the output as the rules left it, from device d with the bytes h waiting.
unfoldable pub ruled_from : ℕ → Device → Held → List ℕ → List ℕ → List HostCall
ruled_from zero d h s output = []
ruled_from (suc k) d h s output =
    let one = call_in s output ∷ [] in
    cond (ltb (length s) call_head) []
    (call_in s output ∷ ruled_from k (by_rules d h one).0 (bytes_waiting d h one) (behind s) (last_output output one (host_told d h one)))

-- R82. All of them.
abbrev pub ruled_calls : Device → Held → List ℕ → List ℕ → List HostCall
ruled_calls d h s output = ruled_from (length s) d h s output

-- R82. THE SCRIPT BY THE RULES: how the rules over whole messages end it.
abbrev pub ruled_script : Device → Held → List ℕ → List ℕ → Stage
ruled_script d h s output = ruled_end d h (ruled_calls d h s output) output

-- R82. The first call of a script, lent this output, is c, and more lies behind it.
pub record FirstIs (s output : List ℕ) (c : HostCall) (more : List ℕ) : Type 0 where
  pub call : call_in s output ≡ c
  pub rest : behind s ≡ more

-- Theorem. What the code leaves of a script is what the rules over whole messages give; every call can be written.
pub record ScriptsRun : Type 0 where
  -- what the code leaves of a script, from a fresh record and a zeroed area: as the rules over whole messages end it
  pub fresh : (reading : ℕ) (s output : List ℕ) → Octets s
      → script_of (fresh_state reading) (zeros area_bytes) s output ≡ ruled_script (fresh_of reading) none_held s output
  -- and so from any record and area to which refusals 1 and 2 do not apply
  pub later : (r : Record) (area s output : List ℕ) → Kept r area → Octets s
      → script_of r area s output ≡ ruled_script r.device (held_in r area) s output
  -- the calls that the code makes are those, and their pieces are bytes, so all that DemandThree says of calls it says of them
  pub calls : (r : Record) (area s output : List ℕ) → Kept r area → Octets s
      → calls_in r area s output ≡ ruled_calls r.device (held_in r area) s output
  pub pieces : (r : Record) (area s output : List ℕ) → Octets s → AllBytes (calls_in r area s output)
  -- every call can be written: an opening, a closing, a reading or a taking in six bytes
  pub asks : (kind n value : ℕ) (more output : List ℕ) → kind ≤ call_take → value < 2 ^ 32
      → FirstIs (kind ∷ n ∷ (bytes32 value ++ more)) output (call_by kind n value [] output) more
  -- a datagram with its bytes behind them
  pub datagrams : (n : ℕ) (piece more output : List ℕ) → length piece < 2 ^ 32
      → FirstIs (call_datagram ∷ n ∷ (bytes32 (length piece) ++ (piece ++ more))) output (ask (datagram piece)) more
  -- and a delivery with its piece behind them
  pub deliveries : (kind n : ℕ) (piece more output : List ℕ) → call_datagram < kind → length piece < 2 ^ 32
      → FirstIs (kind ∷ n ∷ (bytes32 (length piece) ++ (piece ++ more))) output (deliver n piece output) more

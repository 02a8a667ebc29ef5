-- The chain from a script's calls to the rules over whole messages, and that every call can be written. Assumes nothing.
use Prim.Native.Nat.{ℕ, zero, suc, ◌+◌, ◌-◌, ◌≤◌, ◌<◌}
use mathlib.Core.Path.{◌≡◌, refl, ap, ◌∙◌}
use mathlib.Core.Bool.{Bool, cond, true, false}
use mathlib.Core.List.{List, [], ◌∷◌, ◌++◌}
use native.Mathlib.Omega.{arith}
use borrow.Author.Tests.{le-leb, lt-leb, le-ltb}
use lib.Dec.{eqb, ltb}
use lib.ListN.{length, get_or, take, drop, length-append}
use lib.Seq.{take-append_seam, drop-append_seam}
use Rattle.octets.specs.Numbers.{be32_at, bytes32, Octets}
use Rattle.octets.proofs.Digits.{be32_bytes, octets_take, octets_drop}
use Rattle.device.specs.declared.Device.{Device}
use Rattle.octets.specs.Zeros.{zeros}
use Rattle.area.specs.Area.{area_bytes}
use Rattle.device.specs.State.{fresh_of}
use Rattle.stream.specs.Calls.{deliver, ask, Held, none_held, Bytes, AllBytes}
use Rattle.stream.specs.Lent.{counts_of}
use Rattle.endpoint.specs.State.{fresh_state}
use Rattle.endpoint.specs.declared.Record.{Record}
use Rattle.promise.specs.Rulebook.{opening, closing, ticking, taking, datagram}
use Rattle.promise.specs.Calls.{HostCall, record_with, area_with, call_of, run_calls}
use Rattle.promise.specs.Kept.{held_in, Kept}
use Rattle.promise.specs.Whole.{host_sees, by_rules, host_told, bytes_waiting}
use Rattle.promise.proofs.OpenConnections.{GoodAt}
use Rattle.promise.proofs.HeldBytes.{kept_good, kept_counts, kept_area}
use Rattle.promise.proofs.Kept.{whole_state, fresh_good, fresh_state_lem, fresh_area}
use Rattle.promise.proofs.Whole.{as_rules, as_good}
use Rattle.script.specs.Script.{output_after, sent_by, call_by, first_size, call_in, behind, calls_from, calls_in, last_output, end_of, script_of}
use Rattle.script.specs.Chain.{ruled_end, ruled_from, ruled_calls, ruled_script, FirstIs, ScriptsRun}
use Rattle.script.proofs.Stages.{is_sent, is_datagram, is_deliver}

call_bytes : (s output : List ℕ) → Octets s → Bytes (call_in s output)
unfolding call_in call_by sent_by
call_bytes s output o = go (eqb (get_or s 0 0) 0) (eqb (get_or s 0 0) 1) (eqb (get_or s 0 0) 2) (eqb (get_or s 0 0) 3) (eqb (get_or s 0 0) 4)
  where
    piece : List ℕ
    piece = take (first_size s - 6) (drop 6 s)

    go : (a b c d e : Bool) → Bytes (cond a (ask opening) (cond b (ask (closing (get_or s 1 0))) (cond c (ask (ticking (be32_at s 2))) (cond d (ask (taking output)) (cond e (ask (datagram piece)) (deliver (get_or s 1 0) piece output))))))
    go true b c d e = tt
    go false true c d e = tt
    go false false true d e = tt
    go false false false true e = tt
    go false false false false true = tt
    go false false false false false = octets_take (first_size s - 6) (drop 6 s) (octets_drop 6 s o)

calls_bytes : (k : ℕ) (r : Record) (area s output : List ℕ) → Octets s → AllBytes (calls_from k r area s output)
unfolding calls_from AllBytes behind
calls_bytes zero r area s output o = tt
calls_bytes (suc k) r area s output o =
    go (ltb (length s) 6)
    (calls_bytes k (call_of r area c).state (call_of r area c).area (behind s) (output_after c (host_sees (call_of r area c)) output) (octets_drop (first_size s) s o))
  where
    c : HostCall
    c = call_in s output

    cs : List HostCall
    cs = calls_from k (call_of r area c).state (call_of r area c).area (behind s) (output_after c (host_sees (call_of r area c)) output)

    go : (b : Bool) → AllBytes cs → AllBytes (cond b [] (c ∷ cs))
    go true rest = tt
    go false rest = (call_bytes s output o, rest)

pieces_bytes : (r : Record) (area s output : List ℕ) → Octets s → AllBytes (calls_in r area s output)
unfolding calls_in
pieces_bytes r area s output o = calls_bytes (length s) r area s output o

-- the calls are those by the rules
calls_ruled : (k : ℕ) (d : Device) (h : Held) (s output : List ℕ) → GoodAt d h → Octets s
    → calls_from k (record_with d h) (area_with h) s output ≡ ruled_from k d h s output
unfolding calls_from ruled_from behind run_calls AllBytes last_output
calls_ruled zero d h s output good o = refl
calls_ruled (suc k) d h s output good o =
    let c = call_in s output in
    let one = c ∷ [] in
    let b : AllBytes one = (call_bytes s output o, tt) in
    let w = as_rules d h one good b in
    let seen = call_of (record_with d h) (area_with h) c in
    let lent : output_after c (host_sees seen) output ≡ last_output output one (host_told d h one) = ap (last_output output one) w.sees in
    let ih = calls_ruled k (by_rules d h one).0 (bytes_waiting d h one) (behind s) (last_output output one (host_told d h one)) (as_good d h one good b) (octets_drop (first_size s) s o) in
    let same : calls_from k seen.state seen.area (behind s) (output_after c (host_sees seen) output)
    ≡ ruled_from k (by_rules d h one).0 (bytes_waiting d h one) (behind s) (last_output output one (host_told d h one)) =
    rw (w.state, w.area, lent) ih in
    ap (λ (cs : List HostCall). cond (ltb (length s) 6) [] (c ∷ cs)) same

chained : (d : Device) (h : Held) (s output : List ℕ) → GoodAt d h → Octets s
    → script_of (record_with d h) (area_with h) s output ≡ ruled_script d h s output
unfolding script_of calls_in end_of ruled_end
chained d h s output good o =
    let r = record_with d h in
    let same = calls_ruled (length s) d h s output good o in
    let b : AllBytes (ruled_calls d h s output) = rw same at (calls_bytes (length s) r (area_with h) s output o) in
    let w = as_rules d h (ruled_calls d h s output) good b in
    rw (same, w.state, w.area, w.sees) refl

script_fresh : (reading : ℕ) (s output : List ℕ) → Octets s
    → script_of (fresh_state reading) (zeros area_bytes) s output ≡ ruled_script (fresh_of reading) none_held s output
script_fresh reading s output o = rw (fresh_state_lem reading, fresh_area) (chained (fresh_of reading) none_held s output (fresh_good reading) o)

module _ (r : Record) (area s output : List ℕ) (w : Kept r area) (o : Octets s) where
  record_again : record_with r.device (held_in r area) ≡ r
  record_again = whole_state r (counts_of (held_in r area) 8) (kept_counts r area w)

  script_later : script_of r area s output ≡ ruled_script r.device (held_in r area) s output
  script_later =
      let q = chained r.device (held_in r area) s output (kept_good r area w) o in
      rw (record_again, kept_area r area w) at q

  calls_later : calls_in r area s output ≡ ruled_calls r.device (held_in r area) s output
  unfolding calls_in
  calls_later =
      let q = calls_ruled (length s) r.device (held_in r area) s output (kept_good r area w) o in
      rw (record_again, kept_area r area w) at q

value_read : (kind n value : ℕ) (more : List ℕ) → value < 4294967296 → be32_at (kind ∷ n ∷ (bytes32 value ++ more)) 2 ≡ value
unfolding be32_at bytes32
value_read kind n value more v = be32_bytes value v

asked : (kind n value : ℕ) (more output : List ℕ) → kind ≤ 3 → value < 4294967296
    → FirstIs (kind ∷ n ∷ (bytes32 value ++ more)) output (call_by kind n value [] output) more
unfolding call_in behind first_size bytes32
asked kind n value more output k v =
    record { call = rw (le-leb kind 3 k, value_read kind n value more v) refl; rest = rw (le-leb kind 3 k) refl }

size_of_lem : (kind n : ℕ) (piece more : List ℕ) → 3 < kind → length piece < 4294967296
    → first_size (kind ∷ n ∷ (bytes32 (length piece) ++ (piece ++ more))) ≡ 6 + length piece
unfolding first_size bytes32
size_of_lem kind n piece more k v =
    let s = kind ∷ n ∷ (bytes32 (length piece) ++ (piece ++ more)) in
    let w : be32_at s 2 ≡ length piece = value_read kind n (length piece) (piece ++ more) v in
    let f : 6 + be32_at s 2 ≤ length s = omega (arith, w, length-append piece more) in
    rw (lt-leb kind 3 k, le-ltb (length s) (6 + be32_at s 2) f) (ap (λ (x : ℕ). 6 + x) w)

sent : (kind n : ℕ) (piece more output : List ℕ) → 3 < kind → length piece < 4294967296
    → FirstIs (kind ∷ n ∷ (bytes32 (length piece) ++ (piece ++ more))) output (sent_by kind n piece output) more
unfolding call_in behind bytes32
sent kind n piece more output k v =
    record {
      call = rw (sized, less, take-append_seam piece more, is_sent kind n (be32_at s 2) piece output k) refl;
      rest = rw (sized, six) (drop-append_seam piece more);
    }
  where
    s : List ℕ
    s = kind ∷ n ∷ (bytes32 (length piece) ++ (piece ++ more))

    sized : first_size s ≡ 6 + length piece
    sized = size_of_lem kind n piece more k v

    less : 6 + length piece - 6 ≡ length piece
    less = omega arith

    six : 6 + length piece ≡ suc (suc (suc (suc (suc (suc (length piece))))))
    six = omega arith

a_datagram : (n : ℕ) (piece more output : List ℕ) → length piece < 4294967296
    → FirstIs (4 ∷ n ∷ (bytes32 (length piece) ++ (piece ++ more))) output (ask (datagram piece)) more
a_datagram n piece more output v =
    let w = sent 4 n piece more output (omega arith) v in
    record { call = w.call ∙ is_datagram 4 n piece output refl; rest = w.rest }

delivered : (kind n : ℕ) (piece more output : List ℕ) → 4 < kind → length piece < 4294967296
    → FirstIs (kind ∷ n ∷ (bytes32 (length piece) ++ (piece ++ more))) output (deliver n piece output) more
delivered kind n piece more output k v =
    let w = sent kind n piece more output (omega arith) v in
    record { call = w.call ∙ is_deliver kind n piece output (omega arith); rest = w.rest }

pub scripts_run : ScriptsRun
scripts_run = record { fresh = script_fresh; later = script_later; calls = calls_later; pieces = pieces_bytes; asks = asked; datagrams = a_datagram; deliveries = delivered }

-- CallsKeep: from a fresh record and a zeroed area, every call leaves what refusals 1 and 2 let pass. Assumes nothing.
use Prim.Native.Nat.{ℕ, zero, suc, ◌-◌}
use mathlib.Core.Path.{◌≡◌, refl, sym, ap, ◌∙◌}
use mathlib.Core.List.{List, ◌++◌}
use native.Mathlib.Omega.{arith}
use lib.ListN.{length}
use borrow.Author.Tests.{eq-eqb}
use Rattle.octets.specs.Numbers.{Octets}
use Rattle.octets.specs.Zeros.{zeros}
use Rattle.frame.proofs.Bytes.{nil_waits}
use Rattle.area.specs.Area.{part_bytes, area_bytes}
use Rattle.device.specs.State.{fresh_of}
use Rattle.device.specs.declared.Device.{Device}
use Rattle.stream.specs.Calls.{deliver, ask, Held, none_held, Bytes}
use Rattle.stream.specs.Scaffold.{Answer, step}
use Rattle.stream.specs.Lent.{part_holding, flat, counts_of}
use Rattle.stream.proofs.Bytes.{octets_nil, octets_append}
use Rattle.stream.proofs.Stream.{step_good}
use Rattle.stream.proofs.Lent.{length_counted, flat_none, counted_none}
use Rattle.endpoint.specs.State as states
use Rattle.endpoint.specs.State.{state_of, fresh_state}
use Rattle.endpoint.specs.Outcome.{Outcome}
use Rattle.endpoint.specs.Calls.{cleared_area}
use Rattle.endpoint.specs.declared.Record.{Record}
use Rattle.promise.specs.Rulebook.{Given, rule, open?, admit, shut, Fine}
use Rattle.promise.specs.Calls.{HostCall, call_of, record_with, area_with}
use Rattle.promise.specs.Scaffold.{outcome_of}
use Rattle.promise.specs.Kept.{held_in, Kept, CallsKeep}
use Rattle.promise.proofs.OpenConnections.{GoodAt, record_obeys_lem}
use Rattle.promise.proofs.Deliveries.{area_sound_lem}
use Rattle.promise.proofs.Calls.{told}
use Rattle.promise.proofs.DeviceLaws.{fine_fresh, device_laws}
use Rattle.promise.proofs.HeldBytes.{kept_good, kept_counts, kept_area}

-- ---- bytes in the area

octets_zeros : (n : ℕ) → Octets (zeros n)
unfolding zeros
octets_zeros zero i = omega arith
octets_zeros (suc n) zero = omega arith
octets_zeros (suc n) (suc i) = octets_zeros n i

octets_flat : (h : Held) (n : ℕ) → ((k : ℕ) → Octets (h k)) → Octets (flat h n)
unfolding flat part_holding
octets_flat h zero f = octets_nil
octets_flat h (suc n) f = octets_append (flat h n) (h n ++ zeros (part_bytes - length (h n))) (octets_flat h n f) (octets_append (h n) (zeros (part_bytes - length (h n))) (f n) (octets_zeros (part_bytes - length (h n))))

-- a good device with bytes held is such a record and area
good_kept : (d : Device) (h : Held) → GoodAt d h → Kept (record_with d h) (area_with h)
good_kept d h good =
    record {
      obeys = record_obeys_lem d h good;
      sound = area_sound_lem d h good;
      eight = good.fine.eight;
      counts = length_counted h 8;
      octets = octets_flat h 8 good.octets;
    }

-- what a call is to give keeps
state_told : (c : HostCall) (d : Device) (h : Held) (a : Answer Given) → ((outcome_of c d h a).state ≡ record_with d h) × ((outcome_of c d h a).area ≡ flat h 8)
unfolding outcome_of
state_told (deliver n p out) d h Answer.more = (refl, refl)
state_told (deliver n p out) d h (Answer.denied q) = (refl, refl)
state_told (deliver n p out) d h (Answer.gave k o) = (refl, refl)
state_told (ask a) d h Answer.more = (refl, refl)
state_told (ask a) d h (Answer.denied q) = (refl, refl)
state_told (ask a) d h (Answer.gave k o) = (refl, refl)

module _ (d : Device) (h : Held) (good : GoodAt d h) (c : HostCall) (b : Bytes c) where
  pub next : GoodAt (step rule open? admit d h c).0.0 (step rule open? admit d h c).0.1
  next = step_good rule open? admit shut Fine device_laws d h c b good

  pub call_state : (call_of (record_with d h) (area_with h) c).state ≡ record_with (step rule open? admit d h c).0.0 (step rule open? admit d h c).0.1
  call_state = ap (λ (o : Outcome). o.state) (told d h good c) ∙ (state_told c (step rule open? admit d h c).0.0 (step rule open? admit d h c).0.1 (step rule open? admit d h c).1).0

  pub call_area : (call_of (record_with d h) (area_with h) c).area ≡ area_with (step rule open? admit d h c).0.1
  call_area = ap (λ (o : Outcome). o.area) (told d h good c) ∙ (state_told c (step rule open? admit d h c).0.0 (step rule open? admit d h c).0.1 (step rule open? admit d h c).1).1

  good_called : Kept (call_of (record_with d h) (area_with h) c).state (call_of (record_with d h) (area_with h) c).area
  good_called = rw (call_state, call_area) (good_kept (step rule open? admit d h c).0.0 (step rule open? admit d h c).0.1 next)

-- a record with its counts, put together again
pub whole_state : (r : Record) (held : List ℕ) → held ≡ r.held → state_of r.device held ≡ r
whole_state r held e = ap (state_of r.device) e

calling : (r : Record) (area : List ℕ) (c : HostCall) → Bytes c → Kept r area → Kept (call_of r area c).state (call_of r area c).area
calling r area c b w =
    let h = held_in r area in
    let q = good_called r.device h (kept_good r area w) c b in
    let e : state_of r.device (counts_of h 8) ≡ r = whole_state r (counts_of h 8) (kept_counts r area w) in
    rw (e, kept_area r area w) at q

-- ---- a fresh record

pub fresh_good : (reading : ℕ) → GoodAt (fresh_of reading) none_held
fresh_good reading =
    record {
      fine = fine_fresh reading;
      waiting = λ n. nil_waits;
      empty = λ n e. refl;
      octets = λ n. octets_nil;
    }

pub fresh_state_lem : (reading : ℕ) → fresh_state reading ≡ state_of (fresh_of reading) (counts_of none_held 8)
unfolding states.fresh_state
fresh_state_lem reading = ap (state_of (fresh_of reading)) (sym (counted_none 8))

pub fresh_area : zeros area_bytes ≡ flat none_held 8
fresh_area = sym (flat_none 8)

fresh_kept : (reading : ℕ) → Kept (fresh_state reading) (zeros area_bytes)
fresh_kept reading = rw (fresh_state_lem reading, fresh_area) (good_kept (fresh_of reading) none_held (fresh_good reading))

clear_zeros : (area : List ℕ) → length area ≡ area_bytes → cleared_area area ≡ zeros area_bytes
unfolding cleared_area
clear_zeros area e = rw (eq-eqb (length area) area_bytes e)

pub calls_keep : CallsKeep
calls_keep = record { fresh = fresh_kept; clearing = clear_zeros; calling = calling }

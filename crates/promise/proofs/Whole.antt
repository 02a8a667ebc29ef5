-- DemandThree: the real calls give what the rules give over whole messages. Assumes nothing.
use Prim.Native.Nat.{ℕ, zero, suc, ◌<◌}
use mathlib.Core.Path.{◌≡◌, refl, sym, ap, ◌∙◌}
use mathlib.Core.Bool.{Bool, cond, true, false, true≢false}
use mathlib.Core.List.{List, [], ◌∷◌, ◌++◌, map, append-nil, append_assoc}
use native.Mathlib.Omega.{arith}
use lib.ListN.{length, take, length-append}
use lib.Seq.{take-take, take-append_seam, length-take-le}
use Rattle.octets.specs.Zeros.{zeros}
use Rattle.frame.specs.Decide.{decide, taken, settled}
use Rattle.frame.proofs.Ways.{deciding}
use Rattle.frame.proofs.Bytes.{part_waits, beyond}
use Rattle.split.specs.Exactly.{LastDecides}
use Rattle.area.specs.Area.{area_bytes}
use Rattle.device.specs.State.{fresh_of}
use Rattle.device.specs.declared.Device.{Device}
use Rattle.stream.specs.Calls.{deliver, ask, handed, asked, Held, none_held, put, only, rules, Bytes, AllBytes}
use Rattle.stream.specs.Scaffold.{Answer, whole, delivered, step}
use Rattle.stream.specs.Lent.{counts_of}
use Rattle.endpoint.specs.State.{fresh_state, state_of}
use Rattle.endpoint.specs.Outcome.{Outcome}
use Rattle.endpoint.specs.declared.Record.{Record}
use Rattle.promise.specs.Rulebook.{Given, rule, open?, admit}
use Rattle.promise.specs.Calls.{HostCall, call_of, run_calls, record_with, area_with}
use Rattle.promise.specs.Scaffold.{outcome_of}
use Rattle.promise.specs.Kept.{held_in, Kept}
use Rattle.promise.specs.Whole.{up_to, Turn, tells, hands, turn_by, turn_of, device_by, turns_of, wholes_in, with_bytes, told_in, host_sees, AllEndDeciding, fronts_of, by_rules, bytes_waiting, left_after, AsRules, DemandThree}
use Rattle.promise.proofs.OpenConnections.{GoodAt, only_same}
use Rattle.promise.proofs.Calls.{told}
use Rattle.promise.proofs.HeldBytes.{kept_good, kept_counts, kept_area}
use Rattle.promise.proofs.Kept.{next, call_state, call_area, whole_state, fresh_good, fresh_state_lem, fresh_area}

-- ---- byte by byte is what the bytes decide at once

pub up_waits : (bytes piece : List ℕ) → settled (decide (bytes ++ piece)) ≡ false → up_to bytes piece ≡ bytes ++ piece
unfolding up_to
up_waits bytes [] u = sym (append-nil bytes)
up_waits bytes (b ∷ piece) u =
    let a : (bytes ++ (b ∷ [])) ++ piece ≡ bytes ++ b ∷ piece = append_assoc bytes (b ∷ []) piece in
    let v : settled (decide ((bytes ++ (b ∷ [])) ++ piece)) ≡ false = rw a u in
    go (settled (decide (bytes ++ (b ∷ [])))) (part_waits (bytes ++ (b ∷ [])) piece v) (up_waits (bytes ++ (b ∷ [])) piece v ∙ a)
  where
    go : (t : Bool) → t ≡ false → up_to (bytes ++ (b ∷ [])) piece ≡ bytes ++ b ∷ piece
        → cond t (bytes ++ (b ∷ [])) (up_to (bytes ++ (b ∷ [])) piece) ≡ bytes ++ b ∷ piece
    go true e ih = absurd (true≢false e)
    go false e ih = ih

pub up_decides : (bytes piece : List ℕ) → settled (decide bytes) ≡ false → settled (decide (bytes ++ piece)) ≡ true
    → up_to bytes piece ≡ take (taken (decide (bytes ++ piece))) (bytes ++ piece)
unfolding up_to
up_decides bytes [] u e = absurd (true≢false (sym e ∙ ap (λ (x : List ℕ). settled (decide x)) (append-nil bytes) ∙ u))
up_decides bytes (b ∷ piece) u e =
    let a : (bytes ++ (b ∷ [])) ++ piece ≡ bytes ++ b ∷ piece = append_assoc bytes (b ∷ []) piece in
    go (settled (decide x)) refl (λ s. up_decides x piece s (rw a e))
  where
    x : List ℕ
    x = bytes ++ (b ∷ [])

    go : (t : Bool) → settled (decide x) ≡ t → (settled (decide x) ≡ false → up_to x piece ≡ take (taken (decide (x ++ piece))) (x ++ piece))
        → cond t x (up_to x piece) ≡ take (taken (decide (bytes ++ b ∷ piece))) (bytes ++ b ∷ piece)
    go true s ih =
        let k : taken (decide x) ≡ length x = omega (arith, beyond bytes (b ∷ []) u s, deciding.within x, length-append bytes (b ∷ [])) in
        let l : decide (x ++ piece) ≡ decide x = deciding.lasting x piece s in
        rw (← (append_assoc bytes (b ∷ []) piece), l, k) (sym (take-append_seam x piece))
    go false s ih = rw (← (append_assoc bytes (b ∷ []) piece)) (ih s)

-- the bytes taken end with the deciding one
pub ends : (xs : List ℕ) → settled (decide xs) ≡ true → LastDecides (take (taken (decide xs)) xs)
ends xs e =
    record {
      decided = ap settled (deciding.enough xs e) ∙ e;
      before = λ k l.
          let m : k < taken (decide xs) = omega (arith, length-take-le (taken (decide xs)) xs (deciding.within xs)) in
          rw (take-take k (taken (decide xs)) xs (omega arith)) (deciding.before xs k m);
    }

-- ---- a step of the machine over pieces is a turn

-- what the host is told of one turn
told_one : Device → Turn → Given
told_one d (tells g) = g
told_one d (hands k w) = with_bytes k w (rule d w).1

record Turned (d : Device) (c : HostCall) (t : Turn × Held) (s : (Device × Held) × Answer Given) : Type 0 where
  device : device_by d t.0 ≡ s.0.0
  held : only (open? (device_by d t.0)) t.1 ≡ s.0.1
  sees : host_sees (outcome_of c s.0.0 s.0.1 s.1) ≡ told_one d t.0
  messages : AllEndDeciding (wholes_in (t.0 ∷ []))

module _ (d : Device) (h : Held) (good : GoodAt d h) where
  one_delivery : (n : ℕ) (p out : List ℕ) (q : ℕ) (b : Bool) → settled (decide (h n ++ p)) ≡ b
      → GoodAt (delivered rule open? admit q b d h n p out).0.0 (delivered rule open? admit q b d h n p out).0.1
      → Turned d (deliver n p out) (turn_by q (settled (decide (up_to (h n) p))) h n (up_to (h n) p) p out) (delivered rule open? admit q b d h n p out)
  unfolding delivered turn_by device_by whole outcome_of told_one with_bytes wholes_in AllEndDeciding
  one_delivery n p out (suc q) b e g = record { device = refl; held = only_same (open? d) h g.empty; sees = refl; messages = tt }
  one_delivery n p out zero false e g =
      rw (up_waits (h n) p e, e)
      record { device = refl; held = only_same (open? d) (put h n (h n ++ p)) g.empty; sees = refl; messages = tt }
  one_delivery n p out zero true e g =
      let xs = h n ++ p in
      let m = ends xs e in
      rw (up_decides (h n) p (good.waiting n) e, m.decided, length-take-le (taken (decide xs)) xs (deciding.within xs))
      record { device = refl; held = refl; sees = refl; messages = (m, tt) }

  one : (c : HostCall) → Bytes c → Turned d c (turn_of d h c) (step rule open? admit d h c)
  unfolding step turn_of
  one (deliver n p out) b = one_delivery n p out (admit d n out) (settled (decide (h n ++ p))) refl (next d h good (deliver n p out) b)
  one (ask a) b =
      unfold whole device_by outcome_of told_one with_bytes wholes_in AllEndDeciding in
      record { device = refl; held = refl; sees = refl; messages = tt }

-- ---- turn after turn

module _ (d : Device) (turns : List Turn) where
  turn_device : (t : Turn) → (rules rule d (wholes_in (t ∷ turns))).0 ≡ (rules rule (device_by d t) (wholes_in turns)).0
  unfolding rules wholes_in device_by
  turn_device (tells g) = refl
  turn_device (hands k w) = refl

  turn_told : (t : Turn) → told_in (t ∷ turns) (rules rule d (wholes_in (t ∷ turns))).1 ≡ told_one d t ∷ told_in turns (rules rule (device_by d t) (wholes_in turns)).1
  unfolding rules wholes_in told_in device_by told_one
  turn_told (tells g) = refl
  turn_told (hands k w) = refl

  turn_messages : (t : Turn) → AllEndDeciding (wholes_in (t ∷ [])) → AllEndDeciding (wholes_in turns) → AllEndDeciding (wholes_in (t ∷ turns))
  unfolding wholes_in AllEndDeciding
  turn_messages (tells g) p q = q
  turn_messages (hands k (handed n m out)) p q = (p.0, q)
  turn_messages (hands k (asked a)) p q = q

-- the record and the area that a call gives
abbrev standing : Outcome → Record × List ℕ
standing o = (o.state, o.area)

module _ (d : Device) (h : Held) (c : HostCall) (cs : List HostCall) where
  abbrev turned : Turn × Held
  turned = turn_of d h c

  abbrev then_device : Device
  then_device = device_by d turned.0

  abbrev then_held : Held
  then_held = only (open? then_device) turned.1

  -- what is left after c and some calls is what those leave where c left off
  left_cons : (front : List HostCall) → left_after then_device then_held front ≡ left_after d h (c ∷ front)
  unfolding turns_of
  left_cons front =
      let g = (turns_of then_device then_held front).1 in
      ap (λ (e : Device). (record_with e g, area_with g)) (sym (turn_device d (turns_of then_device then_held front).0 turned.0))

  fronts_cons : (fronts : List (List HostCall))
      → map (left_after then_device then_held) fronts ≡ map (left_after d h) (map (λ (front : List HostCall). c ∷ front) fronts)
  fronts_cons [] = refl
  fronts_cons (front ∷ fronts) = rw (fronts_cons fronts) (ap (λ (x : Record × List ℕ). x ∷ map (left_after d h) (map (λ (f : List HostCall). c ∷ f) fronts)) (left_cons front))

  as_cons : (o : Outcome) (run : (Record × List ℕ) × List Outcome) → host_sees o ≡ told_one d turned.0
      → (o.state, o.area) ≡ left_after d h (c ∷ []) → AllEndDeciding (wholes_in (turned.0 ∷ [])) → AsRules then_device then_held cs run
      → AsRules d h (c ∷ cs) (run.0, o ∷ run.1)
  unfolding turns_of fronts_of
  as_cons o run p l m ih =
      let turns = (turns_of then_device then_held cs).0 in
      let x = turn_device d turns turned.0 in
      record {
        sees = ap (λ (y : Given). y ∷ map host_sees run.1) p ∙ ap (λ (l : List Given). told_one d turned.0 ∷ l) ih.sees ∙ sym (turn_told d turns turned.0);
        each = ap (λ (y : Record × List ℕ). y ∷ map standing run.1) l
            ∙ ap (λ (ys : List (Record × List ℕ)). left_after d h (c ∷ []) ∷ ys) (ih.each ∙ fronts_cons (fronts_of cs));
        state = ih.state ∙ ap (λ (e : Device). record_with e (turns_of then_device then_held cs).1) (sym x);
        area = ih.area;
        undecided = ih.undecided;
        closed = λ n z. ih.closed n (ap (λ (e : Device). open? e n) (sym x) ∙ z);
        messages = turn_messages d turns turned.0 m ih.messages;
      }

  good_cons : GoodAt (by_rules then_device then_held cs).0 (bytes_waiting then_device then_held cs)
      → GoodAt (by_rules d h (c ∷ cs)).0 (bytes_waiting d h (c ∷ cs))
  unfolding turns_of
  good_cons g = rw (turn_device d (turns_of then_device then_held cs).0 turned.0) g

-- one call leaves what the rules leave
one_left : (d : Device) (h : Held) (good : GoodAt d h) (c : HostCall) → Bytes c
    → let o = call_of (record_with d h) (area_with h) c in
    (o.state, o.area) ≡ left_after d h (c ∷ [])
one_left d h good c b =
    let s = step rule open? admit d h c in
    let w = one d h good c b in
    let e = then_device d h c [] in
    let g = then_held d h c [] in
    rw (call_state d h good c b, call_area d h good c b, ← w.device, ← w.held) (none e g ∙ left_cons d h c [] [])
  where
    none : (e : Device) (g : Held) → (record_with e g, area_with g) ≡ left_after e g []
    none e g = unfold turns_of rules wholes_in in refl

-- THE RUN, from any good state
pub as_rules : (d : Device) (h : Held) (calls : List HostCall) → GoodAt d h → AllBytes calls
    → AsRules d h calls (run_calls (record_with d h) (area_with h) calls)
unfolding run_calls AllBytes
as_rules d h [] good b =
    unfold turns_of rules wholes_in told_in AllEndDeciding fronts_of in
    record { sees = refl; each = refl; state = refl; area = refl; undecided = good.waiting; closed = good.empty; messages = tt }
as_rules d h (c ∷ cs) good b =
    let s = step rule open? admit d h c in
    let w = one d h good c b.0 in
    let o = call_of (record_with d h) (area_with h) c in
    let ih = as_rules s.0.0 s.0.1 cs (next d h good c b.0) b.1 in
    as_cons d h c cs o (run_calls o.state o.area cs) (ap host_sees (told d h good c) ∙ w.sees) (one_left d h good c b.0) w.messages
    (rw (w.held, w.device, call_state d h good c b.0, call_area d h good c b.0) ih)

-- and the rules' device with the bytes that wait is again such a state
pub as_good : (d : Device) (h : Held) (calls : List HostCall) → GoodAt d h → AllBytes calls → GoodAt (by_rules d h calls).0 (bytes_waiting d h calls)
unfolding AllBytes
as_good d h [] good b = unfold turns_of rules wholes_in in good
as_good d h (c ∷ cs) good b =
    let s = step rule open? admit d h c in
    let w = one d h good c b.0 in
    good_cons d h c cs (rw (w.held, w.device) (as_good s.0.0 s.0.1 cs (next d h good c b.0) b.1))

-- ---- from a fresh record, and from any that refusals 1 and 2 let pass

as_fresh : (reading : ℕ) (calls : List HostCall) → AllBytes calls
    → AsRules (fresh_of reading) none_held calls (run_calls (fresh_state reading) (zeros area_bytes) calls)
as_fresh reading calls b = rw (fresh_state_lem reading, fresh_area) (as_rules (fresh_of reading) none_held calls (fresh_good reading) b)

as_later : (r : Record) (area : List ℕ) (calls : List HostCall) → Kept r area → AllBytes calls
    → AsRules r.device (held_in r area) calls (run_calls r area calls)
as_later r area calls w b =
    let h = held_in r area in
    let q = as_rules r.device h calls (kept_good r area w) b in
    let e : state_of r.device (counts_of h 8) ≡ r = whole_state r (counts_of h 8) (kept_counts r area w) in
    rw (e, kept_area r area w) at q

-- a run goes on from what it left
pub goes_on : (r : Record) (area : List ℕ) (calls more : List HostCall)
    → let run = run_calls r area calls in
    let rest = run_calls run.0.0 run.0.1 more in
    run_calls r area (calls ++ more) ≡ (rest.0, run.1 ++ rest.1)
unfolding run_calls
goes_on r area [] more = refl
goes_on r area (c ∷ calls) more =
    let o = call_of r area c in
    ap (λ (t : (Record × List ℕ) × List Outcome). (t.0, o ∷ t.1)) (goes_on o.state o.area calls more)

pub demand_three : DemandThree
demand_three = record { fresh = as_fresh; later = as_later; places = goes_on }

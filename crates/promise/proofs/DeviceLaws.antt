-- The device keeps the laws that the machine over pieces asks: for Calls, Kept and Ticks. Assumes nothing.
use Rattle.std.specs.Prelude.{Option, Some, None}
use Prim.Native.Nat.{ℕ, ◌^◌, ◌<◌}
use mathlib.Core.Path.{◌≡◌, refl, sym, ap, ◌∙◌}
use mathlib.Core.Bool.{Bool, cond, true, false, not, ◌&&◌}
use mathlib.Core.List.{List, map}
use native.Mathlib.Omega.{arith}
use lib.Dec.{ltb, eqb, leb}
use lib.ListN.{length, get_or, length-set, length-map, get_or-map}
use borrow.Author.Tests.{eqb-true}
use Rattle.laws.specs.Lists.{any, mask}
use Rattle.laws.proofs.Conds.{either}
use Rattle.octets.specs.Numbers.{Octets}
use Rattle.frame.specs.Decide.{decide, taken}
use Rattle.frame.specs.declared.Decision.{Decision}
use Rattle.frame.specs.declared.Decision.TheVariants.{Undecided, Faulty, Sound}
use Rattle.frame.specs.Scaffold.{SoundAt}
use Rattle.frame.proofs.Sounds.{sound_at}
use Rattle.mechanism.specs.Datagram.{resets}
use Rattle.connection.specs.State.{closed, opened, live_at, is_not_open, lowest_free, lowest_due}
use Rattle.connection.specs.Supervision.{closes_at, connection_ticked}
use Rattle.connection.specs.declared.Connection.{Connection}
use Rattle.connection.proofs.Keeps.{supervision_kept}
use Rattle.subscription.specs.State.{lowest_waiting}
use Rattle.device.specs.State.{Opened, fresh_of, open_of, close_of, sweep_of, sent_at, told_at}
use Rattle.device.specs.Time.{Ticked, step_of, tick_step, tick_of}
use Rattle.device.specs.declared.Device.{Device}
use Rattle.device.proofs.Keeps.{rules_kept}
use Rattle.serve.specs.Sound.{sound_of}
use Rattle.serve.proofs.Keeps.{sound_kept}
use Rattle.stream.specs.Calls.{handed, asked}
use Rattle.stream.specs.Scaffold.{Decides, Apt, Laws}
use Rattle.replies.specs.Bytes.{least_output}
use Rattle.taking.specs.Dispatch.{subscription_at, notified_of}
use Rattle.endpoint.proofs.States.{live_low}
use Rattle.promise.specs.Rulebook as rules
use Rattle.promise.specs.Rulebook.{opening, closing, ticking, taking, datagram, Asked, message_by, open_by, close_by, reset_by, rule, open?, admit, bit_of, shut, Fine}
use Rattle.promise.proofs.OpenConnections.{live_closed, live_gone, live_alike, live_sound, lives_sent, open_still, fresh_shut, lives_notified}
use Rattle.promise.proofs.Ways.{take_ways}
use Rattle.promise.proofs.Masks.{mask_bit}

pub admit_live : (d : Device) (n : ℕ) (out : List ℕ) → admit d n out ≡ 0 → live_at d.connections n ≡ true
unfolding admit
admit_live d n out e = go (live_at d.connections n) (ltb (length out) least_output) e
  where
    go : (l b : Bool) → cond {A = ℕ} l (cond b 4 0) 3 ≡ 0 → l ≡ true
    go true b e = refl
    go false b e = absurd (omega arith)

-- ---- keeps

length_open : (d : Device) → length (open_of d).device.connections ≡ length d.connections
unfolding open_of
length_open d =
    either (λ (o : Opened). length o.device.connections ≡ length d.connections) (any is_not_open d.connections) _ _
    (length-set d.connections (lowest_free d.connections) opened) refl

pub length_close : (d : Device) (n : ℕ) → length (close_of d n).connections ≡ length d.connections
unfolding close_of sweep_of
length_close d n = length-set d.connections n closed

pub length_tick : (d : Device) (reading : ℕ) → length (tick_of d reading).device.connections ≡ length d.connections
unfolding tick_step sweep_of
length_tick d reading =
    let step = step_of reading d.reading in
    either P (leb (2 ^ 31) step) _ _ refl (length-map d.connections (connection_ticked step))
  where
    P : Ticked → Type 0
    P t = length t.device.connections ≡ length d.connections

fine_closed : (d : Device) (n : ℕ) → Fine d → Fine (close_of d n)
fine_closed d n f = record { obeys = rules_kept.closing d n f.obeys; eight = length_close d n ∙ f.eight }

fine_sound : (d : Device) (n : ℕ) (m : List ℕ) → Fine d → Octets m → SoundAt m (length m) → live_at d.connections n ≡ true → Fine (sound_of d n m).device
fine_sound d n m f o w l = record { obeys = sound_kept.obeying d n m o w l f.obeys; eight = sound_kept.long d n m ∙ f.eight }

fine_sent : (d : Device) (n : ℕ) → Fine d → Fine (sent_at d n)
fine_sent d n f = record { obeys = rules_kept.sending d n f.obeys; eight = sound_kept.sent_long d n ∙ f.eight }

fine_told : (d : Device) (i : ℕ) → Fine d → Fine (told_at d i)
fine_told d i f = record { obeys = rules_kept.telling d i f.obeys; eight = sound_kept.told_long d i ∙ f.eight }

pub fine_fresh : (reading : ℕ) → Fine (fresh_of reading)
fine_fresh reading = record { obeys = rules_kept.fresh reading; eight = eight }
  where
    eight : length (fresh_of reading).connections ≡ 8
    eight = unfold fresh_of in refl

keeps_message : (d : Device) (n : ℕ) (m out : List ℕ) → Fine d → live_at d.connections n ≡ true → Decides m → Octets m
    → (x : Decision) → decide m ≡ x → Fine (message_by x d n m out).0
unfolding message_by taken
keeps_message d n m out f l w o Undecided e = f
keeps_message d n m out f l w o (Faulty fault t) e = fine_closed d n f
keeps_message d n m out f l w o (Sound t) e =
    let q : t ≡ length m = sym (ap taken e) ∙ w.exactly in
    fine_sound d n m f o (rw q at (sound_at m t e)) l

fine_notified : (d : Device) (i : ℕ) → Fine d → Fine (notified_of d i)
unfolding notified_of
fine_notified d i f = fine_sent (told_at d i) (subscription_at d i).connection (fine_told d i f)

keeps : (d : Device) (w : Asked) → Fine d → Apt admit d w → Fine (rule d w).0
unfolding rule open_by close_by rules.tick_by reset_by
keeps d (handed n m out) f a = keeps_message d n m out f (admit_live d n out a.0) a.1 a.2 (decide m) refl
keeps d (asked opening) f a = go (open_of d).answer
  where
    go : (x : Option ℕ) → Fine (open_by x d (open_of d).device).0
    go (Some i) = record { obeys = rules_kept.opening d f.obeys; eight = length_open d ∙ f.eight }
    go None = f
keeps d (asked (closing n)) f a = go (live_at d.connections n)
  where
    go : (b : Bool) → Fine (close_by b d n).0
    go true = fine_closed d n f
    go false = f
keeps d (asked (ticking reading)) f a = go (tick_of d reading).answer
  where
    go : (x : Option ℕ) → Fine (rules.tick_by x d (tick_of d reading).device).0
    go (Some m) = record { obeys = rules_kept.ticking d reading f.obeys; eight = length_tick d reading ∙ f.eight }
    go None = f
keeps d (asked (taking out)) f a =
    take_ways Fine d out (ltb (length out) least_output) f (fine_notified d (lowest_waiting d.subscriptions) f)
    (fine_sent d (lowest_due d.connections) f)
keeps d (asked (datagram g)) f a = go (resets d.mechanism g)
  where
    go : (b : Bool) → Fine (reset_by b d).0
    go true = fine_fresh d.reading
    go false = f

-- ---- tells

-- a tick that is not refused
closed_shape : (d : Device) (reading step m : ℕ) → (tick_step d reading step).answer ≡ Some m
    → ((tick_step d reading step).device.connections ≡ map (connection_ticked step) d.connections) × (mask (closes_at step) d.connections ≡ m)
unfolding tick_step sweep_of
closed_shape d reading step m =
    either P (leb (2 ^ 31) step) _ _ (λ q. absurd (let z : ◌≡◌ {A = ℕ} 0 1 = cc in omega arith)) (λ q. (refl, cc))
  where
    P : Ticked → Type 0
    P t =
        t.answer ≡ Some m
        → (t.device.connections ≡ map (connection_ticked step) d.connections) × (mask (closes_at step) d.connections ≡ m)

-- a closed connection stays closed
pub ticked_closed : (step : ℕ) → connection_ticked step closed ≡ closed
unfolding connection_ticked
ticked_closed step = refl

-- it closes exactly the connections whose bits it sets
closed_tells : (d : Device) (reading step m k : ℕ) → (tick_step d reading step).answer ≡ Some m → k < length d.connections → live_at d.connections k ≡ true
    → live_at (tick_step d reading step).device.connections k ≡ not (bit_of m k)
unfolding live_at
closed_tells d reading step m k e h l =
    let s = closed_shape d reading step m e in
    let c = get_or d.connections k closed in
    let g : get_or (map (connection_ticked step) d.connections) k closed ≡ connection_ticked step c =
    ap (λ (z : Connection). get_or (map (connection_ticked step) d.connections) k z) (sym (ticked_closed step)) ∙ get_or-map (connection_ticked step) d.connections k closed in
    let b : bit_of m k ≡ closes_at step c = rw (← s.1) (mask_bit (closes_at step) d.connections k closed h) in
    let r : (c.live && not (closes_at step c)) ≡ not (bit_of m k) = rw (l, b) in
    ap (λ (cs : List Connection). (get_or cs k closed).live) s.0 ∙ ap (λ (z : Connection). z.live) g ∙ supervision_kept.leaving step c ∙ r

tick_tells : (d : Device) (reading k : ℕ) → k < length d.connections → live_at d.connections k ≡ true → (x : Option ℕ) → (tick_of d reading).answer ≡ x
    → let s = rules.tick_by x d (tick_of d reading).device in
    live_at s.0.connections k ≡ not (cond (eqb (get_or s.1.answer 0 0) 0) (bit_of (get_or s.1.answer 1 0) k) false)
unfolding rules.tick_by
tick_tells d reading k h l None q = l
tick_tells d reading k h l (Some m) q = closed_tells d reading (step_of reading d.reading) m k q h l

-- the closure of connection c
close_tells : (d : Device) (c k : ℕ) → live_at d.connections k ≡ true → live_at (close_of d c).connections k ≡ not (eqb k c)
close_tells d c k l = go (eqb k c) refl
  where
    go : (b : Bool) → eqb k c ≡ b → live_at (close_of d c).connections k ≡ not b
    go true e = rw (eqb-true k c e) (live_gone d c)
    go false e = live_closed d c k e ∙ l

message_tells : (d : Device) (n : ℕ) (m out : List ℕ) (k : ℕ) → live_at d.connections k ≡ true → (x : Decision)
    → let s = message_by x d n m out in
    live_at s.0.connections k ≡ not (cond (eqb (get_or s.1.answer 1 0) 3) (eqb k n) false)
unfolding message_by
message_tells d n m out k l Undecided = l
message_tells d n m out k l (Faulty f t) = close_tells d n k l
message_tells d n m out k l (Sound t) = live_sound d n m k ∙ l

tells : (d : Device) (w : Asked) (k : ℕ) → Fine d → Apt admit d w → open? d k ≡ true → open? (rule d w).0 k ≡ not (shut w (rule d w).1 k)
unfolding rule shut open_by close_by reset_by
tells d (handed n m out) k f a l = message_tells d n m out k l (decide m)
tells d (asked opening) k f a l = go (open_of d).answer
  where
    go : (x : Option ℕ) → live_at (open_by x d (open_of d).device).0.connections k ≡ true
    go (Some i) = open_still d k l
    go None = l
tells d (asked (closing n)) k f a l = go (live_at d.connections n)
  where
    go : (b : Bool) → let s = close_by b d n in live_at s.0.connections k ≡ not (cond (eqb (get_or s.1.answer 0 0) 0) (eqb k n) false)
    go true = close_tells d n k l
    go false = l
tells d (asked (ticking reading)) k f a l = tick_tells d reading k (low f.eight) l (tick_of d reading).answer refl
  where
    low : length d.connections ≡ 8 → k < length d.connections
    low e = live_low d.connections k (length d.connections) l refl
tells d (asked (taking out)) k f a l =
    let i = lowest_waiting d.subscriptions in
    let n = lowest_due d.connections in
    take_ways (λ (x : Device). live_at x.connections k ≡ true) d out (ltb (length out) least_output) l
    (live_alike d (notified_of d i) k (lives_notified d i) ∙ l) (live_alike d (sent_at d n) k (lives_sent d n) ∙ l)
tells d (asked (datagram g)) k f a l = go (resets d.mechanism g)
  where
    go : (b : Bool) → let s = reset_by b d in live_at s.0.connections k ≡ not (eqb (get_or s.1.answer 1 0) 1)
    go true = fresh_shut d.reading k
    go false = l

-- THE DEVICE KEEPS THE LAWS
pub device_laws : Laws rule open? admit shut Fine
device_laws = record { keeps = keeps; tells = tells; admits = λ d c x f e. admit_live d c x e }

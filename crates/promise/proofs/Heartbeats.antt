-- HeartbeatSent: when a connection is due, and that the takes come to it. Assumes nothing.
use Prim.Native.Nat.{ℕ, zero, suc, ◌+◌, ◌*◌, ◌/◌, ◌%◌, ◌<◌, ◌≤◌}
use mathlib.Core.Path.{◌≡◌, refl, sym, ap, ◌∙◌}
use mathlib.Core.Logic.{⊎_elim, inl, inr}
use mathlib.Core.Bool.{Bool, true, false, cond, not, ◌&&◌, ◌||◌, and-false}
use mathlib.Core.List.{List, [], ◌∷◌}
use native.Mathlib.Omega.{arith}
use lib.Dec.{eqb, leb, ltb}
use lib.ListN.{length, get_or, set, take, length-set}
use lib.Seq.{get_or-set_same, get_or-set_other}
use borrow.Author.Tests.{eqb-true, eqb-false, eq-eqb, ne_eqb, le-ltb, ltb-true, ltb-false, not-true}
use Rattle.laws.specs.Lists.{any, index}
use Rattle.laws.proofs.Conds.{and_left, and_right}
use Rattle.laws.proofs.Tables.{and_both, or_cases, or_right, clash, any_index}
use Rattle.heartbeat.specs.Beat.{form_of, beat_of}
use Rattle.frame.specs.Header.{pdu_type}
use Rattle.frame.specs.Decide.{decide}
use Rattle.frame.specs.declared.Decision.TheVariants.{Sound}
use Rattle.area.specs.Area.{held_obeys}
use Rattle.connection.specs.State.{closed, live_at, is_due, lowest_due}
use Rattle.connection.specs.Obeys.{is_closed, is_idle, form_obeys, is_timed, connection_obeys}
use Rattle.connection.specs.Supervision.{closes_at, connection_ticked, heard_of, sent_of, heartbeat_kept}
use Rattle.connection.specs.declared.Connection.{Connection}
use Rattle.connection.specs.Setters.{counted}
use Rattle.connection.proofs.Keeps.{supervision_kept}
use Rattle.connection.proofs.Steps.{keeps_due, falls_due_lem, counts_on}
use Rattle.subscription.specs.State.{is_waiting, told_of, lowest_waiting}
use Rattle.subscription.specs.declared.Subscription.{Subscription}
use Rattle.replies.specs.Bytes.{keep_alive_bytes, notification_bytes, least_output}
use Rattle.device.specs.State.{heard_at, sent_at, told_at, lives_in}
use Rattle.device.specs.Obeys.{device_obeys}
use Rattle.device.specs.Run.{mute_at}
use Rattle.device.specs.declared.Device.{Device}
use Rattle.device.proofs.Keeps.{rules_kept}
use Rattle.serve.specs.Sound.{sound_of}
use Rattle.stream.specs.Calls.{ask}
use Rattle.endpoint.specs.State.{state_of, record_obeys}
use Rattle.endpoint.specs.Calls.{tick_call}
use Rattle.delivery.specs.Intake.{messaged, delivered_by, taken_in}
use Rattle.endpoint.specs.Deliver.{deliver_call}
use Rattle.taking.specs.Dispatch.{subscription_at, notified_of, notifying, reminding, taken_by}
use Rattle.endpoint.specs.Take.{take_call, with_dispatch}
use Rattle.endpoint.specs.declared.Record.{Record}
use Rattle.endpoint.proofs.States.{live_low}
use Rattle.taking.proofs.Takes.{connection_obeys_lem}
use Rattle.promise.specs.Rulebook.{ticking}
use Rattle.promise.specs.Calls.{call_of}
use Rattle.promise.specs.Kept.{Kept}
use Rattle.promise.specs.Ticks.{step_at, passes}
use Rattle.promise.specs.Heartbeats.{Paced, open_after, open_at_last, brought_by, is_unanswered, Ready, Reminds, SendsTo, count, something_waits, waiting_in, takes_call, HeartbeatSent, ticks_call, all_pass, ticks_time, SentWithin, PacedTicks, DueTicks, ReadyTake, Roomy}
use Rattle.promise.proofs.OpenConnections.{lives_sent, lives_told}
use Rattle.promise.proofs.Ways.{delivery_ways}
use Rattle.promise.proofs.Kept.{calls_keep}
use Rattle.promise.proofs.Ticks.{connection_after, entries_after, moved}

-- a connection with other counts
paced_as : (d e : Device) (n H q : ℕ) (b : Bool) → Paced d n H q b → (s q' : ℕ) (b' : Bool) → get_or e.connections n closed ≡ counted (get_or d.connections n closed) s q' b' → Paced e n H q' b'
unfolding live_at
paced_as d e n H q b w s q' b' f =
    record {
      live = ap (λ (x : Connection). x.live) f ∙ w.live;
      above = w.above;
      beat = ap (λ (x : Connection). x.beat) f ∙ w.beat;
      counted = ap (λ (x : Connection). x.quiet) f;
      marked = ap (λ (x : Connection). x.due) f;
    }

-- ---- a tick that leaves connection n open
-- connection n of the record
abbrev connection_at : Record → ℕ → Connection
connection_at r n = get_or r.device.connections n closed

module _ (r : Record) (area : List ℕ) (reading : ℕ) (p : passes r area reading ≡ true) (n : ℕ) (o : open_after r area reading n ≡ true) where
  was : ((connection_at r n).live && not (closes_at (step_at r reading) (connection_at r n))) ≡ true
  unfolding live_at
  was = sym (supervision_kept.leaving (step_at r reading) (connection_at r n)) ∙ sym (ap (λ (x : Connection). x.live) (connection_after r area reading p n)) ∙ o

  was_open : live_at r.device.connections n ≡ true
  unfolding live_at
  was_open = and_left (connection_at r n).live (not (closes_at (step_at r reading) (connection_at r n))) was

  stays : closes_at (step_at r reading) (connection_at r n) ≡ false
  stays = not-true (closes_at (step_at r reading) (connection_at r n)) (and_right (connection_at r n).live (not (closes_at (step_at r reading) (connection_at r n))) was)

  module _ (H q : ℕ) (b : Bool) (w : Paced r.device n H q b) where
    beats : eqb (connection_at r n).beat 0 ≡ false
    beats = rw w.beat (ne_eqb H 0 (λ z. omega (arith, w.above)))

    paced : (s q' : ℕ) (b' : Bool) → connection_ticked (step_at r reading) (connection_at r n) ≡ counted (connection_at r n) s q' b' → Paced (tick_call r area reading).state.device n H q' b'
    paced s q' b' e = paced_as r.device (tick_call r area reading).state.device n H q b w s q' b' (connection_after r area reading p n ∙ e)

  due : (H q : ℕ) → Paced r.device n H q false → H ≤ q + step_at r reading → Paced (tick_call r area reading).state.device n H 0 true
  due H q w h =
      paced H q false w ((connection_at r n).silence + step_at r reading) 0 true
      (falls_due_lem (step_at r reading) (connection_at r n) (beats H q false w) stays w.marked (omega (arith, w.beat, w.counted)))

  counts : (H q : ℕ) → Paced r.device n H q false → q + step_at r reading < H → Paced (tick_call r area reading).state.device n H (q + step_at r reading) false
  counts H q w h =
      rw w.counted at
      (paced H q false w ((connection_at r n).silence + step_at r reading) ((connection_at r n).quiet + step_at r reading) false
      (counts_on (step_at r reading) (connection_at r n) (beats H q false w) stays w.marked (omega (arith, w.beat, w.counted))))

  stays_due_lem : (H q : ℕ) → Paced r.device n H q true → Paced (tick_call r area reading).state.device n H q true
  stays_due_lem H q w =
      rw w.counted at
      (paced H q true w ((connection_at r n).silence + step_at r reading) (connection_at r n).quiet true
      (keeps_due (step_at r reading) (connection_at r n) (beats H q true w) stays w.marked))

-- ---- ticks one after another
-- who is open at last was open before
pub open_before : (r : Record) (area readings : List ℕ) (n : ℕ) → all_pass r area readings ≡ true → open_at_last r area readings n ≡ true → live_at r.device.connections n ≡ true
unfolding ticks_call all_pass
open_before r area [] n p o = o
open_before r area (x ∷ rest) n p o =
    was_open r area x (and_left (passes r area x) _ p) n
    (open_before (tick_call r area x).state (tick_call r area x).area rest n (and_right (passes r area x) _ p) o)

many : (r : Record) (area readings : List ℕ) (n H q : ℕ) → PacedTicks r area readings n H q → q + ticks_time r.device.reading readings < H
    → Paced (ticks_call r area readings).0.device n H (q + ticks_time r.device.reading readings) false
unfolding ticks_call all_pass ticks_time
many r area [] n H q w l = let e : q + 0 ≡ q = omega arith in rw e w.paced
many r area (x ∷ rest) n H q w l =
    let a = and_left (passes r area x) _ w.passing in
    let b = and_right (passes r area x) _ w.passing in
    let r' = (tick_call r area x).state in
    let y = open_before r' (tick_call r area x).area rest n b w.stays in
    let m : r'.device.reading ≡ x = moved r area x a in
    let v = counts r area x a n y H q w.paced (omega arith) in
    let e : q + step_at r x + ticks_time r'.device.reading rest ≡ q + (step_at r x + ticks_time x rest) = rw m (omega arith) in
    rw e at (many r' (tick_call r area x).area rest n H (q + step_at r x) (record { paced = v; passing = b; stays = w.stays }) (rw e l))

all_due : (r : Record) (area readings : List ℕ) (n H q : ℕ) → Paced r.device n H q true → all_pass r area readings ≡ true → open_at_last r area readings n ≡ true
    → Paced (ticks_call r area readings).0.device n H q true
unfolding ticks_call all_pass
all_due r area [] n H q w p o = w
all_due r area (x ∷ rest) n H q w p o =
    let a = and_left (passes r area x) _ p in
    let b = and_right (passes r area x) _ p in
    let y = open_before (tick_call r area x).state (tick_call r area x).area rest n b o in
    all_due (tick_call r area x).state (tick_call r area x).area rest n H q (stays_due_lem r area x a n y H q w) b o

due_by_then_lem : (r : Record) (area readings : List ℕ) (n H q : ℕ) → DueTicks r area readings n H q → Paced (ticks_call r area readings).0.device n H 0 true
unfolding ticks_call all_pass ticks_time
due_by_then_lem r area [] n H q w = absurd (omega (arith, w.below, w.reaches))
due_by_then_lem r area (x ∷ rest) n H q w =
    go (ltb (q + step_at r x) H) refl
    (λ v h.
    due_by_then_lem (tick_call r area x).state (tick_call r area x).area rest n H (q + step_at r x)
    (record { ticks = record { paced = v; passing = b; stays = w.ticks.stays }; below = h; reaches = rw e w.reaches }))
  where
    a : passes r area x ≡ true
    a = and_left (passes r area x) _ w.ticks.passing

    r' : Record
    r' = (tick_call r area x).state

    b : all_pass r' (tick_call r area x).area rest ≡ true
    b = and_right (passes r area x) _ w.ticks.passing

    y : live_at r'.device.connections n ≡ true
    y = open_before r' (tick_call r area x).area rest n b w.ticks.stays

    e : q + step_at r x + ticks_time r'.device.reading rest ≡ q + (step_at r x + ticks_time x rest)
    e = rw (moved r area x a) (omega arith)

    go : (t : Bool) → ltb (q + step_at r x) H ≡ t
        → (Paced r'.device n H (q + step_at r x) false → q + step_at r x < H → Paced (ticks_call r' (tick_call r area x).area rest).0.device n H 0 true)
        → Paced (ticks_call r' (tick_call r area x).area rest).0.device n H 0 true
    go true t more = let h = ltb-true (q + step_at r x) H t in more (counts r area x a n y H q w.ticks.paced h) h
    go false t more = all_due r' (tick_call r area x).area rest n H 0 (due r area x a n y H q w.ticks.paced (ltb-false (q + step_at r x) H t)) b w.ticks.stays

-- ---- the form and the H of a connection that obeys
closed_not : (c : Connection) → eqb c.beat 0 ≡ false → is_closed c ≡ false
unfolding is_closed
closed_not c z = simp (z, and-false)

idle_not : (c : Connection) → eqb c.beat 0 ≡ false → is_idle c ≡ false
unfolding is_idle
idle_not c z = simp z

formed : (c : Connection) → connection_obeys c ≡ true → eqb c.beat 0 ≡ false → form_obeys c ≡ true
unfolding connection_obeys is_timed
formed c h z =
    let a : (c.live && (is_idle c || is_timed c)) ≡ true = rw (closed_not c z) at h in
    let b : is_timed c ≡ true = rw (idle_not c z) at (and_right c.live (is_idle c || is_timed c) a) in
    and_right (not (eqb c.beat 0) && ltb c.silence (3 * c.beat) && ltb c.quiet c.beat && (not c.due || eqb c.quiet 0)) (form_obeys c) b

told_form : (c : Connection) → form_obeys c ≡ true → (form_of (heartbeat_kept c) ≡ c.form) × (beat_of (heartbeat_kept c) ≡ c.beat)
unfolding form_obeys heartbeat_kept form_of beat_of
told_form c h =
    ⊎_elim
    (λ (s : eqb c.form 1 && eqb (c.beat % 1000) 0 && leb c.beat 65535000 ≡ true).
    let s1 = and_left (eqb c.form 1 && eqb (c.beat % 1000) 0) (leb c.beat 65535000) s in
    let f = eqb-true c.form 1 (and_left (eqb c.form 1) (eqb (c.beat % 1000) 0) s1) in
    let m = eqb-true (c.beat % 1000) 0 (and_right (eqb c.form 1) (eqb (c.beat % 1000) 0) s1) in
    let e : c.beat / 1000 * 1000 ≡ c.beat = omega (arith, m) in
    let t = eq-eqb c.form 1 f in
    (rw t (sym f), rw t e))
    (λ (m : eqb c.form 2 && leb c.beat 4294967295 ≡ true).
    let f = eqb-true c.form 2 (and_left (eqb c.form 2) (leb c.beat 4294967295) m) in
    let t = ne_eqb c.form 1 (λ q. omega arith) in
    (rw t (sym f), rw t))
    (or_cases (eqb c.form 1 && eqb (c.beat % 1000) 0 && leb c.beat 65535000) (eqb c.form 2 && leb c.beat 4294967295) h)

-- ---- how many wait
count_most : {A : Type 0} (p : A → Bool) (l : List A) → count p l ≤ length l
count_most p [] = omega arith
count_most p (x ∷ l) = go (p x) (count_most p l)
  where
    go : (b : Bool) → count p l ≤ length l → cond b 1 0 + count p l ≤ suc (length l)
    go true h = omega arith
    go false h = omega arith

-- an element that does not meet the test adds none
count_set : {A : Type 0} (p : A → Bool) (l : List A) (i : ℕ) (v : A) → p v ≡ false → count p (set l i v) ≤ count p l
count_set p [] i v e = omega arith
count_set p (x ∷ l) zero v e = rw e (omega arith)
count_set p (x ∷ l) (suc i) v e = let h = count_set p l i v e in omega arith

-- and one less where it takes the first one's place
count_less : {A : Type 0} (p : A → Bool) (l : List A) (v : A) → p v ≡ false → any p l ≡ true → count p (set l (index p l) v) < count p l
count_less p [] v e h = clash (0 < 0) false h refl
count_less p (x ∷ l) v e h = go (p x) refl h (count_less p l v e)
  where
    go : (b : Bool) → p x ≡ b → (b || any p l) ≡ true → (any p l ≡ true → count p (set l (index p l) v) < count p l) → count p (set (x ∷ l) (cond b 0 (suc (index p l))) v) < cond b 1 0 + count p l
    go true q k more = rw e (omega arith)
    go false q k more = let g = more k in rw q (omega arith)

any_at : {A : Type 0} (p : A → Bool) (l : List A) (n : ℕ) (d : A) → p d ≡ false → p (get_or l n d) ≡ true → any p l ≡ true
any_at p [] n d e h = clash (false ≡ true) (p d) h e
any_at p (x ∷ l) zero d e h = rw h
any_at p (x ∷ l) (suc n) d e h = go (p x) (any_at p l n d e h)
  where
    go : (b : Bool) → any p l ≡ true → (b || any p l) ≡ true
    go true k = refl
    go false k = k

told_waits : (s : Subscription) → is_waiting (told_of s) ≡ false
unfolding is_waiting told_of
told_waits s = refl

sent_due : (x : Connection) → is_due (sent_of x) ≡ false
unfolding is_due sent_of
sent_due x = refl

-- ---- what sending clears
cleared : (l : List Connection) (n : ℕ) (x : Connection) → ((get_or (set l n (sent_of x)) n closed).quiet ≡ 0) × ((get_or (set l n (sent_of x)) n closed).due ≡ false)
unfolding sent_of
cleared [] n x = (refl, refl)
cleared (y ∷ l) zero x = (refl, refl)
cleared (y ∷ l) (suc n) x = cleared l n x

-- connection n once something is sent to it, or heard from it
sent_paced : (d : Device) (n H q : ℕ) (b : Bool) → Paced d n H q b → Paced (sent_at d n) n H 0 false
unfolding sent_at sent_of
sent_paced d n H q b w =
    let low = live_low d.connections n (length d.connections) w.live refl in
    paced_as d (sent_at d n) n H q b w _ 0 false (get_or-set_same d.connections n (sent_of (get_or d.connections n closed)) closed low)

heard_paced : (d : Device) (n H q : ℕ) (b : Bool) → Paced d n H q b → Paced (heard_at d n) n H q b
unfolding heard_at heard_of
heard_paced d n H q b w =
    let c = get_or d.connections n closed in
    let low = live_low d.connections n (length d.connections) w.live refl in
    let e : heard_of c ≡ counted c 0 q b = ap (λ (z : ℕ). counted c 0 z c.due) w.counted ∙ ap (λ (z : Bool). counted c 0 q z) w.marked in
    paced_as d (heard_at d n) n H q b w 0 q b (get_or-set_same d.connections n (heard_of c) closed low ∙ e)

unanswered : (d : Device) (n : ℕ) (m : List ℕ) → is_unanswered m ≡ true → (sound_of d n m).device ≡ heard_at d n
unfolding is_unanswered sound_of
unanswered d n m e =
    ⊎_elim (λ a. rw (eqb-true (pdu_type m) 2 a)) (λ a. rw (eqb-true (pdu_type m) 3 a)) (or_cases (eqb (pdu_type m) 2) (eqb (pdu_type m) 3) e)

received : (r : Record) (area : List ℕ) (n : ℕ) (piece out : List ℕ) (t H q : ℕ) (b : Bool) → Paced r.device n H q b → decide (brought_by r area n piece) ≡ Sound t
    → is_unanswered (take t (brought_by r area n piece)) ≡ true → Paced (deliver_call r area n piece out).state.device n H q b
unfolding taken_in delivered_by messaged
received r area n piece out t H q b w e u =
    delivery_ways (λ (d : Device). Paced d n H q b) r area n piece out w
    (rw (e, unanswered r.device n (take t (brought_by r area n piece)) u) (heard_paced r.device n H q b w))

-- ---- one take
-- what a take that sends does
record Sent (r : Record) (out : List ℕ) : Type 0 where
  to : ℕ
  sends : SendsTo r out to
  ready : Ready (take_call r out).state
  fewer : waiting_in (take_call r out).state.device < waiting_in r.device

-- the lowest waiting entry
abbrev entry : Record → ℕ
entry r = lowest_waiting r.device.subscriptions

module _ (r : Record) (out : List ℕ) (turn : ReadyTake r out) where
  y : Ready r
  y = turn.ready

  waits : any is_waiting r.device.subscriptions ≡ ltb (lowest_waiting r.device.subscriptions) 32
  waits = rw y.entries at (any_index is_waiting r.device.subscriptions)

  dues : any is_due r.device.connections ≡ ltb (lowest_due r.device.connections) 8
  dues = rw y.eight at (any_index is_due r.device.connections)

  obeys : device_obeys r.device ≡ true
  unfolding record_obeys
  obeys = and_left (device_obeys r.device) (held_obeys (lives_in r.device) r.held) y.obeys

  held : held_obeys (lives_in r.device) r.held ≡ true
  unfolding record_obeys
  held = and_right (device_obeys r.device) (held_obeys (lives_in r.device) r.held) y.obeys

  notified : any is_waiting r.device.subscriptions ≡ true → take_call r out ≡ with_dispatch r (notifying r.device out (entry r))
  unfolding take_call taken_by
  notified e = rw (y.obeys, le-ltb (length out) least_output turn.room, sym waits ∙ e)

  reminded : any is_waiting r.device.subscriptions ≡ false → any is_due r.device.connections ≡ true → take_call r out ≡ with_dispatch r (reminding r.device out (lowest_due r.device.connections))
  unfolding take_call taken_by
  reminded e f = rw (y.obeys, le-ltb (length out) least_output turn.room, sym waits ∙ e, sym dues ∙ f)

  -- the record with another device, whose connections are open as before
  ready_on : (d : Device) → device_obeys d ≡ true → lives_in d ≡ lives_in r.device → length d.connections ≡ 8 → length d.subscriptions ≡ 32 → Ready (state_of d r.held)
  unfolding record_obeys
  ready_on d o l a b = record { obeys = and_both (device_obeys d) (held_obeys (lives_in d) r.held) o (rw l held); eight = a; entries = b }

  told : any is_waiting r.device.subscriptions ≡ true → Sent r out
  unfolding notifying notified_of sent_at told_at waiting_in
  told e =
      let d = r.device in
      let s = subscription_at d (entry r) in
      let g = cleared d.connections s.connection (get_or d.connections s.connection closed) in
      let w = count_less is_waiting d.subscriptions (told_of s) (told_waits s) e in
      let v = count_set is_due d.connections s.connection (sent_of (get_or d.connections s.connection closed)) (sent_due _) in
      let l : lives_in (sent_at (told_at d (entry r)) s.connection) ≡ lives_in d = lives_sent (told_at d (entry r)) s.connection ∙ lives_told d (entry r) in
      let o = rules_kept.sending (told_at d (entry r)) s.connection (rules_kept.telling d (entry r) obeys) in
      let q = notified e in
      record {
        to = s.connection;
        sends =
            record {
              size = length (notification_bytes s (mute_at d s.emitter));
              answer = inl (rw q refl);
              quiet = rw q g.0;
              due = rw q g.1;
              others = λ k f. rw q (get_or-set_other d.connections s.connection k _ closed (eqb-false k s.connection f));
            };
        ready = rw q (ready_on (notified_of d (entry r)) o l (length-set d.connections s.connection _ ∙ y.eight) (length-set d.subscriptions (entry r) _ ∙ y.entries));
        fewer = rw q (omega arith);
      }

  reminds : any is_waiting r.device.subscriptions ≡ false → any is_due r.device.connections ≡ true → Sent r out
  unfolding reminding sent_at waiting_in
  reminds e f =
      let d = r.device in
      let n = lowest_due d.connections in
      let g = cleared d.connections n (connection_at r n) in
      let w = count_less is_due d.connections (sent_of (connection_at r n)) (sent_due (connection_at r n)) f in
      let q = reminded e f in
      record {
        to = n;
        sends =
            record {
              size = length (keep_alive_bytes (heartbeat_kept (connection_at r n)));
              answer = inr (rw q refl);
              quiet = rw q g.0;
              due = rw q g.1;
              others = λ k h. rw q (get_or-set_other d.connections n k _ closed (eqb-false k n h));
            };
        ready = rw q (ready_on (sent_at d n) (rules_kept.sending d n obeys) (lives_sent d n) (length-set d.connections n _ ∙ y.eight) y.entries);
        fewer = rw q (omega arith);
      }

  sent : something_waits r.device ≡ true → Sent r out
  unfolding something_waits
  sent e = go (any is_waiting r.device.subscriptions) refl e
    where
      go : (b : Bool) → any is_waiting r.device.subscriptions ≡ b → (b || any is_due r.device.connections) ≡ true → Sent r out
      go true q h = told q
      go false q h = reminds q h

  -- the keep-alive of the lowest connection due
  reminding_is : (n H q : ℕ) → Paced r.device n H q true → any is_waiting r.device.subscriptions ≡ false → lowest_due r.device.connections ≡ n → Reminds r out n H
  unfolding reminding sent_at live_at is_due
  reminding_is n H q w e f =
      let d = r.device in
      let low = live_low d.connections n 8 w.live y.eight in
      let z : eqb (connection_at r n).beat 0 ≡ false = rw w.beat (ne_eqb H 0 (λ z. omega (arith, w.above))) in
      let k = told_form (connection_at r n) (formed (connection_at r n) (connection_obeys_lem r.device obeys n y.eight low) z) in
      let g = rw f at (reminded e (any_at is_due d.connections n closed refl w.marked)) in
      record {
        heartbeat = heartbeat_kept (connection_at r n);
        form = k.0;
        beat = k.1 ∙ w.beat;
        answer = rw g refl;
        output = rw g refl;
        after = rw g (sent_paced d n H q true w);
      }

-- ---- takes one after another
due_waits : (d : Device) (n : ℕ) → (get_or d.connections n closed).due ≡ true → something_waits d ≡ true
unfolding something_waits is_due
due_waits d n e = or_right (any is_waiting d.subscriptions) (any is_due d.connections) (any_at is_due d.connections n closed refl e)

-- while at most k wait, one of the next k takes sends connection n something
reached : (k : ℕ) (r : Record) (outs : ℕ → List ℕ) (n : ℕ) → Ready r → Roomy outs → (get_or r.device.connections n closed).due ≡ true → waiting_in r.device ≤ k
    → SentWithin r outs n k
unfolding takes_call
reached zero r outs n y room e h = absurd (omega (arith, (sent r (outs 0) (record { ready = y; room = room 0 }) (due_waits r.device n e)).fewer))
reached (suc k) r outs n y room e h = go (eqb n s.to) refl (λ d. reached k (take_call r (outs 0)).state (λ i. outs (suc i)) n s.ready (λ i. room (suc i)) d (omega (arith, s.fewer)))
  where
    s : Sent r (outs 0)
    s = sent r (outs 0) (record { ready = y; room = room 0 }) (due_waits r.device n e)

    go : (b : Bool) → eqb n s.to ≡ b
        → ((get_or (take_call r (outs 0)).state.device.connections n closed).due ≡ true → SentWithin (take_call r (outs 0)).state (λ i. outs (suc i)) n k)
        → SentWithin r outs n (suc k)
    go true b more = record { which = 0; soon = omega arith; sends = rw (← eqb-true n s.to b) at s.sends }
    go false b more =
        let m = more (ap (λ (x : Connection). x.due) (s.sends.others n b) ∙ e) in
        record { which = suc m.which; soon = omega (arith, m.soon); sends = m.sends }

most : (r : Record) → Ready r → waiting_in r.device ≤ 40
unfolding waiting_in
most r y =
    let a = count_most is_waiting r.device.subscriptions in
    let b = count_most is_due r.device.connections in
    omega (arith, y.eight, y.entries)

-- ---- ticks, then takes
-- what ticks keep
ticks_kept : (r : Record) (area readings : List ℕ) → Kept r area → Kept (ticks_call r area readings).0 (ticks_call r area readings).1
unfolding ticks_call call_of
ticks_kept r area [] k = k
ticks_kept r area (x ∷ rest) k =
    ticks_kept (tick_call r area x).state (tick_call r area x).area rest (calls_keep.calling r area (ask (ticking x)) tt k)

ticks_entries : (r : Record) (area readings : List ℕ) → all_pass r area readings ≡ true → length (ticks_call r area readings).0.device.subscriptions ≡ length r.device.subscriptions
unfolding ticks_call all_pass
ticks_entries r area [] p = refl
ticks_entries r area (x ∷ rest) p =
    ticks_entries (tick_call r area x).state (tick_call r area x).area rest (and_right (passes r area x) _ p)
    ∙ entries_after r area x (and_left (passes r area x) _ p)

heard : (r : Record) (area readings : List ℕ) (n H q : ℕ) (outs : ℕ → List ℕ) → Kept r area → length r.device.subscriptions ≡ 32 → DueTicks r area readings n H q
    → Roomy outs → SentWithin (ticks_call r area readings).0 outs n 40
heard r area readings n H q outs k e w room =
    let v = ticks_kept r area readings k in
    let y : Ready (ticks_call r area readings).0 =
    record { obeys = v.obeys; eight = v.eight; entries = ticks_entries r area readings w.ticks.passing ∙ e } in
    reached 40 (ticks_call r area readings).0 outs n y room (due_by_then_lem r area readings n H q w).marked (most (ticks_call r area readings).0 y)

pub heartbeat_sent : HeartbeatSent
heartbeat_sent =
    record {
      due = λ r area x n H q w. due r area x w.passing n w.stays H q w.paced;
      counts = λ r area x n H q w. counts r area x w.passing n w.stays H q w.paced;
      stays_due = λ r area x n H q w. stays_due_lem r area x w.passing n w.stays H q w.paced;
      many = many;
      due_by_then = due_by_then_lem;
      received = received;
      sends = λ r out n H q y w e f. reminding_is r out y n H q w e f;
      something = λ r out y e. ((sent r out y e).to, (sent r out y e).sends);
      fewer = λ r out y e. (sent r out y e).fewer;
      most = most;
      reached = λ r outs n y room e. reached (waiting_in r.device) r outs n y room e (omega arith);
      heard = heard;
    }

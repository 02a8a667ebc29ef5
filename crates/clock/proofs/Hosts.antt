-- A host that ticks every millisecond, and one that ticks ten times a second. Assumes nothing.
use Prim.Native.Nat.{ℕ, zero, suc, ◌+◌, ◌-◌, ◌*◌, ◌/◌, ◌%◌, ◌^◌, ◌<◌, ◌≤◌}
use mathlib.Core.Path.{◌≡◌, refl, sym, ap, ◌∙◌}
use mathlib.Core.Bool.{Bool, true, false}
use mathlib.Core.List.{List, [], ◌∷◌, ◌++◌}
use native.Mathlib.Omega.{arith}
use native.Mathlib.Nat.{suc-mul, mul-suc}
use borrow.Author.Tests.{ne_eqb, lt-ltb, le-ltb, ltb-true, ltb-false, le-leb, leb-true, leb-false}
use lib.Bits.{bit_or, or_zero_l}
use lib.Dec.{eqb, leb, ltb}
use lib.ListN.{get_or}
use Rattle.laws.proofs.Conds.{and_left, and_right}
use Rattle.laws.proofs.Tables.{and_both, clash}
use Rattle.numbers.specs.Refusal.{bad_record, bad_area}
use Rattle.octets.specs.Zeros.{zeros, all_zero}
use Rattle.heartbeat.specs.Beat.{form_of, beat_of}
use Rattle.area.specs.Area.{area_bytes, area_sound, count_obeys, held_obeys}
use Rattle.connection.specs.State.{closed, live_at, is_not_open}
use Rattle.connection.specs.Obeys.{is_closed, is_idle, form_obeys, is_timed, connection_obeys}
use Rattle.connection.specs.Supervision.{closes_at, heard_of, sent_of, set_beat, beating_of}
use Rattle.connection.specs.declared.Connection.{Connection}
use Rattle.connection.proofs.Keeps.{supervision_kept, steps_add}
use Rattle.connection.proofs.Steps.{falls_due_lem}
use Rattle.subscription.specs.State.{is_twin}
use Rattle.subscription.specs.Obeys.{is_free, is_sound, entry_obeys, apart}
use Rattle.objects.specs.Tests.{is_mute_value}
use Rattle.holders.specs.Holders.{holder_obeys}
use Rattle.mechanism.specs.Obeys.{is_address_taken, mechanism_obeys}
use Rattle.device.specs.State.{fresh_of, lives_in, open_of, beating_at}
use Rattle.device.specs.Obeys.{device_obeys}
use Rattle.device.specs.Time.{step_of}
use Rattle.endpoint.specs.State.{fresh_state, record_obeys}
use Rattle.endpoint.specs.Outcome.{refused}
use Rattle.endpoint.specs.Calls.{tick_call}
use Rattle.endpoint.specs.declared.Record.{Record}
use Rattle.endpoint.proofs.States.{connection_obeys_lem}
use Rattle.promise.specs.Kept.{Kept}
use Rattle.promise.specs.Ticks.{step_at, passes, Watched}
use Rattle.promise.specs.Heartbeats.{ticks_call, ticks_time, all_pass, open_at_last, Paced, PacedTicks}
use Rattle.promise.proofs.Kept.{calls_keep}
use Rattle.promise.proofs.Ticks.{connection_after, moved}
use Rattle.promise.proofs.Heartbeats.{open_before, heartbeat_sent}
use Rattle.clock.specs.Clock.{Typed, last_reading, ticks_close, AsOne}
use Rattle.clock.specs.Hosts.{every, connection_then, ClosesAtTick, Tablet, tablet_open, TwoHosts}
use Rattle.clock.proofs.Two.{tick_is}
use Rattle.clock.proofs.Clock.{none_left, none_closed, next_kept, slow_clock}
use Rattle.clock.proofs.Joins.{or_assoc}

-- ---- readings p milliseconds apart
module _ (p : ℕ) (h : p < 2 ^ 31) where
  step_every : (last : ℕ) → last < 2 ^ 32 → step_of ((last + p) % 2 ^ 32) last ≡ p
  step_every last l = omega arith

  every_readings : (last k i : ℕ) → get_or (every p last k) i 0 < 2 ^ 32
  unfolding every
  every_readings last zero i = omega arith
  every_readings last (suc k) zero = omega arith
  every_readings last (suc k) (suc i) = every_readings ((last + p) % 2 ^ 32) k i

  every_time : (last k : ℕ) → last < 2 ^ 32 → ticks_time last (every p last k) ≡ k * p
  unfolding every ticks_time
  every_time last zero l = omega arith
  every_time last (suc k) l =
      let next : (last + p) % 2 ^ 32 < 2 ^ 32 = omega arith in
      rw (step_every last l, every_time ((last + p) % 2 ^ 32) k next, suc-mul k p) (omega arith)

  every_last : (last k : ℕ) → last < 2 ^ 32 → last_reading last (every p last k) ≡ (last + k * p) % 2 ^ 32
  unfolding every last_reading
  every_last last zero l = omega arith
  every_last last (suc k) l =
      let next : (last + p) % 2 ^ 32 < 2 ^ 32 = omega arith in
      every_last ((last + p) % 2 ^ 32) k next ∙ rw (suc-mul k p) (around (k * p))
    where
      around : (m : ℕ) → ((last + p) % 2 ^ 32 + m) % 2 ^ 32 ≡ (last + (m + p)) % 2 ^ 32
      around m = omega arith

every_append : (p last j m : ℕ) → every p last (j + m) ≡ every p last j ++ every p (last_reading last (every p last j)) m
unfolding every last_reading
every_append p last zero m = let z : 0 + m ≡ m = omega arith in rw z
every_append p last (suc j) m =
    let s : suc j + m ≡ suc (j + m) = omega arith in
    rw s (ap (λ (l : List ℕ). (last + p) % 2 ^ 32 ∷ l) (every_append p ((last + p) % 2 ^ 32) j m))

-- ---- ticks behind ticks
ticks_append : (r : Record) (area xs ys : List ℕ) → ticks_call r area (xs ++ ys) ≡ ticks_call (ticks_call r area xs).0 (ticks_call r area xs).1 ys
unfolding ticks_call
ticks_append r area [] ys = refl
ticks_append r area (x ∷ xs) ys = ticks_append (tick_call r area x).state (tick_call r area x).area xs ys

closes_append : (r : Record) (area xs ys : List ℕ)
    → ticks_close r area (xs ++ ys) ≡ bit_or (ticks_close r area xs) (ticks_close (ticks_call r area xs).0 (ticks_call r area xs).1 ys)
unfolding ticks_call ticks_close
closes_append r area [] ys = sym (or_zero_l _)
closes_append r area (x ∷ xs) ys =
    let o = tick_call r area x in
    let m = get_or o.answer 1 0 in
    let last = ticks_call o.state o.area xs in
    ap (bit_or m) (closes_append o.state o.area xs ys) ∙ or_assoc m (ticks_close o.state o.area xs) (ticks_close last.0 last.1 ys)

-- ---- a record and an area that are accepted
pass_is : (r : Record) (area : List ℕ) (x : ℕ) → Kept r area → step_at r x < 2 ^ 31 → passes r area x ≡ true
unfolding passes
pass_is r area x k h = rw (tick_is r area x (step_at r x) k.obeys k.sound refl h)

-- the next record's reading
next_reading : (r : Record) (area : List ℕ) (x : ℕ) → Kept r area → step_at r x < 2 ^ 31 → (tick_call r area x).state.device.reading ≡ x
next_reading r area x k h = moved r area x (pass_is r area x k h)

pass_every : (r : Record) (area : List ℕ) (p k : ℕ) → Kept r area → r.device.reading < 2 ^ 32 → p < 2 ^ 31 → all_pass r area (every p r.device.reading k) ≡ true
unfolding every all_pass
pass_every r area p zero w l h = refl
pass_every r area p (suc k) w l h =
    let y = (r.device.reading + p) % 2 ^ 32 in
    let e : step_at r y ≡ p = step_every p h r.device.reading l in
    let s : step_at r y < 2 ^ 31 = omega arith in
    let n = next_reading r area y w s in
    let below : (tick_call r area y).state.device.reading < 2 ^ 32 = rw n (omega arith) in
    and_both (passes r area y) _ (pass_is r area y w s)
    (rw n at (pass_every (tick_call r area y).state (tick_call r area y).area p k (next_kept r area y w) below h))

-- ---- the same record at each tick of the slow host
every_more : (p last k : ℕ) → every p last (suc k) ≡ (last + p) % 2 ^ 32 ∷ every p ((last + p) % 2 ^ 32) k
unfolding every
every_more p last k = refl

ticks_more : (r : Record) (area : List ℕ) (x : ℕ) (xs : List ℕ) → ticks_call r area (x ∷ xs) ≡ ticks_call (tick_call r area x).state (tick_call r area x).area xs
unfolding ticks_call
ticks_more r area x xs = refl

closes_more : (r : Record) (area : List ℕ) (x : ℕ) (xs : List ℕ)
    → ticks_close r area (x ∷ xs) ≡ bit_or (get_or (tick_call r area x).answer 1 0) (ticks_close (tick_call r area x).state (tick_call r area x).area xs)
unfolding ticks_close
closes_more r area x xs = refl

record Same (r : Record) (area xs ys : List ℕ) : Type 0 where
  left : ticks_call r area xs ≡ ticks_call r area ys
  closes : ticks_close r area xs ≡ ticks_close r area ys

-- ticks that come to one, and the same behind them
same_more : (r : Record) (area xs : List ℕ) (y : ℕ) (us vs : List ℕ) → AsOne r area xs (tick_call r area y)
    → Same (tick_call r area y).state (tick_call r area y).area us vs → Same r area (xs ++ us) (y ∷ vs)
same_more r area xs y us vs a s =
    record {
      left = ticks_append r area xs us ∙ rw a.left s.left ∙ sym (ticks_more r area y vs);
      closes = closes_append r area xs us ∙ rw (a.left, a.closes, s.closes) (sym (closes_more r area y vs));
    }

same_kept : (r : Record) (area : List ℕ) (q k : ℕ) → Kept r area → r.device.reading < 2 ^ 32 → q < 2 ^ 31
    → Same r area (every 1 r.device.reading (q * k)) (every q r.device.reading k)
unfolding every
same_kept r area q zero w l h = let z : q * 0 ≡ 0 = omega arith in rw z (record { left = refl; closes = refl })
same_kept r area q (suc k) w l h =
    let last = r.device.reading in
    let y = (last + q) % 2 ^ 32 in
    let one : q * 1 ≡ q = omega arith in
    let sum : q * suc k ≡ q + q * k = mul-suc q k ∙ omega arith in
    let at : last_reading last (every 1 last q) ≡ y = rw one at (every_last 1 (omega arith) last q l) in
    let time : ticks_time last (every 1 last q) < 2 ^ 31 = rw (every_time 1 (omega arith) last q l, one) h in
    let typed : Typed r area (every 1 last q) =
    record { eight = w.eight; counts = w.counts; reading = l; octets = w.octets; each = every_readings 1 (omega arith) last q } in
    let group = rw at at (slow_clock.as_one r area (every 1 last q) typed time) in
    let e : step_at r y ≡ q = step_every q h last l in
    let n = next_reading r area y w (omega arith) in
    let below : (tick_call r area y).state.device.reading < 2 ^ 32 = rw n (omega arith) in
    let more = rw n at (same_kept (tick_call r area y).state (tick_call r area y).area q k (next_kept r area y w) below h) in
    rw (sum, every_append 1 last q (q * k), at, every_more q last k)
    (same_more r area (every 1 last q) y (every 1 y (q * k)) (every q y k) group more)

same_any : (r : Record) (area : List ℕ) (q k : ℕ) → Typed r area [] → q < 2 ^ 31
    → Same r area (every 1 r.device.reading (q * k)) (every q r.device.reading k)
unfolding tick_call
same_any r area q k w h = go (record_obeys r) refl (area_sound r.held area) refl
  where
    xs : List ℕ
    xs = every 1 r.device.reading (q * k)

    ys : List ℕ
    ys = every q r.device.reading k

    none : (n : ℕ) → ((x : ℕ) → tick_call r area x ≡ refused n r area []) → Same r area xs ys
    none n e =
        record {
          left = none_left r area n e xs ∙ sym (none_left r area n e ys);
          closes = none_closed r area n e xs ∙ sym (none_closed r area n e ys);
        }

    go : (o : Bool) → record_obeys r ≡ o → (s : Bool) → area_sound r.held area ≡ s → Same r area xs ys
    go false o s f = none bad_record (λ x. rw o)
    go true o false f = none bad_area (λ x. rw (o, f))
    go true o true f =
        same_kept r area q k (record { obeys = o; sound = f; eight = w.eight; counts = w.counts; octets = w.octets }) w.reading h

-- ---- a silent connection
abbrev at : Record → ℕ → Connection
at r n = get_or r.device.connections n closed

module _ (r : Record) (n H s : ℕ) (above : 0 < H) (w : Watched r.device n H s) where
  beats : eqb (at r n).beat 0 ≡ false
  beats = rw w.beat (ne_eqb H 0 (λ z. omega arith))

  closes_as : (a : ℕ) → closes_at a (at r n) ≡ leb (3 * H) (s + a)
  unfolding closes_at
  closes_as a = rw (beats, w.beat, w.silent)

  -- by the rules its silence is below 3 × H
  early : record_obeys r ≡ true → s < 3 * H
  early o =
      let e : leb (3 * H) (s + 0) ≡ false = sym (closes_as 0) ∙ steps_add.nobody (at r n) (connection_obeys_lem r n o) in
      omega (arith, leb-false (3 * H) (s + 0) e)

  -- a tick that leaves it open
  watched_on : (area : List ℕ) (x : ℕ) → passes r area x ≡ true → closes_at (step_at r x) (at r n) ≡ false
      → Watched (tick_call r area x).state.device n H (s + step_at r x)
  unfolding live_at
  watched_on area x p m =
      let e = connection_after r area x p n in
      let c = supervision_kept.counting (step_at r x) (at r n) beats m in
      record {
        live = ap (λ (c : Connection). c.live) e ∙ supervision_kept.leaving (step_at r x) (at r n) ∙ rw (m, w.live);
        beat = ap (λ (c : Connection). c.beat) e ∙ c.1 ∙ w.beat;
        silent = ap (λ (c : Connection). c.silence) e ∙ c.0 ∙ ap (λ (q : ℕ). q + step_at r x) w.silent;
      }

  -- a tick that closes it
  shut_after : (area : List ℕ) (x : ℕ) → passes r area x ≡ true → closes_at (step_at r x) (at r n) ≡ true
      → live_at (tick_call r area x).state.device.connections n ≡ false
  unfolding live_at
  shut_after area x p m =
      ap (λ (c : Connection). c.live) (connection_after r area x p n) ∙ supervision_kept.leaving (step_at r x) (at r n) ∙ rw (m, w.live)

watched_live : (r : Record) (area xs : List ℕ) (n H s : ℕ) → Kept r area → 0 < H → Watched r.device n H s → all_pass r area xs ≡ true
    → open_at_last r area xs n ≡ ltb (s + ticks_time r.device.reading xs) (3 * H)
unfolding ticks_call all_pass ticks_time
watched_live r area [] n H s k above w p =
    let h = early r n H s above w k.obeys in
    w.live ∙ sym (lt-ltb (s + 0) (3 * H) (omega arith))
watched_live r area (x ∷ xs) n H s k above w p =
    go (closes_at (step_at r x) (at r n)) refl (λ m. watched_live (tick_call r area x).state (tick_call r area x).area xs n H (s + step_at r x) (next_kept r area x k) above (watched_on r n H s above w area x first m) rest)
  where
    first : passes r area x ≡ true
    first = and_left (passes r area x) _ p

    rest : all_pass (tick_call r area x).state (tick_call r area x).area xs ≡ true
    rest = and_right (passes r area x) _ p

    shut : closes_at (step_at r x) (at r n) ≡ true → (b : Bool) → open_at_last (tick_call r area x).state (tick_call r area x).area xs n ≡ b → b ≡ false
    shut m true e =
        clash _ (live_at (tick_call r area x).state.device.connections n)
        (open_before (tick_call r area x).state (tick_call r area x).area xs n rest e) (shut_after r n H s above w area x first m)
    shut m false e = refl

    go : (m : Bool) → closes_at (step_at r x) (at r n) ≡ m
        → (closes_at (step_at r x) (at r n) ≡ false → open_at_last (tick_call r area x).state (tick_call r area x).area xs n ≡ ltb (s + step_at r x + ticks_time (tick_call r area x).state.device.reading xs) (3 * H))
        → open_at_last (tick_call r area x).state (tick_call r area x).area xs n ≡ ltb (s + (step_at r x + ticks_time x xs)) (3 * H)
    go true m more =
        let h = leb-true (3 * H) (s + step_at r x) (sym (closes_as r n H s above w (step_at r x)) ∙ m) in
        shut m (open_at_last (tick_call r area x).state (tick_call r area x).area xs n) refl
        ∙ sym (le-ltb (s + (step_at r x + ticks_time x xs)) (3 * H) (omega arith))
    go false m more =
        let e : s + step_at r x + ticks_time x xs ≡ s + (step_at r x + ticks_time x xs) = omega arith in
        rw (moved r area x first, e) at (more m)

-- ---- the tablet, at any pace
module _ (r : Record) (area : List ℕ) (n H s : ℕ) (t : Tablet r area n H s) where
  kept : Kept r area
  kept =
      record {
        obeys = t.accepted.obeys;
        sound = t.accepted.sound;
        eight = t.typed.eight;
        counts = t.typed.counts;
        octets = t.typed.octets;
      }

  live : (p k : ℕ) → p < 2 ^ 31 → (connection_then r area p k n).live ≡ ltb (s + k * p) (3 * H)
  unfolding live_at
  live p k h =
      rw (every_time p h r.device.reading k t.typed.reading) at
      (watched_live r area (every p r.device.reading k) n H s kept t.above t.watched (pass_every r area p k kept t.typed.reading h))

  -- below 3 × H it is open, and from there on it is not
  stays : (p k : ℕ) → p < 2 ^ 31 → s + k * p < 3 * H → (connection_then r area p k n).live ≡ true
  stays p k h e = live p k h ∙ lt-ltb (s + k * p) (3 * H) e

  gone : (p k : ℕ) → p < 2 ^ 31 → 3 * H ≤ s + k * p → (connection_then r area p k n).live ≡ false
  gone p k h e = live p k h ∙ le-ltb (s + k * p) (3 * H) e

  open_below : (p k : ℕ) → p < 2 ^ 31 → (connection_then r area p k n).live ≡ true → s + k * p < 3 * H
  open_below p k h o = ltb-true (s + k * p) (3 * H) (sym (live p k h) ∙ o)

  shut_above : (p k : ℕ) → p < 2 ^ 31 → (connection_then r area p k n).live ≡ false → 3 * H ≤ s + k * p
  shut_above p k h o = ltb-false (s + k * p) (3 * H) (sym (live p k h) ∙ o)

  start : s < 3 * H
  start = early r n H s t.above t.watched t.accepted.obeys

  fast : ClosesAtTick r area 1 (3 * H - s) n
  fast =
      let h = start in
      record { before = λ j l. stays 1 j (omega arith) (omega arith); then = gone 1 (3 * H - s) (omega arith) (omega arith) }

  slow : ClosesAtTick r area 100 ((3 * H - s + 99) / 100) n
  slow =
      let h = start in
      record { before = λ j l. stays 100 j (omega arith) (omega arith); then = gone 100 ((3 * H - s + 99) / 100) (omega arith) (omega arith) }

  -- the tick before it left it open
  just : (p k : ℕ) → p < 2 ^ 31 → ClosesAtTick r area p k n → (s + (k - 1) * p < 3 * H) × (0 < k)
  just p zero h c =
      let e = shut_above p 0 h c.then in
      let b = start in
      let z : 0 * p ≡ 0 = omega arith in
      absurd (omega arith)
  just p (suc k) h c =
      let z : suc k - 1 ≡ k = omega arith in
      (rw z (open_below p k h (c.before k (omega arith))), omega arith)

  -- it closes at the first tick that comes to 3 × H
  first_late : (p k : ℕ) → p < 2 ^ 31 → ClosesAtTick r area p k n → (3 * H ≤ s + k * p) × (s + (k - 1) * p < 3 * H) × (0 < k)
  first_late p k h c = (shut_above p k h c.then, (just p k h c).0, (just p k h c).1)

  -- ---- what falls due
  module _ (q : ℕ) (w : Paced r.device n H q false) where
    -- by the rules quiet is below H where nothing is due
    below : q < H
    below = go (ltb q H) refl
      where
        go : (b : Bool) → ltb q H ≡ b → q < H
        go true e = ltb-true q H e
        go false e =
            let c = at r n in
            let o = connection_obeys_lem r n t.accepted.obeys in
            let h = ltb-false q H e in
            let d = falls_due_lem 0 c (beats r n H s t.above t.watched) (steps_add.nobody c o) w.marked (omega (arith, w.beat, w.counted)) in
            clash _ c.due (ap (λ (x : Connection). x.due) (sym (steps_add.nothing c o) ∙ d)) w.marked

    due : (p k : ℕ) → p < 2 ^ 31 → (connection_then r area p k n).live ≡ true → (connection_then r area p k n).due ≡ leb H (q + k * p)
    unfolding live_at
    due p k h o = go (leb H (q + k * p)) refl
      where
        xs : List ℕ
        xs = every p r.device.reading k

        time : ticks_time r.device.reading xs ≡ k * p
        time = every_time p h r.device.reading k t.typed.reading

        ticks : PacedTicks r area xs n H q
        ticks = record { paced = w; passing = pass_every r area p k kept t.typed.reading h; stays = o }

        go : (b : Bool) → leb H (q + k * p) ≡ b → (connection_then r area p k n).due ≡ b
        go true e =
            (heartbeat_sent.due_by_then r area xs n H q
            (record { ticks = ticks; below = below; reaches = rw time (leb-true H (q + k * p) e) })
            ).marked
        go false e = (heartbeat_sent.many r area xs n H q ticks (rw time (leb-false H (q + k * p) e))).marked

    due_by_lem : (j k : ℕ) → j ≤ 100 * k → (connection_then r area 1 j n).due ≡ true → (connection_then r area 100 k n).live ≡ true
        → (connection_then r area 100 k n).due ≡ true
    due_by_lem j k l d o =
        let lives = open_below 100 k (omega arith) o in
        let x = due 1 j (omega arith) (stays 1 j (omega arith) (omega arith)) in
        let y = leb-true H (q + j * 1) (sym x ∙ d) in
        due 100 k (omega arith) o ∙ le-leb H (q + k * 100) (omega arith)

-- ---- a tablet that there is; what is unfolded is for its computing
tablet : Tablet tablet_open (zeros area_bytes) 0 2000 0
unfolding tablet_open fresh_state fresh_of open_of is_not_open beating_at live_at beating_of sent_of heard_of set_beat form_of beat_of lives_in record_obeys device_obeys held_obeys count_obeys connection_obeys is_closed is_idle is_timed form_obeys entry_obeys is_free is_sound is_twin apart is_mute_value holder_obeys mechanism_obeys is_address_taken zeros all_zero
tablet =
    let k = calls_keep.fresh 4294967000 in
    record {
      typed = record { eight = refl; counts = refl; reading = omega arith; octets = k.octets; each = λ i. omega arith };
      accepted = record { obeys = refl; sound = k.sound };
      above = omega arith;
      watched = record { live = refl; beat = refl; silent = refl };
    }

-- the numbers are the theorem's own, so that others are refused by numbers
pub two_hosts : TwoHosts
two_hosts =
    record {
      same = λ r area q k w h. (same_any r area q k w (omega arith)).left;
      closed_same = λ r area q k w h. (same_any r area q k w h).closes;
      uneven = λ r area xs n H s t. watched_live r area xs n H s (kept r area n H s t) t.above t.watched;
      live = λ r area n H s p k t h. live r area n H s t p k h;
      fast = fast;
      slow = slow;
      apart =
          λ r area n H s j k t a b.
          let x = first_late r area n H s t 1 j (omega arith) a in
          let y = first_late r area n H s t 100 k (omega arith) b in
          (omega (arith, x.0), omega (arith, y.0), omega (arith, x.1, x.2, y.0), omega (arith, x.0, y.1, y.2));
      due = λ r area n H s q p k t w. due r area n H s t q w p k;
      due_by = λ r area n H s q j k t w l. due_by_lem r area n H s t q w j k (omega arith);
      heard_now = λ r area n t. (fast r area n 2000 0 t, slow r area n 2000 0 t);
      heard_before = λ r area n t. (fast r area n 2000 99 t, slow r area n 2000 99 t);
      tablet = tablet;
    }

-- ClosureLeavesNothing: what a closure leaves of its connection, and what of the others. Assumes nothing.
use Prim.Native.Nat.{ℕ, ◌+◌, ◌-◌, ◌≤◌, ◌<◌}
use mathlib.Core.Path.{◌≡◌, refl, sym, ap, subst, ◌∙◌}
use mathlib.Core.Logic.{⊎_elim}
use mathlib.Core.Bool.{Bool, cond, true, false, not, ◌&&◌, ◌||◌, and-true, and-false}
use mathlib.Core.List.{List, [], ◌∷◌, ◌++◌, map}
use native.Mathlib.Omega.{arith}
use lib.Dec.{eqb, ltb}
use lib.ListN.{length, get_or, set, get_or-map, get_or-eq_default}
use lib.Seq.{get_or-set_same}
use borrow.Author.Tests.{eqb-true, eqb-false, eq-eqb, ne_eqb, not-true, ltb-true, ltb-false}
use Rattle.laws.specs.Lists.{any}
use Rattle.laws.proofs.Conds.{and_left}
use Rattle.laws.proofs.Tables.{clash, any_index, all_get_d, map_all}
use Rattle.octets.specs.Zeros.{zeros}
use Rattle.frame.specs.Decide.{decide}
use Rattle.frame.specs.declared.Decision.{Decision}
use Rattle.frame.specs.declared.Decision.TheVariants.{Undecided, Faulty, Sound}
use Rattle.area.specs.Area.{part_bytes, undecided_of, part_cleared, closed_cleared, held_kept}
use Rattle.connection.specs.State as connections
use Rattle.connection.specs.State.{closed, opened, live_at, lowest_free}
use Rattle.connection.specs.Obeys.{is_closed, connection_obeys}
use Rattle.connection.specs.Supervision.{closes_at, connection_ticked}
use Rattle.connection.specs.declared.Connection.{Connection}
use Rattle.connection.proofs.Keeps.{supervision_kept}
use Rattle.subscription.specs.State.{free, swept_of}
use Rattle.subscription.specs.Obeys.{is_free, entry_obeys}
use Rattle.subscription.specs.declared.Subscription.{Subscription}
use Rattle.subscription.proofs.Keeps as entries
use Rattle.subscription.proofs.Keeps.{entry_view, free_unused}
use Rattle.holders.specs.Holders.{holder_obeys, swept_holder}
use Rattle.device.specs.State.{open_of, sweep_of, close_of, lives_in}
use Rattle.device.specs.Obeys.{device_obeys}
use Rattle.device.specs.Setters.{with_connections}
use Rattle.device.specs.Time.{advanced, tick_step, tick_of}
use Rattle.device.specs.Closure.{is_lock_of, is_entry_of, locks_of, subscriptions_of, no_locks, no_entries, Gone, Stays}
use Rattle.device.specs.declared.Device.{Device}
use Rattle.device.proofs.Keeps.{Obeys, obeys_are}
use Rattle.device.proofs.Closures.{closure_frees}
use Rattle.stream.specs.Calls.{Held, put, only}
use Rattle.stream.specs.Lent.{part_holding, flat, counts_of}
use Rattle.stream.proofs.Lent.{Small, put_same, put_other, get_d_counted, set_counted, part_flat, clear_flat}
use Rattle.stream.proofs.Stream.{put_elim}
use Rattle.endpoint.specs.State.{state_of, record_obeys, closed_state}
use Rattle.endpoint.specs.Outcome.{Outcome, outcome}
use Rattle.endpoint.specs.Calls.{opened_by, open_call, close_call, ticked_by, tick_call}
use Rattle.replies.specs.Bytes.{least_output}
use Rattle.delivery.specs.Intake.{messaged, delivered_by, taken_in}
use Rattle.endpoint.specs.Deliver.{held_at, deliver_call}
use Rattle.endpoint.specs.declared.Record.{Record}
use Rattle.endpoint.proofs.States.{live_low}
use Rattle.taking.proofs.Takes.{index_meets}
use Rattle.promise.specs.Rulebook.{open?, bit_of}
use Rattle.promise.specs.Kept.{held_in, Kept}
use Rattle.promise.specs.Ticks.{step_at, passes}
use Rattle.promise.specs.Closure.{area_part, Left, Unmoved, is_lock_in, is_entry_in, Closed, ClosedAlone, ClosedByTick, New, ClosureLeavesNothing}
use Rattle.promise.proofs.OpenConnections.{GoodAt, live_closed, live_gone, live_still}
use Rattle.promise.proofs.Deliveries.{small}
use Rattle.promise.proofs.Calls.{ticked_counts, ticked_area}
use Rattle.promise.proofs.Masks.{mask_bit, mask_beyond, mask_small}
use Rattle.promise.proofs.HeldBytes.{kept_good, kept_counts, kept_area}
use Rattle.promise.proofs.Ticks.{mask_at, Ticks, passed, ticked_at, never_idle}

-- answers of which a number differs
differ : (P : Type 0) (i : ℕ) (a b : List ℕ) → a ≡ b → eqb (get_or a i 0) (get_or b i 0) ≡ false → P
differ P i a b e d = clash P (eqb (get_or a i 0) (get_or b i 0)) (eq-eqb (get_or a i 0) (get_or b i 0) (ap (λ (x : List ℕ). get_or x i 0) e)) d

-- ---- bytes held, in the counts and in the area

count_empty : (j : Held) (n : ℕ) → n < 8 → j n ≡ [] → get_or (counts_of j 8) n 0 ≡ 0
count_empty j n l e = get_d_counted j 8 n l ∙ ap length e

part_empty : (j : Held) (n : ℕ) → Small j → n < 8 → j n ≡ [] → area_part (flat j 8) n ≡ zeros part_bytes
unfolding area_part part_holding
part_empty j n z l e = part_flat j 8 n z l ∙ ap part_holding e

count_same : (h j : Held) (k : ℕ) → k < 8 → j k ≡ h k → get_or (counts_of j 8) k 0 ≡ get_or (counts_of h 8) k 0
count_same h j k l e = get_d_counted j 8 k l ∙ ap length e ∙ sym (get_d_counted h 8 k l)

part_same : (h j : Held) (k : ℕ) → Small h → Small j → k < 8 → j k ≡ h k → area_part (flat j 8) k ≡ area_part (flat h 8) k
unfolding area_part
part_same h j k s z l e = part_flat j 8 k z l ∙ ap part_holding e ∙ sym (part_flat h 8 k s l)

small_put : (h : Held) (n : ℕ) → Small h → Small (put h n [])
small_put h n s m = put_elim h n [] m (λ x. length x ≤ part_bytes) (λ q. omega arith) (s m)

small_only : (t : ℕ → Bool) (h : Held) → Small h → Small (only t h)
unfolding only
small_only t h s m = go (t m)
  where
    go : (b : Bool) → length (cond b (h m) []) ≤ part_bytes
    go true = s m
    go false = omega arith

-- a connection that a tick closes is all zero
ticked_blank : (step : ℕ) (c : Connection) → closes_at step c ≡ true → connection_ticked step c ≡ closed
unfolding connection_ticked
ticked_blank step c k = go (eqb c.beat 0) refl
  where
    go : (b : Bool) → eqb c.beat 0 ≡ b → connection_ticked step c ≡ closed
    go true b = clash _ (closes_at step c) k (never_idle step c (eqb-true c.beat 0 b))
    go false b = rw (b, k)

-- ---- what is swept where whoever was open stays so, but for these
module _ (cs next : List Connection) (these : ℕ → Bool) (f : (k : ℕ) → live_at next k ≡ (live_at cs k && not (these k))) where
  lock_swept : (h : ℕ) → holder_obeys cs h ≡ true → swept_holder next h ≡ cond (is_lock_in these h) 0 h
  unfolding swept_holder holder_obeys is_lock_in
  lock_swept h o = go (eqb h 0) refl (these (h - 1)) refl
    where
      go : (z : Bool) → eqb h 0 ≡ z → (t : Bool) → these (h - 1) ≡ t → cond (holder_obeys next h) h 0 ≡ cond (is_lock_in these h) 0 h
      go true z t e = rw z
      go false z true e = rw (z, f (h - 1), e, and-false)
      go false z false e =
          let l : live_at cs (h - 1) ≡ true = rw z at o in
          rw (z, f (h - 1), l, e)

  entry_swept : (s : Subscription) → entry_obeys cs s ≡ true → swept_of next s ≡ cond (is_entry_in these s) free s
  unfolding swept_of is_entry_in
  entry_swept s o = ⊎_elim (λ (x : is_free s ≡ true). rw (free_unused s x)) (λ (k : entries.Sound cs s). go k (these s.connection) refl) (entry_view cs s o)
    where
      go : entries.Sound cs s → (t : Bool) → these s.connection ≡ t → swept_of next s ≡ cond (is_entry_in these s) free s
      go k true e = rw (k.used, f s.connection, e, and-false)
      go k false e = rw (k.used, f s.connection, k.live, e)

-- a connection that is not open has no heartbeat
idle_shut : (c : Connection) → connection_obeys c ≡ true → c.live ≡ false → c.beat ≡ 0
unfolding connection_obeys is_closed
idle_shut c o l = eqb-true c.beat 0 (go (eqb c.beat 0) (eqb c.form 0) (rw l at o))
  where
    go : (b f : Bool) → ((f && b && eqb c.silence 0 && eqb c.quiet 0 && not c.due) || false) ≡ true → b ≡ true
    go true f q = refl
    go false true q = q
    go false false q = q

-- ---- a record and an area that hold the bytes j, after one that refusals 1 and 2 let pass
record Into (j : Held) (held area : List ℕ) : Type 0 where
  few : Small j
  counts : held ≡ counts_of j 8
  bytes : area ≡ flat j 8

module _ (r : Record) (area : List ℕ) (w : Kept r area) where
  good : GoodAt r.device (held_in r area)
  good = kept_good r area w

  few : Small (held_in r area)
  few = small r.device (held_in r area) good

  low : (n : ℕ) → live_at r.device.connections n ≡ true → n < 8
  low n l = live_low r.device.connections n 8 l w.eight

  rules : Obeys r.device
  unfolding record_obeys
  rules = obeys_are r.device (and_left (device_obeys r.device) _ w.obeys)

  module _ (next : List Connection) (these : ℕ → Bool) (f : (k : ℕ) → live_at next k ≡ (live_at r.device.connections k && not (these k))) where
    locks_swept : map (swept_holder next) r.device.holders ≡ map (λ (h : ℕ). cond (is_lock_in these h) 0 h) r.device.holders
    locks_swept = map_all (holder_obeys r.device.connections) _ _ (lock_swept r.device.connections next these f) r.device.holders rules.holders

    entries_swept : map (swept_of next) r.device.subscriptions ≡ map (λ (s : Subscription). cond (is_entry_in these s) free s) r.device.subscriptions
    entries_swept = map_all (entry_obeys r.device.connections) _ _ (entry_swept r.device.connections next these f) r.device.subscriptions rules.entries

  module _ (e : Device) (j : Held) (held next : List ℕ) (i : Into j held next) where
    left_in : (n : ℕ) → n < 8 → Gone n r.device e → get_or e.connections n closed ≡ closed → j n ≡ [] → Left n r (state_of e held) next
    left_in n l g b q =
        record {
          gone = g;
          blank = b;
          count = ap (λ (x : List ℕ). get_or x n 0) i.counts ∙ count_empty j n l q;
          bytes = ap (λ (x : List ℕ). area_part x n) i.bytes ∙ part_empty j n i.few l q;
        }

    unmoved_in : (k : ℕ) → k < 8 → Stays k r.device e → j k ≡ held_in r area k → Unmoved k r area (state_of e held) next
    unmoved_in k l g q =
        record {
          stays = g;
          count = ap (λ (x : List ℕ). get_or x k 0) i.counts ∙ count_same (held_in r area) j k l q ∙ ap (λ (x : List ℕ). get_or x k 0) (kept_counts r area w);
          bytes = ap (λ (x : List ℕ). area_part x k) i.bytes ∙ part_same (held_in r area) j k few i.few l q ∙ ap (λ (x : List ℕ). area_part x k) (kept_area r area w);
        }

  -- ---- one connection closed
  module _ (n : ℕ) (l : live_at r.device.connections n ≡ true) where
    put_into : Into (put (held_in r area) n []) (set r.held n 0) (part_cleared area n)
    put_into =
        record {
          few = small_put (held_in r area) n few;
          counts = ap (λ (x : List ℕ). set x n 0) (sym (kept_counts r area w)) ∙ set_counted (held_in r area) 8 n [] (low n l);
          bytes = ap (λ (x : List ℕ). part_cleared x n) (sym (kept_area r area w)) ∙ clear_flat (held_in r area) 8 n few (low n l);
        }

    blank_closed : get_or (close_of r.device n).connections n closed ≡ closed
    unfolding close_of sweep_of
    blank_closed = get_or-set_same r.device.connections n closed closed (omega (arith, low n l, w.eight))

    closed_left : Left n r (closed_state r n) (part_cleared area n)
    unfolding closed_state
    closed_left =
        left_in (close_of r.device n) (put (held_in r area) n []) (set r.held n 0) (part_cleared area n) put_into n (low n l)
        (closure_frees.closing r.device n) blank_closed (put_same (held_in r area) n [])

    closed_others : (k : ℕ) → eqb k n ≡ false → live_at r.device.connections k ≡ true → Unmoved k r area (closed_state r n) (part_cleared area n)
    unfolding closed_state
    closed_others k d v =
        unmoved_in (close_of r.device n) (put (held_in r area) n []) (set r.held n 0) (part_cleared area n) put_into k (low k v)
        (closure_frees.others r.device n k d v) (put_other (held_in r area) n [] k (eqb-false k n d))

    closed_same : (k : ℕ) → eqb k n ≡ false → get_or (closed_state r n).device.connections k closed ≡ get_or r.device.connections k closed
    unfolding closed_state
    closed_same k d = closure_frees.same r.device n k d

  -- the call did that
  record Shuts (n : ℕ) (o : Outcome) : Type 0 where
    live : live_at r.device.connections n ≡ true
    state : o.state ≡ closed_state r n
    next : o.area ≡ part_cleared area n

  closed_one : (n : ℕ) → live_at r.device.connections n ≡ true → (answer output : List ℕ)
      → Closed (λ (k : ℕ). eqb k n) r area (outcome answer (closed_state r n) (part_cleared area n) output)
  unfolding closed_state close_of sweep_of
  closed_one n v answer output =
      record {
        were = λ k e. ap (live_at r.device.connections) (eqb-true k n e) ∙ v;
        after = after;
        left = λ k e. subst (λ (m : ℕ). Left m r (closed_state r n) (part_cleared area n)) (sym (eqb-true k n e)) (closed_left n v);
        others = closed_others n v;
        shut = λ k z. closed_same n v k (apart k z (eqb k n) refl);
        locks = locks_swept (set r.device.connections n closed) (λ (k : ℕ). eqb k n) after;
        entries = entries_swept (set r.device.connections n closed) (λ (k : ℕ). eqb k n) after;
        mutes = refl;
        mechanism = refl;
      }
    where
      apart : (k : ℕ) → live_at r.device.connections k ≡ false → (b : Bool) → eqb k n ≡ b → eqb k n ≡ false
      apart k z true e = clash _ (live_at r.device.connections n) v (ap (live_at r.device.connections) (sym (eqb-true k n e)) ∙ z)
      apart k z false e = e

      after : (k : ℕ) → live_at (close_of r.device n).connections k ≡ (live_at r.device.connections k && not (eqb k n))
      after k = go (eqb k n) refl
        where
          go : (b : Bool) → eqb k n ≡ b → live_at (close_of r.device n).connections k ≡ (live_at r.device.connections k && not (eqb k n))
          go true e = ap (live_at (close_of r.device n).connections) (eqb-true k n e) ∙ live_gone r.device n ∙ rw (e, and-false)
          go false e = live_closed r.device n k e ∙ rw (e, and-true)

  closed_by_lem : (n : ℕ) (o : Outcome) → Shuts n o → ClosedAlone n r area o
  closed_by_lem n o s =
      record {
        one = rw (s.state, s.next) (closed_one n s.live o.answer o.output);
        reading = rw s.state (unfold closed_state in unfold close_of in unfold sweep_of in refl);
        supervised = λ k d. rw s.state (closed_same n s.live k d);
      }

  host : (n : ℕ) → (close_call r area n).answer ≡ 0 ∷ [] → Shuts n (close_call r area n)
  unfolding close_call
  host n p = go (live_at r.device.connections n) refl
    where
      go : (l : Bool) → live_at r.device.connections n ≡ l → Shuts n (close_call r area n)
      go true l = record { live = l; state = rw (w.obeys, w.sound, l); next = rw (w.obeys, w.sound, l) }
      go false l = differ _ 0 (3 ∷ []) (0 ∷ []) (rw (w.obeys, w.sound, l) at p) refl

  fault : (n : ℕ) (piece out : List ℕ) (taken number : ℕ) → (deliver_call r area n piece out).answer ≡ 0 ∷ 3 ∷ taken ∷ number ∷ [] → Shuts n (deliver_call r area n piece out)
  unfolding deliver_call taken_in delivered_by messaged closed_state
  fault n piece out taken number p =
      go (live_at r.device.connections n) refl (ltb (length out) least_output) refl (decide (undecided_of area n (held_at r n) ++ piece)) refl
    where
      go : (l : Bool) → live_at r.device.connections n ≡ l → (b : Bool) → ltb (length out) least_output ≡ b
          → (x : Decision) → decide (undecided_of area n (held_at r n) ++ piece) ≡ x → Shuts n (deliver_call r area n piece out)
      go false l b c x e = differ _ 0 (3 ∷ []) (0 ∷ 3 ∷ taken ∷ number ∷ []) (rw (w.obeys, w.sound, l) at p) refl
      go true l true c x e = differ _ 0 (4 ∷ []) (0 ∷ 3 ∷ taken ∷ number ∷ []) (rw (w.obeys, w.sound, l, c) at p) refl
      go true l false c Undecided e = differ _ 1 (0 ∷ 1 ∷ length piece ∷ []) (0 ∷ 3 ∷ taken ∷ number ∷ []) (rw (w.obeys, w.sound, l, c, e) at p) refl
      go true l false c (Sound t) e = differ _ 1 _ (0 ∷ 3 ∷ taken ∷ number ∷ []) (rw (w.obeys, w.sound, l, c, e) at p) refl
      go true l false c (Faulty f t) e = record { live = l; state = rw (w.obeys, w.sound, l, c, e); next = rw (w.obeys, w.sound, l, c, e) }

  -- ---- a tick
  module _ (reading mask : ℕ) (p : (tick_call r area reading).answer ≡ 0 ∷ mask ∷ []) where
    t : Ticks r area reading
    t = passed r area reading (unfold passes in rw p)

    mask_is : mask ≡ mask_at r reading
    unfolding ticked_by
    mask_is = ap (λ (x : List ℕ). get_or x 1 0) (sym p ∙ ap (λ (o : Outcome). o.answer) t.given)

    only_into : Into (only (open? (tick_of r.device reading).device) (held_in r area)) (held_kept (lives_in (tick_of r.device reading).device) r.held) (closed_cleared (lives_in (tick_of r.device reading).device) area)
    only_into =
        let lives = lives_in (tick_of r.device reading).device in
        record {
          few = small_only (open? (tick_of r.device reading).device) (held_in r area) few;
          counts = ap (held_kept lives) (sym (kept_counts r area w)) ∙ ticked_counts r.device (held_in r area) good reading;
          bytes = ap (closed_cleared lives) (sym (kept_area r area w)) ∙ ticked_area r.device (held_in r area) good reading;
        }

    -- the bit of a connection, set where its silence has come to three heartbeats
    bit_low : (n : ℕ) → bit_of mask n ≡ true → n < 8
    bit_low n b = go (ltb n 8) refl
      where
        go : (x : Bool) → ltb n 8 ≡ x → n < 8
        go true x = ltb-true n 8 x
        go false x =
            let u : length r.device.connections ≤ n = omega (arith, w.eight, ltb-false n 8 x) in
            clash _ (bit_of mask n) b (rw mask_is (mask_beyond (closes_at (step_at r reading)) r.device.connections n u))

    bit_tells : (n : ℕ) → n < 8 → bit_of mask n ≡ closes_at (step_at r reading) (get_or r.device.connections n closed)
    bit_tells n l = rw mask_is (mask_bit (closes_at (step_at r reading)) r.device.connections n closed (omega (arith, w.eight)))

    tick_left : (n : ℕ) → bit_of mask n ≡ true → Left n r (tick_call r area reading).state (tick_call r area reading).area
    unfolding ticked_by only
    tick_left n b =
        let l = bit_low n b in
        let c = sym (bit_tells n l) ∙ b in
        let g = closure_frees.ticking r.device reading n t.timely c in
        let e = (tick_of r.device reading).device in
        rw t.given
        (left_in e (only (open? e) (held_in r area)) (held_kept (lives_in e) r.held) (closed_cleared (lives_in e) area) only_into n l g
        (ticked_at r reading n t.timely ∙ ticked_blank (step_at r reading) (get_or r.device.connections n closed) c)
        (rw g.shut))

    tick_others : (k : ℕ) → bit_of mask k ≡ false → live_at r.device.connections k ≡ true → Unmoved k r area (tick_call r area reading).state (tick_call r area reading).area
    unfolding ticked_by only
    tick_others k b v =
        let l = low k v in
        let g = closure_frees.staying r.device reading k t.timely v (sym (bit_tells k l) ∙ b) in
        let e = (tick_of r.device reading).device in
        rw t.given
        (unmoved_in e (only (open? e) (held_in r area)) (held_kept (lives_in e) r.held) (closed_cleared (lives_in e) area) only_into k l g
        (rw g.live))

    -- the connections after it
    next : List Connection
    next = map (connection_ticked (step_at r reading)) r.device.connections

    swept : (tick_of r.device reading).device ≡ sweep_of (advanced r.device reading next)
    unfolding tick_step next
    swept = rw t.timely

    bit_is : (n : ℕ) → bit_of mask n ≡ closes_at (step_at r reading) (get_or r.device.connections n closed)
    bit_is n = go (ltb n 8) refl
      where
        go : (x : Bool) → ltb n 8 ≡ x → bit_of mask n ≡ closes_at (step_at r reading) (get_or r.device.connections n closed)
        go true x = bit_tells n (ltb-true n 8 x)
        go false x =
            let u : length r.device.connections ≤ n = omega (arith, w.eight, ltb-false n 8 x) in
            rw (mask_is, mask_beyond (closes_at (step_at r reading)) r.device.connections n u, get_or-eq_default r.device.connections closed u)
            (sym (never_idle (step_at r reading) closed refl))

    live_next : (n : ℕ) → live_at next n ≡ (live_at r.device.connections n && not (bit_of mask n))
    unfolding live_at next connection_ticked
    live_next n =
        ap (λ (c : Connection). c.live) (get_or-map (connection_ticked (step_at r reading)) r.device.connections n closed)
        ∙ supervision_kept.leaving (step_at r reading) (get_or r.device.connections n closed) ∙ rw (bit_is n)

    -- whoever is not open has no heartbeat
    idle : (n : ℕ) → live_at r.device.connections n ≡ false → (get_or r.device.connections n closed).beat ≡ 0
    unfolding live_at
    idle n z =
        idle_shut (get_or r.device.connections n closed)
        (all_get_d connection_obeys r.device.connections n closed rules.connections supervision_kept.shut) z

    were : (n : ℕ) → bit_of mask n ≡ true → live_at r.device.connections n ≡ true
    were n b = go (live_at r.device.connections n) refl
      where
        go : (l : Bool) → live_at r.device.connections n ≡ l → live_at r.device.connections n ≡ true
        go true l = l
        go false l = clash _ (bit_of mask n) b (bit_is n ∙ never_idle (step_at r reading) (get_or r.device.connections n closed) (idle n l))

    shut_same : (n : ℕ) → live_at r.device.connections n ≡ false
        → connection_ticked (step_at r reading) (get_or r.device.connections n closed) ≡ get_or r.device.connections n closed
    unfolding connection_ticked
    shut_same n z = rw (eq-eqb (get_or r.device.connections n closed).beat 0 (idle n z))

    closed_by_tick : ClosedByTick mask r area (tick_call r area reading)
    unfolding ticked_by sweep_of
    closed_by_tick =
        record {
          byte = rw mask_is (mask_small (closes_at (step_at r reading)) r.device.connections 8 (omega (arith, w.eight)));
          masked =
              record {
                were = were;
                after = λ n. rw (t.given, swept) (live_next n);
                left = tick_left;
                others = tick_others;
                shut = λ n z. rw t.given (ticked_at r reading n t.timely ∙ shut_same n z);
                locks = rw (t.given, swept) (locks_swept next (bit_of mask) live_next);
                entries = rw (t.given, swept) (entries_swept next (bit_of mask) live_next);
                mutes = rw (t.given, swept) refl;
                mechanism = rw (t.given, swept) refl;
              };
        }

-- ---- an opening

-- where the rules hold, a connection that is not open has no lock and no entry
module _ (cs : List Connection) (n : ℕ) (z : live_at cs n ≡ false) where
  lock_none : (x : ℕ) → holder_obeys cs x ≡ true → cond (is_lock_of n x) x 0 ≡ 0
  unfolding is_lock_of holder_obeys
  lock_none x o = go (eqb x (n + 1)) refl
    where
      go : (b : Bool) → eqb x (n + 1) ≡ b → cond b x 0 ≡ 0
      go false b = refl
      go true b =
          let e = eqb-true x (n + 1) b in
          let p : x - 1 ≡ n = omega arith in
          clash _ (live_at cs n) (rw (ne_eqb x 0 (λ q. omega arith), p) at o) z

  entry_none : (s : Subscription) → entry_obeys cs s ≡ true → cond (is_entry_of n s) s free ≡ free
  unfolding is_entry_of
  entry_none s o = ⊎_elim (λ (f : is_free s ≡ true). rw (free_unused s f)) (λ (k : entries.Sound cs s). go k (eqb s.connection n) refl) (entry_view cs s o)
    where
      go : entries.Sound cs s → (b : Bool) → eqb s.connection n ≡ b → cond (s.used && b) s free ≡ free
      go k true b = clash _ (live_at cs n) (ap (live_at cs) (sym (eqb-true s.connection n b)) ∙ k.live) z
      go k false b = rw and-false

module _ (r : Record) (area : List ℕ) (w : Kept r area) (n : ℕ) (p : (open_call r).answer ≡ 0 ∷ n ∷ []) where
  -- what it did: n is the lowest free number
  record Opens : Type 0 where
    some : any connections.is_not_open r.device.connections ≡ true
    number : lowest_free r.device.connections ≡ n
    state : (open_call r).state ≡ state_of (with_connections r.device (set r.device.connections n opened)) r.held

  opens : Opens
  unfolding open_call opened_by open_of
  opens = go (any connections.is_not_open r.device.connections) refl
    where
      go : (b : Bool) → any connections.is_not_open r.device.connections ≡ b → Opens
      go true b =
          let q : ◌≡◌ {A = List ℕ} (0 ∷ lowest_free r.device.connections ∷ []) (0 ∷ n ∷ []) = rw (w.obeys, b) at p in
          let e : lowest_free r.device.connections ≡ n = ap (λ (x : List ℕ). get_or x 1 0) q in
          record { some = b; number = e; state = rw (w.obeys, b, e) }
      go false b = differ _ 0 (5 ∷ []) (0 ∷ n ∷ []) (rw (w.obeys, b) at p) refl

  under : n < length r.device.connections
  under =
      rw opens.number at
      (ltb-true (lowest_free r.device.connections) (length r.device.connections) (sym (any_index connections.is_not_open r.device.connections) ∙ opens.some))

  shut : live_at r.device.connections n ≡ false
  unfolding live_at connections.is_not_open
  shut =
      not-true _
      (rw opens.number at (index_meets connections.is_not_open r.device.connections closed (rw opens.number under)))

  new : New n r (open_call r).state area
  unfolding locks_of subscriptions_of no_locks no_entries record_obeys
  new =
      let d = r.device in
      let l : n < 8 = omega (arith, under, w.eight) in
      let o = obeys_are d (and_left (device_obeys d) _ w.obeys) in
      let q = (good r area w).empty n shut in
      rw opens.state
      (record {
        free = shut;
        connection = get_or-set_same d.connections n opened closed under;
        locks = map_all (holder_obeys d.connections) _ _ (lock_none d.connections n shut) d.holders o.holders;
        entries = map_all (entry_obeys d.connections) _ _ (entry_none d.connections n shut) d.subscriptions o.entries;
        count = ap (λ (x : List ℕ). get_or x n 0) (sym (kept_counts r area w)) ∙ count_empty (held_in r area) n l q;
        bytes = ap (λ (x : List ℕ). area_part x n) (sym (kept_area r area w)) ∙ part_empty (held_in r area) n (few r area w) l q;
      })

  open_others_lem : (k : ℕ) → live_at r.device.connections k ≡ true → Unmoved k r area (open_call r).state area
  unfolding locks_of subscriptions_of
  open_others_lem k v =
      rw opens.state
      (record { stays = record { live = live_still r.device n k v; locks = refl; entries = refl }; count = refl; bytes = refl })

pub closure_leaves_nothing : ClosureLeavesNothing
closure_leaves_nothing =
    record {
      by_host = λ r area n w p. closed_by_lem r area w n (close_call r area n) (host r area w n p);
      by_fault = λ r area n piece out taken number w p. closed_by_lem r area w n (deliver_call r area n piece out) (fault r area w n piece out taken number p);
      by_tick = λ r area reading mask w. closed_by_tick r area w.kept reading mask w.answer;
      reopened = λ r area n w. new r area w.kept n w.answer;
      open_others = λ r area n w. open_others_lem r area w.kept n w.answer;
    }

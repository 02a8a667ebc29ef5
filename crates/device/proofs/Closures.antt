-- A closure frees what the connection had, and nothing else. No code is named. Assumes nothing.
use Rattle.std.proofs.Common.{◌≡◌, ℕ, ◌+◌, ◌-◌, ◌<◌, Bool, true, false, cond, not, ◌&&◌, eqb, ltb, List, [], map, length, get_or, set, sym, refl, ap, ◌∙◌, ⊎_elim, arith, get_or-set_other, get_or-set_same, ltb-false, ltb-true, ne_eqb, eqb-true}
use Rattle.std.proofs.Math.Bool.{and-false}
use Rattle.std.proofs.lemmas.Bool.{eqb-false}
use Rattle.std.proofs.Math.ListN.{get_or-eq_default, get_or-map}
use Rattle.std.proofs.Math.Seq.{set_out}
use Rattle.laws.proofs.Tables.{clash, map_same, map_all, map_map}
use Rattle.connection.specs.State.{closed, live_at}
use Rattle.connection.specs.Supervision.{connection_ticked}
use Rattle.connection.specs.declared.Connection.{Connection}
use Rattle.connection.proofs.Keeps.{supervision_kept}
use Rattle.subscription.specs.State.{free, swept_of}
use Rattle.subscription.specs.Obeys.{is_free, entry_obeys}
use Rattle.subscription.specs.declared.Subscription.{Subscription}
use Rattle.subscription.proofs.Keeps.{Sound, entry_view, free_unused}
use Rattle.objects.specs.Methods.{lock_method}
use Rattle.holders.specs.Holders.{is_other, holder_obeys, swept_holder}
use Rattle.holders.proofs.Keeps.{holders_kept}
use Rattle.device.specs.State.{sweep_of, close_of}
use Rattle.device.specs.Obeys.{device_obeys}
use Rattle.device.specs.Run.{run_of}
use Rattle.device.specs.Time.{step_of, advanced, tick_step, tick_of}
use Rattle.device.specs.Closure.{is_lock_of, is_entry_of, locks_of, subscriptions_of, no_locks, no_entries, Gone, Stays, freed_of, Passing, is_expiring, ClosureFrees}
use Rattle.device.specs.declared.Device.{Device}
use Rattle.device.proofs.Keeps.{obeys_are}
use Rattle.device.proofs.Commands.{lock_free}

-- ---- one holder, one entry
module _ (cs : List Connection) (n : ℕ) where
  -- a lock of connection n obeys exactly where n is open
  owner_live : (h : ℕ) → is_lock_of n h ≡ true → holder_obeys cs h ≡ live_at cs n
  unfolding is_lock_of holder_obeys
  owner_live h e =
      let q = eqb-true h (n + 1) e in
      let p : h - 1 ≡ n = omega arith in
      rw (ne_eqb h 0 (λ z. omega arith), p)

  lock_gone : live_at cs n ≡ false → (h : ℕ) → cond (is_lock_of n (swept_holder cs h)) (swept_holder cs h) 0 ≡ 0
  lock_gone l h = go (is_lock_of n k) refl
    where
      k : ℕ
      k = swept_holder cs h

      go : (t : Bool) → is_lock_of n k ≡ t → cond t k 0 ≡ 0
      go true e = clash (k ≡ 0) (live_at cs n) (sym (owner_live k e) ∙ holders_kept.sweeping cs h) l
      go false e = refl

  lock_stays : live_at cs n ≡ true → (h : ℕ) → cond (is_lock_of n (swept_holder cs h)) (swept_holder cs h) 0 ≡ cond (is_lock_of n h) h 0
  unfolding swept_holder
  lock_stays l h = go (holder_obeys cs h) refl (is_lock_of n h) refl
    where
      zero_is : (t : Bool) → ◌≡◌ {A = ℕ} (cond t 0 0) 0
      zero_is true = refl
      zero_is false = refl

      go : (o : Bool) → holder_obeys cs h ≡ o → (t : Bool) → is_lock_of n h ≡ t → cond (is_lock_of n (cond o h 0)) (cond o h 0) 0 ≡ cond (is_lock_of n h) h 0
      go true o t e = refl
      go false o true e = clash _ (holder_obeys cs h) (owner_live h e ∙ l) o
      go false o false e = zero_is (is_lock_of n 0) ∙ rw e

  entry_gone : live_at cs n ≡ false → (s : Subscription) → cond (is_entry_of n (swept_of cs s)) (swept_of cs s) free ≡ free
  unfolding swept_of is_entry_of
  entry_gone l s = go s.used refl (live_at cs s.connection) refl (eqb s.connection n) refl
    where
      go : (u : Bool) → s.used ≡ u → (v : Bool) → live_at cs s.connection ≡ v → (t : Bool) → eqb s.connection n ≡ t → cond (is_entry_of n (swept_of cs s)) (swept_of cs s) free ≡ free
      go false u v e t f = rw u
      go true u false e t f = rw (u, e)
      go true u true e true f = clash _ (live_at cs n) (ap (live_at cs) (sym (eqb-true s.connection n f)) ∙ e) l
      go true u true e false f = rw (u, e, f)

  entry_stays : live_at cs n ≡ true → (s : Subscription) → cond (is_entry_of n (swept_of cs s)) (swept_of cs s) free ≡ cond (is_entry_of n s) s free
  unfolding swept_of is_entry_of
  entry_stays l s = go s.used refl (live_at cs s.connection) refl (eqb s.connection n) refl
    where
      go : (u : Bool) → s.used ≡ u → (v : Bool) → live_at cs s.connection ≡ v → (t : Bool) → eqb s.connection n ≡ t → cond (is_entry_of n (swept_of cs s)) (swept_of cs s) free ≡ cond (is_entry_of n s) s free
      go false u v e t f = rw u
      go true u true e t f = rw (u, e)
      go true u false e true f = clash _ (live_at cs n) l (ap (live_at cs) (sym (eqb-true s.connection n f)) ∙ e)
      go true u false e false f = rw (u, e, f)

-- ---- a sweep, whatever connections come
module _ (d : Device) (reading : ℕ) (cs : List Connection) (n : ℕ) where
  sweep_gone : live_at cs n ≡ false → Gone n d (sweep_of (advanced d reading cs))
  unfolding sweep_of locks_of subscriptions_of no_locks no_entries
  sweep_gone l =
      record {
        shut = l;
        locks = map_map (swept_holder cs) _ d.holders ∙ map_same _ _ (lock_gone cs n l) d.holders;
        entries = map_map (swept_of cs) _ d.subscriptions ∙ map_same _ _ (entry_gone cs n l) d.subscriptions;
      }

  sweep_stays : live_at cs n ≡ true → Stays n d (sweep_of (advanced d reading cs))
  unfolding sweep_of locks_of subscriptions_of
  sweep_stays l =
      record {
        live = l;
        locks = map_map (swept_holder cs) _ d.holders ∙ map_same _ _ (lock_stays cs n l) d.holders;
        entries = map_map (swept_of cs) _ d.subscriptions ∙ map_same _ _ (entry_stays cs n l) d.subscriptions;
      }

-- ---- the host's close
live_closed : (cs : List Connection) (n : ℕ) → live_at (set cs n closed) n ≡ false
unfolding live_at
live_closed cs n = go (ltb n (length cs)) refl
  where
    go : (t : Bool) → ltb n (length cs) ≡ t → live_at (set cs n closed) n ≡ false
    go true e = ap (λ (c : Connection). c.live) (get_or-set_same cs n closed closed (ltb-true n (length cs) e))
    go false e =
        let k = ltb-false n (length cs) e in
        rw (set_out cs n closed k) (ap (λ (c : Connection). c.live) (get_or-eq_default cs closed k))

live_other : (cs : List Connection) (n k : ℕ) → eqb k n ≡ false → live_at (set cs n closed) k ≡ live_at cs k
unfolding live_at
live_other cs n k e = ap (λ (c : Connection). c.live) (get_or-set_other cs n k closed closed (eqb-false k n e))

closing : (d : Device) (n : ℕ) → Gone n d (close_of d n)
unfolding close_of
closing d n = sweep_gone d d.reading (set d.connections n closed) n (live_closed d.connections n)

others : (d : Device) (n k : ℕ) → eqb k n ≡ false → live_at d.connections k ≡ true → Stays k d (close_of d n)
unfolding close_of
others d n k e l = sweep_stays d d.reading (set d.connections n closed) k (live_other d.connections n k e ∙ l)

same : (d : Device) (n k : ℕ) → eqb k n ≡ false → get_or (close_of d n).connections k closed ≡ get_or d.connections k closed
unfolding close_of sweep_of
same d n k e = get_or-set_other d.connections n k closed closed (eqb-false k n e)

-- ---- the closure in the words of R60
free_as : (cs : List Connection) (n : ℕ) (s : Subscription) → entry_obeys cs s ≡ true → swept_of (set cs n closed) s ≡ cond (is_entry_of n s) free s
unfolding swept_of is_entry_of
free_as cs n s o = ⊎_elim idle (λ (k : Sound cs s). busy k (eqb s.connection n) refl) (entry_view cs s o)
  where
    idle : is_free s ≡ true → swept_of (set cs n closed) s ≡ cond (is_entry_of n s) free s
    idle f = rw (free_unused s f)

    busy : Sound cs s → (t : Bool) → eqb s.connection n ≡ t → swept_of (set cs n closed) s ≡ cond (is_entry_of n s) free s
    busy k true e =
        let q : live_at (set cs n closed) s.connection ≡ false = ap (live_at (set cs n closed)) (eqb-true s.connection n e) ∙ live_closed cs n in
        rw (k.used, q, e)
    busy k false e =
        let q : live_at (set cs n closed) s.connection ≡ true = live_other cs n s.connection e ∙ k.live in
        rw (k.used, q, e)

release_as : (cs : List Connection) (n h : ℕ) → holder_obeys cs h ≡ true → swept_holder (set cs n closed) h ≡ cond (is_lock_of n h) 0 h
unfolding swept_holder holder_obeys is_lock_of
release_as cs n h o = go (eqb h (n + 1)) refl
  where
    stands : eqb h (n + 1) ≡ false → (z : Bool) → eqb h 0 ≡ z → holder_obeys (set cs n closed) h ≡ true
    stands e true z = rw z
    stands e false z =
        let a = eqb-false h (n + 1) e in
        let c = eqb-false h 0 z in
        rw (z, live_other cs n (h - 1) (ne_eqb (h - 1) n (λ q. omega arith))) (rw z at o)

    go : (t : Bool) → eqb h (n + 1) ≡ t → cond (holder_obeys (set cs n closed) h) h 0 ≡ cond t 0 h
    go true e = rw (owner_live (set cs n closed) n h e, live_closed cs n)
    go false e = rw (stands e (eqb h 0) refl)

wording : (d : Device) (n : ℕ) → device_obeys d ≡ true → close_of d n ≡ freed_of d n
unfolding close_of freed_of sweep_of
wording d n h =
    let o = obeys_are d h in
    rw (
      map_all (entry_obeys d.connections) _ _ (free_as d.connections n) d.subscriptions o.entries,
      map_all (holder_obeys d.connections) _ _ (release_as d.connections n) d.holders o.holders,
    )

-- ---- a tick
module _ (d : Device) (reading n : ℕ) (p : Passing d reading) where
  -- connection n after the tick
  live_ticked : live_at (map (connection_ticked (step_of reading d.reading)) d.connections) n ≡ (live_at d.connections n && not (is_expiring d reading n))
  unfolding live_at connection_ticked
  live_ticked =
      ap (λ (c : Connection). c.live) (get_or-map (connection_ticked (step_of reading d.reading)) d.connections n closed)
      ∙ supervision_kept.leaving (step_of reading d.reading) (get_or d.connections n closed)

  ticking : is_expiring d reading n ≡ true → Gone n d (tick_of d reading).device
  unfolding tick_step
  ticking c =
      rw p
      (sweep_gone d reading (map (connection_ticked (step_of reading d.reading)) d.connections) n (live_ticked ∙ rw (c, and-false)))

  staying : live_at d.connections n ≡ true → is_expiring d reading n ≡ false → Stays n d (tick_of d reading).device
  unfolding tick_step
  staying l c =
      rw p
      (sweep_stays d reading (map (connection_ticked (step_of reading d.reading)) d.connections) n (live_ticked ∙ rw (l, c)))

-- ---- a lock that is free again
-- the holder at a place after a sweep
swept_at : (cs : List Connection) (hs : List ℕ) (n at : ℕ) → live_at cs n ≡ false → get_or hs at 0 ≡ n + 1 → get_or (map (swept_holder cs) hs) at 0 ≡ 0
unfolding swept_holder holder_obeys
swept_at cs hs n at l e =
    let p : n + 1 - 1 ≡ n = omega arith in
    get_or-map (swept_holder cs) hs at 0 ∙ rw (e, ne_eqb (n + 1) 0 (λ z. omega arith), p, l)

pub free_locks : (d : Device) (k at : ℕ) → at < 8 → get_or d.holders at 0 ≡ 0 → (run_of d k (4097 + at) lock_method 0 []).answer.status ≡ 0
unfolding is_other
free_locks d k at h e = lock_free d k at h (is_other (get_or d.holders at 0) k) refl (rw e)

releasing : (d : Device) (n k at : ℕ) → at < 8 → get_or d.holders at 0 ≡ n + 1 → (run_of (close_of d n) k (4097 + at) lock_method 0 []).answer.status ≡ 0
unfolding close_of sweep_of
releasing d n k at h e =
    free_locks (close_of d n) k at h (swept_at (set d.connections n closed) d.holders n at (live_closed d.connections n) e)

expiring : (d : Device) (reading n k at : ℕ) → Passing d reading → is_expiring d reading n ≡ true → at < 8 → get_or d.holders at 0 ≡ n + 1 → (run_of (tick_of d reading).device k (4097 + at) lock_method 0 []).answer.status ≡ 0
unfolding tick_step sweep_of
expiring d reading n k at p c h e =
    let cs = map (connection_ticked (step_of reading d.reading)) d.connections in
    rw p
    (free_locks (sweep_of (advanced d reading cs)) k at h
    (swept_at cs d.holders n at (live_ticked d reading n p ∙ rw (c, and-false)) e))

pub closure_frees : ClosureFrees
closure_frees =
    record {
      closing = closing;
      others = others;
      same = same;
      wording = wording;
      releasing = releasing;
      ticking = ticking;
      staying = staying;
      expiring = expiring;
    }

-- Every call, on a lent state, is the step of the machine over pieces: for Kept, Whole and Closure. Assumes nothing.
use Rattle.std.specs.Prelude.{Option, Some, None}
use Prim.Native.Nat.{ℕ}
use mathlib.Core.Path.{◌≡◌, refl, sym, ◌∙◌, fun_ext}
use mathlib.Core.Bool.{Bool, cond, true, false, true≢false}
use mathlib.Core.List.{List, [], ◌∷◌, ◌++◌}
use lib.Dec.{ltb, eqb}
use lib.ListN.{length, get_or}
use borrow.Author.Tests.{eqb-true, eqb-false}
use Rattle.mechanism.specs.Datagram.{resets}
use Rattle.area.specs.Area.{part_cleared, closed_cleared, held_kept}
use Rattle.connection.specs.State.{connection_count, live_at, lowest_due}
use Rattle.frame.specs.Decide.{decide, settled}
use Rattle.subscription.specs.State.{entry_count, lowest_waiting}
use Rattle.device.specs.State.{fresh_of, open_of, close_of, sent_at, lives_in}
use Rattle.device.specs.Time.{tick_of}
use Rattle.device.specs.declared.Device.{Device}
use Rattle.stream.specs.Calls.{deliver, ask, asked, Held, none_held, put, only}
use Rattle.stream.specs.Scaffold.{Answer, whole, delivered, step}
use Rattle.stream.specs.Lent.{flat, counts_of}
use Rattle.stream.proofs.Lent.{clear_flat, put_same, put_other, set_counted, closed_flat, held_counted, counted_none, flat_none}
use Rattle.endpoint.specs.State.{fresh_state, closed_state}
use Rattle.endpoint.specs.Outcome.{Outcome, outcome}
use Rattle.endpoint.specs.Calls.{opened_by, open_call, close_call, ticked_by, tick_call}
use Rattle.replies.specs.Bytes.{least_output}
use Rattle.delivery.specs.Intake.{taken_in}
use Rattle.endpoint.specs.Deliver.{deliver_call, with_intake}
use Rattle.taking.specs.Dispatch.{notified_of, notifying, reminding, taken_by, dispatched}
use Rattle.endpoint.specs.Take.{take_call, with_dispatch}
use Rattle.reset.specs.Datagram.{restarted, datagram_call}
use Rattle.endpoint.proofs.States.{live_low}
use Rattle.promise.specs.Rulebook as rules
use Rattle.promise.specs.Rulebook.{Ask, opening, closing, ticking, taking, datagram, Given, given, rule, open_by, close_by, take_by, reset_by, open?, admit}
use Rattle.promise.specs.Calls.{HostCall, call_of, record_with, area_with}
use Rattle.promise.specs.Scaffold.{outcome_of}
use Rattle.promise.proofs.OpenConnections.{GoodAt, record_obeys_lem, only_same, live_closed, live_gone, live_alike, lives_sent, lives_notified, open_still, lives_eight, fresh_shut}
use Rattle.promise.proofs.DeviceLaws.{length_tick}
use Rattle.promise.proofs.Deliveries.{small, area_sound_lem, taken_told}

-- what the machine does with a call that is no delivery
abbrev pub asks : Device → Held → Ask → (Device × Held) × Answer Given
asks d h a = whole rule open? admit d h (asked a) 0

abbrev pub Told : Device → Held → HostCall → Type 0
Told d h c =
    let s = step rule open? admit d h c in
    call_of (record_with d h) (area_with h) c ≡ outcome_of c s.0.0 s.0.1 s.1

-- what a call leaves where the rules come to s
abbrev leaving : Held → Device × Given → Outcome
leaving h s = outcome s.1.answer (record_with s.0 (only (open? s.0) h)) (area_with (only (open? s.0) h)) s.1.output

module _ (d : Device) (h : Held) (good : GoodAt d h) where
  -- where no open connection was closed, the bytes are as they were
  still : (e : Device) → ((k : ℕ) → live_at d.connections k ≡ true → live_at e.connections k ≡ true) → only (open? e) h ≡ h
  still e f = only_same (open? e) h (λ k z. none k z (live_at d.connections k) refl)
    where
      none : (k : ℕ) → live_at e.connections k ≡ false → (b : Bool) → live_at d.connections k ≡ b → h k ≡ []
      none k z true l = absurd (true≢false (sym (f k l) ∙ z))
      none k z false l = good.empty k l

  alike : (e : Device) → lives_in e ≡ lives_in d → only (open? e) h ≡ h
  alike e q = still e (λ k l. live_alike d e k q ∙ l)

  same : only (open? d) h ≡ h
  same = alike d refl

  pub open_told : Told d h (ask opening)
  unfolding call_of open_call step whole rule outcome_of opened_by open_by
  open_told = rw (record_obeys_lem d h good) (go (open_of d).answer)
    where
      go : (x : Option ℕ)
          → let o = opened_by x (record_with d h) (open_of d) in
          outcome o.answer o.state (area_with h) []
          ≡ leaving h (open_by x d (open_of d).device)
      go (Some i) = rw (still (open_of d).device (open_still d))
      go None = rw same

  -- the bytes of the connection that is closed are gone
  closed_bytes : (n : ℕ) → only (open? (close_of d n)) h ≡ put h n []
  unfolding only
  closed_bytes n = fun_ext λ k. go k (eqb k n) refl (live_at d.connections k) refl
    where
      go : (k : ℕ) (b : Bool) → eqb k n ≡ b → (l : Bool) → live_at d.connections k ≡ l → cond (live_at (close_of d n).connections k) (h k) [] ≡ put h n [] k
      go k true e l q = rw (eqb-true k n e, live_gone d n, put_same h n [])
      go k false e true q = rw (live_closed d n k e, q) (sym (put_other h n [] k (eqb-false k n e)))
      go k false e false q = rw (live_closed d n k e, q) (sym (put_other h n [] k (eqb-false k n e) ∙ good.empty k q))

  pub close_told : (n : ℕ) → Told d h (ask (closing n))
  unfolding call_of close_call step whole rule outcome_of close_by closed_state
  close_told n = rw (record_obeys_lem d h good, area_sound_lem d h good) (go (live_at d.connections n) refl)
    where
      go : (b : Bool) → live_at d.connections n ≡ b
          → cond {A = Outcome} b (outcome (0 ∷ []) (closed_state (record_with d h) n) (part_cleared (area_with h) n) [])
          (outcome (3 ∷ []) (record_with d h) (area_with h) [])
          ≡ leaving h (close_by b d n)
      go true l =
          let low = live_low d.connections n 8 l good.fine.eight in
          rw (closed_bytes n, set_counted h 8 n [] low, clear_flat h 8 n (small d h good) low)
      go false l = rw same

  -- a tick keeps the number of connections
  pub length_ticked : (reading : ℕ) → length (tick_of d reading).device.connections ≡ 8
  length_ticked reading = length_tick d reading ∙ good.fine.eight

  -- whoever is then not open has no count and no byte
  pub ticked_counts : (reading : ℕ) → held_kept (lives_in (tick_of d reading).device) (counts_of h 8) ≡ counts_of (only (open? (tick_of d reading).device) h) 8
  ticked_counts reading = rw (← lives_eight (tick_of d reading).device (length_ticked reading)) (held_counted (open? (tick_of d reading).device) h 8)

  pub ticked_area : (reading : ℕ) → closed_cleared (lives_in (tick_of d reading).device) (area_with h) ≡ flat (only (open? (tick_of d reading).device) h) 8
  ticked_area reading = rw (← lives_eight (tick_of d reading).device (length_ticked reading)) (closed_flat (open? (tick_of d reading).device) h 8 (small d h good))

  pub tick_told : (reading : ℕ) → Told d h (ask (ticking reading))
  unfolding call_of tick_call step whole rule outcome_of ticked_by rules.tick_by
  tick_told reading = rw (record_obeys_lem d h good, area_sound_lem d h good) (go (tick_of d reading).answer)
    where
      go : (x : Option ℕ)
          → ticked_by x (record_with d h) (tick_of d reading) (area_with h)
          ≡ leaving h (rules.tick_by x d (tick_of d reading).device)
      go (Some m) = rw (ticked_counts reading, ticked_area reading)
      go None = rw same

  pub take_told : (out : List ℕ) → Told d h (ask (taking out))
  unfolding call_of take_call step whole rule outcome_of take_by taken_by notifying reminding
  take_told out = rw (record_obeys_lem d h good) (go (ltb (length out) least_output))
    where
      way : (b c : Bool)
          → let q = taken_by b c d out (lowest_waiting d.subscriptions) (lowest_due d.connections) in
          outcome q.answer (record_with q.device h) (area_with h) q.output
          ≡ leaving h (q.device, given q.answer q.output)
      way true c = rw (alike (notified_of d (lowest_waiting d.subscriptions)) (lives_notified d (lowest_waiting d.subscriptions)))
      way false true = rw (alike (sent_at d (lowest_due d.connections)) (lives_sent d (lowest_due d.connections)))
      way false false = rw same

      go : (a : Bool)
          → let o = cond {A = Outcome} a (outcome (4 ∷ []) (record_with d h) [] out) (with_dispatch (record_with d h) (dispatched d out)) in
          outcome o.answer o.state (area_with h) o.output
          ≡ leaving h (take_by a d out)
      go true = rw same
      go false = way (ltb (lowest_waiting d.subscriptions) entry_count) (ltb (lowest_due d.connections) connection_count)

  -- of a fresh device no connection is open, so no byte is left
  none_left : (reading : ℕ) → only (open? (fresh_of reading)) h ≡ none_held
  unfolding only
  none_left reading = fun_ext λ n. rw (fresh_shut reading n)

  pub datagram_told : (g : List ℕ) → Told d h (ask (datagram g))
  unfolding call_of datagram_call restarted step whole rule outcome_of reset_by fresh_state
  datagram_told g = rw (record_obeys_lem d h good, area_sound_lem d h good) (go (resets d.mechanism g))
    where
      go : (b : Bool)
          → cond {A = Outcome} b (restarted (record_with d h)) (outcome (0 ∷ 0 ∷ []) (record_with d h) (area_with h) [])
          ≡ leaving h (reset_by b d)
      go true = rw (none_left d.reading, counted_none 8, flat_none 8)
      go false = rw same

  pub deliver_told : (n : ℕ) (p out : List ℕ) → Told d h (deliver n p out)
  unfolding call_of deliver_call step admit outcome_of delivered
  deliver_told n p out =
      rw (record_obeys_lem d h good, area_sound_lem d h good) (go (live_at d.connections n) refl (ltb (length out) least_output))
    where
      go : (l : Bool) → live_at d.connections n ≡ l → (b : Bool)
          → let s = delivered rule open? admit (cond l (cond b 4 0) 3) (settled (decide (h n ++ p))) d h n p out in
          cond {A = Outcome} l (cond b (outcome (4 ∷ []) (record_with d h) (area_with h) out) (with_intake (record_with d h) n (taken_in d (area_with h) n (get_or (counts_of h 8) n 0) p out)))
          (outcome (3 ∷ []) (record_with d h) (area_with h) out)
          ≡ outcome_of (deliver n p out) s.0.0 s.0.1 s.1
      go false e b = refl
      go true e true = refl
      go true e false = taken_told d h good n e p out

  -- THE BRIDGE: every call, by the definition that its contract cites
  pub told : (c : HostCall) → Told d h c
  told (deliver n p out) = deliver_told n p out
  told (ask opening) = open_told
  told (ask (closing n)) = close_told n
  told (ask (ticking reading)) = tick_told reading
  told (ask (taking out)) = take_told out
  told (ask (datagram g)) = datagram_told g

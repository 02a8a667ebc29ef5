-- A channel that nobody asks for stays free: for Reset, and for the technician. Assumes nothing.
use Rattle.std.specs.Prelude.{Option, Some, None}
use Prim.Native.Nat.{ℕ, zero, suc, ◌+◌, ◌^◌, ◌≤◌}
use mathlib.Core.Path.{◌≡◌, refl, sym, ap, ◌∙◌}
use mathlib.Core.Bool.{Bool, cond, true, false, not, ◌&&◌}
use mathlib.Core.List.{List, [], ◌∷◌, map}
use native.Mathlib.Omega.{arith}
use native.Mathlib.Decide.{dec_le}
use borrow.Author.Tests.{eqb-true, eqb-false, eq-eqb, not-true}
use lib.Dec.{eqb, ltb, leb}
use lib.ListN.{length, get_or, set, take, drop, get_or-map}
use lib.Seq.{get_or-set_same, get_or-set_other, set_out}
use Rattle.laws.specs.Lists.{any}
use Rattle.laws.proofs.Conds.{and_left, and_right, either}
use Rattle.laws.proofs.Tables.{clash, or_neither}
use Rattle.octets.specs.Zeros.{zeros}
use Rattle.frame.specs.Limits.{header_end, notification}
use Rattle.frame.specs.Header.{pdu_type, message_count}
use Rattle.frame.specs.Entry.{entry_size}
use Rattle.frame.specs.Decide.{decide}
use Rattle.frame.specs.declared.Decision.{Decision}
use Rattle.frame.specs.declared.Decision.TheVariants.{Undecided, Faulty, Sound}
use Rattle.fields.specs.Fields.{command_of}
use Rattle.area.specs.Area.{area_bytes}
use Rattle.mechanism.specs.Datagram as datagrams
use Rattle.connection.specs.State.{live_at, is_not_open}
use Rattle.connection.specs.declared.Connection.{Connection}
use Rattle.objects.specs.Methods.{lock_method, place_of, is_object, is_locking, is_mute}
use Rattle.objects.specs.Tests.{is_forbidden}
use Rattle.holders.specs.Holders.{owner_of, holder_obeys, swept_holder}
use Rattle.device.specs.State.{Opened, mute_count, fresh_of, open_of, sweep_of, close_of, heard_at, sent_at, told_at, beating_at}
use Rattle.device.specs.Time.{Ticked, step_of, tick_step, tick_of}
use Rattle.device.specs.Run.{status_of, done_of}
use Rattle.device.specs.Run as commands
use Rattle.device.specs.declared.Device.{Device}
use Rattle.device.proofs.Shapes.{target_is, status_allowed}
use Rattle.serve.specs.Serve.{ran_with, ran_first, last_of}
use Rattle.serve.specs.Sound.{Ruled, commands_of, kept_alive, sound_of}
use Rattle.stream.specs.Calls.{handed, asked, none_held, rules, AllBytes}
use Rattle.endpoint.specs.State.{fresh_state}
use Rattle.replies.specs.Bytes.{least_output}
use Rattle.taking.specs.Dispatch.{notified_of}
use Rattle.endpoint.specs.declared.Record.{Record}
use Rattle.promise.specs.Rulebook as ruling
use Rattle.promise.specs.Rulebook.{opening, closing, ticking, taking, datagram, Asked, message_by, open_by, close_by, reset_by, rule}
use Rattle.promise.specs.Calls.{HostCall, run_calls}
use Rattle.promise.specs.Whole.{wholes_of}
use Rattle.promise.specs.Reset.{asks_with, asks_over, asks_in, asks_for, nobody_asks}
use Rattle.promise.proofs.OpenConnections.{get_d_alike}
use Rattle.promise.proofs.Ways.{take_ways, done_ways, run_ways}
use Rattle.promise.proofs.Whole.{demand_three}

-- ---- a holder at a place
pub swept_none : (cs : List Connection) → swept_holder cs 0 ≡ 0
unfolding swept_holder
swept_none cs = either (λ (x : ℕ). x ≡ 0) (holder_obeys cs 0) 0 0 refl refl

pub swept_free : (cs : List Connection) (hs : List ℕ) (at : ℕ) → get_or hs at 0 ≡ 0 → get_or (map (swept_holder cs) hs) at 0 ≡ 0
swept_free cs hs at e =
    ap (λ (z : ℕ). get_or (map (swept_holder cs) hs) at z) (sym (swept_none cs)) ∙ get_or-map (swept_holder cs) hs at 0 ∙ ap (swept_holder cs) e ∙ swept_none cs

unlocked_free : (hs : List ℕ) (p at : ℕ) → get_or hs at 0 ≡ 0 → get_or (set hs p 0) at 0 ≡ 0
unlocked_free hs p at e = go (eqb at p) refl
  where
    here : at ≡ p → Dec (length hs ≤ p) → get_or (set hs p 0) at 0 ≡ 0
    here q (yes f) = rw (set_out hs p 0 f) e
    here q (no f) = rw (q, get_or-set_same hs p 0 0 (omega arith))

    go : (b : Bool) → eqb at p ≡ b → get_or (set hs p 0) at 0 ≡ 0
    go true q = here (eqb-true at p q) (dec_le (length hs) p)
    go false q = get_or-set_other hs p at 0 0 (eqb-false at p q) ∙ e

-- ---- a command
-- a lock with status 0 is that of a mute
lock_mute : (d : Device) (n t count : ℕ) (part : List ℕ) → status_of d n t lock_method count part ≡ 0 → is_mute t ≡ true
unfolding is_forbidden is_object is_locking
lock_mute d n t count part e =
    let a = status_allowed d n t lock_method count part e in
    rw a.allowed at a.object

module _ (d : Device) (at : ℕ) (e : get_or d.holders at 0 ≡ 0) where
  -- the channel is free
  abbrev Free : Device → Type 0
  Free x = get_or x.holders at 0 ≡ 0

  done_free : (n t m count : ℕ) (part : List ℕ) → status_of d n t m count part ≡ 0 → (eqb t (4097 + at) && eqb m lock_method) ≡ false → get_or (done_of d n t m part).holders at 0 ≡ 0
  done_free n t m count part s a =
      done_ways Free d n t m part (λ q. get_or-set_other d.holders (place_of t) at (owner_of n) 0 (elsewhere q) ∙ e)
      (λ q. unlocked_free d.holders (place_of t) at e) (λ x u v w. ap (λ (l : List ℕ). get_or l at 0) w ∙ e)
    where
      elsewhere : eqb m lock_method ≡ true → (at ≡ place_of t → ⊥)
      elsewhere q p =
          let k : status_of d n t lock_method count part ≡ 0 = ap (λ (j : ℕ). status_of d n t j count part) (sym (eqb-true m lock_method q)) ∙ s in
          let u = target_is t at (lock_mute d n t count part k) p in
          clash ⊥ (eqb t (4097 + at) && eqb m lock_method) (rw (eq-eqb t (4097 + at) (sym u), q)) a

  run_free : (n t m count : ℕ) (part : List ℕ) → (eqb t (4097 + at) && eqb m lock_method) ≡ false → get_or (commands.run_of d n t m count part).device.holders at 0 ≡ 0
  run_free n t m count part a = run_ways Free d n t m count part (λ q. done_free n t m count part q a) e

-- ---- a message
last_free : (j : ℕ) (d : Device) (at n kind : ℕ) (t : List ℕ) → get_or d.holders at 0 ≡ 0 → asks_over j at kind t ≡ false → get_or (last_of j d n kind t).holders at 0 ≡ 0
unfolding last_of asks_over asks_with ran_first ran_with
last_free zero d at n kind t e a = e
last_free (suc j) d at n kind t e a =
    let k = or_neither (asks_with at (command_of (take (entry_size kind t) t))) (asks_over j at kind (drop (entry_size kind t) t)) a in
    last_free j (ran_first d n kind t).device at n kind (drop (entry_size kind t) t) (run_free d at e n _ _ _ _ k.0) k.1

pub sound_free : (d : Device) (at n : ℕ) (m : List ℕ) → get_or d.holders at 0 ≡ 0 → (ltb (pdu_type m) notification && asks_over (message_count m) at (pdu_type m) (drop header_end m)) ≡ false
    → get_or (sound_of d n m).device.holders at 0 ≡ 0
unfolding sound_of commands_of kept_alive beating_at heard_at sent_at
sound_free d at n m e a =
    either P (eqb (pdu_type m) 4) _ _ (either (λ (x : Device). get_or x.holders at 0 ≡ 0) (live_at d.connections n) _ _ e e) (go (ltb (pdu_type m) notification) a)
  where
    P : Ruled → Type 0
    P x = get_or x.device.holders at 0 ≡ 0

    go : (b : Bool) → (b && asks_over (message_count m) at (pdu_type m) (drop header_end m)) ≡ false
        → get_or (cond {A = Ruled} b (commands_of (heard_at d n) n (pdu_type m) (message_count m) (drop header_end m)) (record { device = heard_at d n; reply = [] })).device.holders at 0 ≡ 0
    go true q =
        let l = last_free (message_count m) (heard_at d n) at n (pdu_type m) (drop header_end m) e q in
        either P (eqb (pdu_type m) 0) _ _ l l
    go false q = e

-- ---- a call
pub fresh_free : (reading at : ℕ) → get_or (fresh_of reading).holders at 0 ≡ 0
unfolding fresh_of
fresh_free reading at = get_d_alike 0 mute_count at

whole_free : (d : Device) (at : ℕ) (w : Asked) → get_or d.holders at 0 ≡ 0 → asks_for at w ≡ false → get_or (rule d w).0.holders at 0 ≡ 0
unfolding rule asks_for asks_in message_by open_by close_by ruling.tick_by reset_by notified_of sent_at told_at open_of close_of sweep_of tick_step
whole_free d at (handed n m out) e a = go (decide m) a
  where
    go : (x : Decision) → asks_in x at m ≡ false → get_or (message_by x d n m out).0.holders at 0 ≡ 0
    go Undecided q = e
    go (Faulty f t) q = swept_free _ d.holders at e
    go (Sound t) q = sound_free d at n m e q
whole_free d at (asked opening) e a = go (open_of d).answer
  where
    P : Opened → Type 0
    P o = get_or o.device.holders at 0 ≡ 0

    go : (x : Option ℕ) → get_or (open_by x d (open_of d).device).0.holders at 0 ≡ 0
    go (Some n) = either P (any is_not_open d.connections) _ _ e e
    go None = e
whole_free d at (asked (closing n)) e a = go (live_at d.connections n)
  where
    go : (b : Bool) → get_or (close_by b d n).0.holders at 0 ≡ 0
    go true = swept_free _ d.holders at e
    go false = e
whole_free d at (asked (ticking reading)) e a = go (tick_of d reading).answer
  where
    P : Ticked → Type 0
    P o = get_or o.device.holders at 0 ≡ 0

    go : (x : Option ℕ) → get_or (ruling.tick_by x d (tick_of d reading).device).0.holders at 0 ≡ 0
    go (Some k) =
        either P (leb (2 ^ 31) (step_of reading d.reading)) _ _ e (swept_free _ d.holders at e)
    go None = e
whole_free d at (asked (taking out)) e a =
    take_ways (λ (x : Device). get_or x.holders at 0 ≡ 0) d out (ltb (length out) least_output) e e e
whole_free d at (asked (datagram g)) e a = go (datagrams.resets d.mechanism g)
  where
    go : (b : Bool) → get_or (reset_by b d).0.holders at 0 ≡ 0
    go true = fresh_free d.reading at
    go false = e

rules_free : (d : Device) (at : ℕ) (ws : List Asked) → get_or d.holders at 0 ≡ 0 → nobody_asks at ws ≡ true → get_or (rules rule d ws).0.holders at 0 ≡ 0
unfolding rules nobody_asks
rules_free d at [] e a = e
rules_free d at (w ∷ ws) e a =
    rules_free (rule d w).0 at ws (whole_free d at w e (not-true (asks_for at w) (and_left (not (asks_for at w)) _ a))) (and_right (not (asks_for at w)) _ a)

pub calls_free : (reading : ℕ) (cs : List HostCall) → AllBytes cs → (at : ℕ) → nobody_asks at (wholes_of (fresh_of reading) none_held cs) ≡ true
    → get_or (run_calls (fresh_state reading) (zeros area_bytes) cs).0.0.device.holders at 0 ≡ 0
calls_free reading cs b at a =
    ap (λ (x : Record). get_or x.device.holders at 0) (demand_three.fresh reading cs b).state
    ∙ rules_free (fresh_of reading) at (wholes_of (fresh_of reading) none_held cs) (fresh_free reading at) a

-- Nothing but 3.14 and a reset touches the mechanism, and nothing else looks at it: for ResetKey. Assumes nothing.
use Rattle.std.specs.Prelude.{Some, None}
use Prim.Native.Nat.{ℕ, zero, suc, ◌^◌}
use mathlib.Core.Path.{◌≡◌, refl, sym, ap, ◌∙◌}
use mathlib.Core.Bool.{Bool, cond, true, false, not, ◌&&◌, and-false}
use mathlib.Core.List.{List, [], ◌++◌, map}
use borrow.Author.Tests.{eqb-true, eq-eqb}
use lib.Dec.{eqb, ltb, leb}
use lib.ListN.{get_or, set, take, drop}
use Rattle.laws.specs.Lists.{any, mask}
use Rattle.laws.proofs.Tables.{clash}
use Rattle.heartbeat.specs.declared.Heartbeat.{Heartbeat}
use Rattle.frame.specs.Limits.{header_end, notification, keep_alive, response}
use Rattle.frame.specs.Header.{pdu_type, message_count}
use Rattle.frame.specs.Entry.{entry_size}
use Rattle.fields.specs.Place.{parameters_of}
use Rattle.fields.specs.Fields.{command_of, heartbeat_of}
use Rattle.layout.specs.Message as layouts
use Rattle.mechanism.specs.Arguments.{is_untaken, armed_by}
use Rattle.mechanism.specs.declared.Mechanism.{Mechanism}
use Rattle.connection.specs.State.{opened, live_at, is_not_open, lowest_free}
use Rattle.connection.specs.Supervision.{closes_at, connection_ticked, beating_of}
use Rattle.subscription.specs.State.{free, twin_at, lowest_unused, marked_of}
use Rattle.objects.specs.Methods.{lock_method, unlock_method, set_method, add_method, remove_method, reset_key_method, place_of, has_method}
use Rattle.objects.specs.Tests.{is_malformed}
use Rattle.objects.specs.Answers.{failed_of}
use Rattle.objects.specs.Answers.{Carried as Answer}
use Rattle.holders.specs.Holders.{owner_of}
use Rattle.device.specs.State.{Opened, open_of, sweep_of, close_of, at_connection, heard_at, sent_at, told_at, beating_at}
use Rattle.device.specs.Time.{Ticked, step_of, advanced, tick_step, tick_of}
use Rattle.device.specs.Setters.{with_connections, with_subscriptions, with_mutes, with_holders, with_mechanism}
use Rattle.subscription.specs.Arguments.{subscription_from}
use Rattle.device.specs.Run.{holder_at, mute_at, is_held_by_other, is_subscribed, is_out_of_turn, is_full, later_status, status_of, muted_of, done_of, answer_of, ran_by, run_of}
use Rattle.device.specs.declared.Device.{Device}
use Rattle.device.specs.Run.{Ran}
use Rattle.device.proofs.Commands.{arm_status}
use Rattle.device.proofs.Shapes.{arm_at, status_allowed}
use Rattle.replies.specs.Bytes.{response_bytes, keep_alive_bytes}
use Rattle.serve.specs.Serve.{ran_with, ran_first, last_of, response_to, responses_of}
use Rattle.serve.specs.Sound.{Ruled, ruled, commands_of, kept_alive, sound_of}
use Rattle.promise.specs.ResetKey.{is_arming, keyed_by, keyed_with, keyed_over, keyed_in}

-- ---- a command that arms
both_not : (a b : Bool) → (not a && not b) ≡ eqb (cond {A = ℕ} a 4 (cond b 7 0)) 0
both_not true b = refl
both_not false true = refl
both_not false false = refl

pub arming : (d : Device) (n t m count : ℕ) (part : List ℕ) → is_arming t m count part ≡ (eqb t 1 && (eqb m reset_key_method && eqb (status_of d n t m count part) 0))
unfolding is_arming
arming d n t m count part = go (eqb t 1) refl (eqb m reset_key_method) refl
  where
    go : (a : Bool) → eqb t 1 ≡ a → (b : Bool) → eqb m reset_key_method ≡ b
        → (a && (b && (not (is_malformed m count part) && not (is_untaken part)))) ≡ (a && (b && eqb (status_of d n t m count part) 0))
    go false e b f = refl
    go true e false f = refl
    go true e true f =
        rw (eqb-true t 1 e, eqb-true m reset_key_method f, arm_status d n count part) (both_not (is_malformed reset_key_method count part) (is_untaken part))

and_known : (a b x : Bool) → (b ≡ true → a ≡ true) → x ≡ true → (a && (b && x)) ≡ b
and_known true true x f e = e
and_known false true x f e = f refl
and_known a false x f e = and-false a

-- with status 0 it is 3.14 of object 1 wherever it is 3.14
done_arming : (d : Device) (n t m count : ℕ) (part : List ℕ) → status_of d n t m count part ≡ 0 → is_arming t m count part ≡ eqb m reset_key_method
done_arming d n t m count part e =
    arming d n t m count part
    ∙ and_known (eqb t 1) (eqb m reset_key_method) (eqb (status_of d n t m count part) 0) one (ap (λ (s : ℕ). eqb s 0) e)
  where
    one : eqb m reset_key_method ≡ true → eqb t 1 ≡ true
    one f = eq-eqb t 1 (arm_at t (ap (has_method t) (sym (eqb-true m reset_key_method f)) ∙ (status_allowed d n t m count part e).method))

-- ---- the device's calls, whatever the mechanism is
module _ (d : Device) (k : Mechanism) where
  pub close_frame : (n : ℕ) → close_of (with_mechanism d k) n ≡ with_mechanism (close_of d n) k
  unfolding close_of sweep_of
  close_frame n = refl

  pub heard_frame : (n : ℕ) → heard_at (with_mechanism d k) n ≡ with_mechanism (heard_at d n) k
  unfolding heard_at
  heard_frame n = refl

  pub sent_frame : (n : ℕ) → sent_at (with_mechanism d k) n ≡ with_mechanism (sent_at d n) k
  unfolding sent_at
  sent_frame n = refl

  pub told_frame : (i : ℕ) → told_at (with_mechanism d k) i ≡ with_mechanism (told_at d i) k
  unfolding told_at
  told_frame i = refl

  beating_frame : (n : ℕ) (h : Heartbeat) → beating_at (with_mechanism d k) n h ≡ with_mechanism (beating_at d n h) k
  unfolding beating_at
  beating_frame n h = go (live_at d.connections n)
    where
      go : (b : Bool) → cond b (at_connection (beating_of h) (with_mechanism d k) n) (with_mechanism d k) ≡ with_mechanism (cond b (at_connection (beating_of h) d n) d) k
      go true = refl
      go false = refl

  pub open_frame : open_of (with_mechanism d k) ≡ record { device = with_mechanism (open_of d).device k; answer = (open_of d).answer }
  unfolding open_of
  open_frame = go (any is_not_open d.connections)
    where
      number : Device → Opened
      number e = record { device = with_connections e (set d.connections (lowest_free d.connections) opened); answer = Some (lowest_free d.connections) }

      full : Device → Opened
      full e = record { device = e; answer = None }

      go : (b : Bool) → ◌≡◌ {A = Opened} (cond b (number (with_mechanism d k)) (full (with_mechanism d k)))
          (record { device = with_mechanism (cond b (number d) (full d)).device k; answer = (cond b (number d) (full d)).answer })
      go true = refl
      go false = refl

  pub tick_frame : (reading : ℕ) → tick_of (with_mechanism d k) reading ≡ record { device = with_mechanism (tick_of d reading).device k; answer = (tick_of d reading).answer }
  unfolding tick_step sweep_of
  tick_frame reading = go (leb (2 ^ 31) s)
    where
      s : ℕ
      s = step_of reading d.reading

      back : Device → Ticked
      back e = record { device = e; answer = None }

      passed : Device → Ticked
      passed e = record { device = sweep_of (advanced e reading (map (connection_ticked s) d.connections)); answer = Some (mask (closes_at s) d.connections) }

      ways : Bool → Device → Ticked
      ways b e = cond b (back e) (passed e)

      go : (b : Bool) → ◌≡◌ {A = Ticked} (ways b (with_mechanism d k)) (record { device = with_mechanism (ways b d).device k; answer = (ways b d).answer })
      go true = refl
      go false = refl

-- ---- a command
status_frame : (d : Device) (k : Mechanism) (n t m count : ℕ) (part : List ℕ) → status_of (with_mechanism d k) n t m count part ≡ status_of d n t m count part
unfolding status_of later_status is_held_by_other holder_at is_subscribed is_out_of_turn is_full
status_frame d k n t m count part = refl

done_frame : (d : Device) (k : Mechanism) (n t m : ℕ) (part : List ℕ)
    → done_of (with_mechanism d k) n t m part ≡ with_mechanism (done_of d n t m part) (cond (eqb m reset_key_method) (armed_by part) k)
unfolding done_of muted_of mute_at
done_frame d k n t m part = go (eqb m reset_key_method) refl
  where
    e : Device
    e = with_mechanism d k

    chain : Bool → Bool → Bool → Bool → Bool → Bool → Bool → Device → Device
    chain a b c f g h i x =
        cond a (with_holders x (set d.holders (place_of t) (owner_of n)))
        (cond b (with_holders x (set d.holders (place_of t) 0))
        (cond c (cond f x (with_mutes (with_subscriptions x (map (marked_of t) d.subscriptions)) (set d.mutes (place_of t) (get_or part 0 0))))
        (cond g (with_subscriptions x (set d.subscriptions (lowest_unused d.subscriptions) (subscription_from n part)))
        (cond h (with_subscriptions x (set d.subscriptions (twin_at (subscription_from n part) d.subscriptions) free))
        (cond i (with_mechanism x (armed_by part)) x)))))

    others : (a b c f g h : Bool) → chain a b c f g h false e ≡ with_mechanism (chain a b c f g h false d) k
    others true b c f g h = refl
    others false true c f g h = refl
    others false false true true g h = refl
    others false false true false g h = refl
    others false false false f true h = refl
    others false false false f false true = refl
    others false false false f false false = refl

    go : (i : Bool) → eqb m reset_key_method ≡ i
        → chain (eqb m lock_method) (eqb m unlock_method) (eqb m set_method) (eqb (get_or d.mutes (place_of t) 0) (get_or part 0 0)) (eqb m add_method) (eqb m remove_method) i e
        ≡ with_mechanism (chain (eqb m lock_method) (eqb m unlock_method) (eqb m set_method) (eqb (get_or d.mutes (place_of t) 0) (get_or part 0 0)) (eqb m add_method) (eqb m remove_method) i d) (cond i (armed_by part) k)
    go true q = rw (eqb-true m reset_key_method q)
    go false q = others (eqb m lock_method) (eqb m unlock_method) (eqb m set_method) (eqb (get_or d.mutes (place_of t) 0) (get_or part 0 0)) (eqb m add_method) (eqb m remove_method)

abbrev pub ran : Device → Answer → Ran
ran d a = record { device = d; answer = a }

pub run_frame : (d : Device) (k : Mechanism) (n t m count : ℕ) (part : List ℕ)
    → run_of (with_mechanism d k) n t m count part ≡ ran (with_mechanism (run_of d n t m count part).device (keyed_by k t m count part)) (run_of d n t m count part).answer
unfolding run_of ran_by answer_of mute_at keyed_by
run_frame d k n t m count part =
    rw (status_frame d k n t m count part, done_frame d k n t m part) (go (eqb (status_of d n t m count part) 0) refl)
  where
    s : ℕ
    s = status_of d n t m count part

    go : (b : Bool) → eqb (status_of d n t m count part) 0 ≡ b
        → cond {A = Ran} b (ran (with_mechanism (done_of d n t m part) (cond (eqb m reset_key_method) (armed_by part) k)) (answer_of d t m)) (ran (with_mechanism d k) (failed_of s))
        ≡ ran (with_mechanism (cond {A = Ran} b (ran (done_of d n t m part) (answer_of d t m)) (ran d (failed_of s))).device (cond (is_arming t m count part) (armed_by part) k))
        (cond {A = Ran} b (ran (done_of d n t m part) (answer_of d t m)) (ran d (failed_of s))).answer
    go true e = rw (done_arming d n t m count part (eqb-true s 0 e))
    go false e =
        let z : is_arming t m count part ≡ false = arming d n t m count part ∙ rw (e, and-false, and-false) in
        rw z

-- ---- the commands of a message
first_frame : (d : Device) (k : Mechanism) (n kind : ℕ) (t : List ℕ)
    → ran_first (with_mechanism d k) n kind t
    ≡ ran (with_mechanism (ran_first d n kind t).device (keyed_with k (command_of (take (entry_size kind t) t)) (parameters_of kind (take (entry_size kind t) t)))) (ran_first d n kind t).answer
unfolding ran_first ran_with keyed_with
first_frame d k n kind t = run_frame d k n _ _ _ _

module _ (n kind : ℕ) where
  last_frame : (j : ℕ) (d : Device) (k : Mechanism) (t : List ℕ) → last_of j (with_mechanism d k) n kind t ≡ with_mechanism (last_of j d n kind t) (keyed_over j k kind t)
  unfolding last_of keyed_over
  last_frame zero d k t = refl
  last_frame (suc j) d k t =
      rw (first_frame d k n kind t)
      (last_frame j (ran_first d n kind t).device (keyed_with k (command_of (take (entry_size kind t) t)) (parameters_of kind (take (entry_size kind t) t))) (drop (entry_size kind t) t))

  responses_frame : (j : ℕ) (d : Device) (k : Mechanism) (t : List ℕ) → responses_of j (with_mechanism d k) n kind t ≡ responses_of j d n kind t
  unfolding responses_of response_to
  responses_frame zero d k t = refl
  responses_frame (suc j) d k t =
      rw (first_frame d k n kind t)
      (ap (λ (x : List ℕ). response_bytes (command_of (take (entry_size kind t) t)).handle (ran_first d n kind t).answer ++ x)
      (responses_frame j (ran_first d n kind t).device (keyed_with k (command_of (take (entry_size kind t) t)) (parameters_of kind (take (entry_size kind t) t))) (drop (entry_size kind t) t)))

  commands_frame : (d : Device) (k : Mechanism) (count : ℕ) (t : List ℕ)
      → commands_of (with_mechanism d k) n kind count t ≡ ruled (with_mechanism (commands_of d n kind count t).device (keyed_over count k kind t)) (commands_of d n kind count t).reply
  unfolding commands_of sent_at
  commands_frame d k count t = rw (last_frame count d k t, responses_frame count d k t) (go (eqb kind 0))
    where
      e : Device
      e = last_of count d n kind t

      ways : Bool → Device → Ruled
      ways b x = cond b (ruled x []) (ruled (sent_at x n) (layouts.message response count (responses_of count d n kind t)))

      go : (b : Bool) → ways b (with_mechanism e (keyed_over count k kind t)) ≡ ruled (with_mechanism (ways b e).device (keyed_over count k kind t)) (ways b e).reply
      go true = refl
      go false = refl

-- ---- a sound message
pub sound_frame : (d : Device) (k : Mechanism) (n : ℕ) (m : List ℕ) → sound_of (with_mechanism d k) n m ≡ ruled (with_mechanism (sound_of d n m).device (keyed_in k m)) (sound_of d n m).reply
unfolding sound_of keyed_in kept_alive
sound_frame d k n m =
    rw (heard_frame d k n, commands_frame n (pdu_type m) (heard_at d n) k (message_count m) (drop header_end m), beating_frame d k n (heartbeat_of (drop header_end m)))
    (go (eqb (pdu_type m) keep_alive) refl (ltb (pdu_type m) notification) refl)
  where
    beats : Device → Ruled
    beats x = ruled x (keep_alive_bytes (heartbeat_of (drop header_end m)))

    runs : Ruled
    runs = commands_of (heard_at d n) n (pdu_type m) (message_count m) (drop header_end m)

    over : Mechanism
    over = keyed_over (message_count m) k (pdu_type m) (drop header_end m)

    all_three : Bool → Bool → Ruled
    all_three a b = cond a (beats (beating_at d n (heartbeat_of (drop header_end m)))) (cond b runs (ruled (heard_at d n) []))

    go : (a : Bool) → eqb (pdu_type m) keep_alive ≡ a → (b : Bool) → ltb (pdu_type m) notification ≡ b
        → cond a (beats (with_mechanism (beating_at d n (heartbeat_of (drop header_end m))) k)) (cond b (ruled (with_mechanism runs.device over) runs.reply) (ruled (with_mechanism (heard_at d n) k) []))
        ≡ ruled (with_mechanism (all_three a b).device (cond b over k)) (all_three a b).reply
    go true e true f = clash _ true refl (sym f ∙ ap (λ (x : ℕ). ltb x notification) (eqb-true (pdu_type m) keep_alive e))
    go true e false f = refl
    go false e true f = refl
    go false e false f = refl

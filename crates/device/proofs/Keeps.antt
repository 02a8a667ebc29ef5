-- Every call keeps the record rules. No code is named. Assumes nothing.
use Rattle.std.specs.Prelude.{Some, None}
use Rattle.std.proofs.Common.{◌≡◌, ℕ, ◌^◌, ◌<◌, Bool, true, false, cond, not, ◌&&◌, ◌||◌, eqb, leb, List, map, length, get_or, set, refl, ap, ◌∙◌, arith, get_or-set_other, get_or-set_same, eqb-true}
use Rattle.std.proofs.lemmas.Bool.{eqb-false, not-false}
use Rattle.laws.specs.Lists.{all, any, all_pairs, mask}
use Rattle.laws.proofs.Conds.{and_left, and_right, cond_right}
use Rattle.laws.proofs.Tables.{or_neither, all_set, all_map, all_weaken, all_true, all_get_d, pairs_like, pairs_map, pairs_set, none_all}
use Rattle.heartbeat.specs.declared.Heartbeat.{Heartbeat}
use Rattle.heartbeat.specs.Beat.{beat_of, form_of}
use Rattle.connection.specs.State.{closed, opened, live_at, is_not_open, lowest_free}
use Rattle.connection.specs.Obeys.{connection_obeys}
use Rattle.connection.specs.Supervision.{closes_at, connection_ticked, heard_of, sent_of, set_beat, beating_of}
use Rattle.connection.specs.Kept.{fits_form}
use Rattle.connection.specs.Setters.{supervised}
use Rattle.connection.specs.declared.Connection.{Connection}
use Rattle.connection.proofs.Times.{live_below}
use Rattle.connection.proofs.Keeps.{supervision_kept}
use Rattle.octets.specs.Numbers.{be32_at}
use Rattle.mechanism.specs.Arguments.{is_untaken, armed_by}
use Rattle.mechanism.specs.Obeys.{mechanism_obeys}
use Rattle.mechanism.specs.declared.Mechanism.{Mechanism}
use Rattle.mechanism.proofs.Kept.{mechanism_kept}
use Rattle.subscription.specs.Arguments.{subscription_from, is_strange, is_emitter_bad}
use Rattle.subscription.specs.State.{free, is_twin, twin_at, lowest_unused, marked_of, told_of, swept_of}
use Rattle.subscription.specs.Obeys.{entry_obeys, apart}
use Rattle.subscription.specs.declared.Subscription.{Subscription}
use Rattle.subscription.proofs.Entries.{held_kept}
use Rattle.subscription.proofs.Keeps.{entries_kept, obeys_sound}
use Rattle.objects.proofs.Shapes.{add_held}
use Rattle.objects.specs.Methods.{is_mute, change_event, lock_method, unlock_method, set_method, add_method, remove_method, reset_key_method, place_of, is_subscribing}
use Rattle.objects.specs.Tests.{is_mute_value, is_add_bad, is_value_bad, first_status}
use Rattle.objects.specs.Answers.{failed_of}
use Rattle.holders.specs.Holders.{owner_of, holder_obeys, swept_holder}
use Rattle.holders.proofs.Keeps.{holders_kept}
use Rattle.device.specs.Setters.{with_connections, with_subscriptions, with_mutes, with_holders, with_mechanism}
use Rattle.device.specs.State.{Opened, fresh_of, open_of, sweep_of, close_of, at_connection, heard_at, sent_at, told_at, beating_at}
use Rattle.device.specs.Obeys.{device_obeys}
use Rattle.device.specs.Time.{Ticked, step_of, advanced, tick_step, tick_of}
use Rattle.device.specs.Run.{holder_at, mute_at, is_held_by_other, is_subscribed, is_out_of_turn, later_status, status_of, muted_of, done_of, answer_of, unchanged, ran_by, run_of}
use Rattle.device.specs.Kept.{RulesKept, FailuresChangeNothing}
use Rattle.device.specs.declared.Device.{Device}
use Rattle.device.specs.Run.{Ran}
use Rattle.device.proofs.Commands.{neither_fails}

-- ---- the rules by name
pub record Obeys (d : Device) : Type 0 where
  pub connections : all connection_obeys d.connections ≡ true
  pub entries : all (entry_obeys d.connections) d.subscriptions ≡ true
  pub pairs : all_pairs apart d.subscriptions ≡ true
  pub mutes : all is_mute_value d.mutes ≡ true
  pub holders : all (holder_obeys d.connections) d.holders ≡ true
  pub mechanism : mechanism_obeys d.mechanism ≡ true

pub obeys_are : (d : Device) → device_obeys d ≡ true → Obeys d
unfolding device_obeys
obeys_are d h =
    let h5 = and_left _ (mechanism_obeys d.mechanism) h in
    let h4 = and_left _ (all (holder_obeys d.connections) d.holders) h5 in
    let h3 = and_left _ (all is_mute_value d.mutes) h4 in
    let h2 = and_left _ (all_pairs apart d.subscriptions) h3 in
    record {
      connections = and_left _ (all (entry_obeys d.connections) d.subscriptions) h2;
      entries = and_right (all connection_obeys d.connections) _ h2;
      pairs = and_right (all connection_obeys d.connections && all (entry_obeys d.connections) d.subscriptions) _ h3;
      mutes = and_right (all connection_obeys d.connections && all (entry_obeys d.connections) d.subscriptions && all_pairs apart d.subscriptions) _ h4;
      holders = and_right (all connection_obeys d.connections && all (entry_obeys d.connections) d.subscriptions && all_pairs apart d.subscriptions && all is_mute_value d.mutes) _ h5;
      mechanism = and_right (all connection_obeys d.connections && all (entry_obeys d.connections) d.subscriptions && all_pairs apart d.subscriptions && all is_mute_value d.mutes && all (holder_obeys d.connections) d.holders) _ h;
    }

are_obeys : (d : Device) → Obeys d → device_obeys d ≡ true
unfolding device_obeys
are_obeys d o = rw (o.connections, o.entries, o.pairs, o.mutes, o.holders, o.mechanism)

-- ---- fresh
fresh : (reading : ℕ) → device_obeys (fresh_of reading) ≡ true
unfolding fresh_of is_mute_value
fresh reading =
    are_obeys (fresh_of reading)
    (record {
      connections = rw supervision_kept.shut;
      entries = rw (entries_kept.freed (fresh_of reading).connections);
      pairs = rw (entries_kept.freed_apart free);
      mutes = refl;
      holders = rw (holders_kept.unheld (fresh_of reading).connections);
      mechanism = mechanism_kept.rest;
    })

-- ---- connections that change and none that closes
same_connections : (d : Device) (cs : List Connection) → all connection_obeys cs ≡ true → ((k : ℕ) → live_at d.connections k ≡ true → live_at cs k ≡ true) → device_obeys d ≡ true → device_obeys (with_connections d cs) ≡ true
same_connections d cs c k h =
    let o = obeys_are d h in
    are_obeys (with_connections d cs)
    (record {
      connections = c;
      entries = all_weaken _ _ (entries_kept.standing d.connections cs k) d.subscriptions o.entries;
      pairs = o.pairs;
      mutes = o.mutes;
      holders = all_weaken _ _ (holders_kept.standing d.connections cs k) d.holders o.holders;
      mechanism = o.mechanism;
    })

-- a connection put at n that is open wherever one was
live_put : (cs : List Connection) (n : ℕ) (c : Connection) → (live_at cs n ≡ true → c.live ≡ true) → (k : ℕ) → live_at cs k ≡ true → live_at (set cs n c) k ≡ true
unfolding live_at
live_put cs n c f k l = go (eqb k n) refl
  where
    go : (t : Bool) → eqb k n ≡ t → live_at (set cs n c) k ≡ true
    go true e =
        let q = eqb-true k n e in
        let b : n < length cs = rw q at (live_below cs k l) in
        rw q (ap (λ (x : Connection). x.live) (get_or-set_same cs n c closed b) ∙ f (rw q at l))
    go false e = ap (λ (x : Connection). x.live) (get_or-set_other cs n k c closed (eqb-false k n e)) ∙ l

-- one connection changed by what keeps its rules and leaves it open
at_keeps : (f : Connection → Connection) (d : Device) (n : ℕ) → connection_obeys (f (get_or d.connections n closed)) ≡ true → ((c : Connection) → (f c).live ≡ c.live) → device_obeys d ≡ true → device_obeys (at_connection f d n) ≡ true
unfolding live_at
at_keeps f d n r l h =
    same_connections d (set d.connections n (f (get_or d.connections n closed)))
    (all_set connection_obeys d.connections n _ (obeys_are d h).connections r)
    (live_put d.connections n _ (λ (x : live_at d.connections n ≡ true). l (get_or d.connections n closed) ∙ x))
    h

-- a connection that obeys stands at any number
pub at_obeys : (d : Device) (n : ℕ) → device_obeys d ≡ true → connection_obeys (get_or d.connections n closed) ≡ true
at_obeys d n h = all_get_d connection_obeys d.connections n closed (obeys_are d h).connections supervision_kept.shut

hearing : (d : Device) (n : ℕ) → device_obeys d ≡ true → device_obeys (heard_at d n) ≡ true
unfolding heard_at heard_of
hearing d n h = at_keeps heard_of d n (supervision_kept.hearing _ (at_obeys d n h)) (λ c. refl) h

sending : (d : Device) (n : ℕ) → device_obeys d ≡ true → device_obeys (sent_at d n) ≡ true
unfolding sent_at sent_of
sending d n h = at_keeps sent_of d n (supervision_kept.sending _ (at_obeys d n h)) (λ c. refl) h

beat_live : (h : Heartbeat) (c : Connection) → (beating_of h c).live ≡ c.live
unfolding beating_of set_beat sent_of heard_of
beat_live h c = go (eqb (beat_of h) 0)
  where
    go : (t : Bool) → (sent_of (heard_of (cond t (supervised c 0 0) (supervised c (form_of h) (beat_of h))))).live ≡ c.live
    go true = refl
    go false = refl

beating : (d : Device) (n : ℕ) (h : Heartbeat) → fits_form h ≡ true → device_obeys d ≡ true → device_obeys (beating_at d n h) ≡ true
unfolding beating_at live_at
beating d n h f o = go (live_at d.connections n) refl
  where
    go : (t : Bool) → live_at d.connections n ≡ t → device_obeys (cond t (at_connection (beating_of h) d n) d) ≡ true
    go true l = at_keeps (beating_of h) d n (supervision_kept.beating h _ f l) (beat_live h) o
    go false l = o

opening : (d : Device) → device_obeys d ≡ true → device_obeys (open_of d).device ≡ true
unfolding open_of
opening d h = go (any is_not_open d.connections)
  where
    done : Opened
    done =
        record {
          device = with_connections d (set d.connections (lowest_free d.connections) opened);
          answer = Some (lowest_free d.connections);
        }

    full : Opened
    full = record { device = d; answer = None }

    go : (t : Bool) → device_obeys (cond {A = Opened} t done full).device ≡ true
    go true =
        same_connections d _ (all_set connection_obeys d.connections _ opened (obeys_are d h).connections supervision_kept.fresh)
        (live_put d.connections _ opened (λ x. refl)) h
    go false = h

-- ---- sweeps
sweep_keeps : (d : Device) (reading : ℕ) (cs : List Connection) → device_obeys d ≡ true → all connection_obeys cs ≡ true → device_obeys (sweep_of (advanced d reading cs)) ≡ true
unfolding sweep_of
sweep_keeps d reading cs h k =
    let o = obeys_are d h in
    are_obeys _
    (record {
      connections = k;
      entries = all_map _ _ (swept_of cs) (entries_kept.sweeping d.connections cs) d.subscriptions o.entries;
      pairs = pairs_map apart (swept_of cs) (entries_kept.sweeping_apart cs) d.subscriptions o.pairs;
      mutes = o.mutes;
      holders = all_map _ _ (swept_holder cs) (λ (x : ℕ) (p : holder_obeys d.connections x ≡ true). holders_kept.sweeping cs x) d.holders o.holders;
      mechanism = o.mechanism;
    })

closing : (d : Device) (n : ℕ) → device_obeys d ≡ true → device_obeys (close_of d n) ≡ true
unfolding close_of
closing d n h = sweep_keeps d d.reading (set d.connections n closed) h (all_set connection_obeys d.connections n closed (obeys_are d h).connections supervision_kept.shut)

ticking : (d : Device) (reading : ℕ) → device_obeys d ≡ true → device_obeys (tick_of d reading).device ≡ true
unfolding tick_step
ticking d reading h = back (leb (2 ^ 31) s)
  where
    s : ℕ
    s = step_of reading d.reading

    done : Ticked
    done =
        record {
          device = sweep_of (advanced d reading (map (connection_ticked s) d.connections));
          answer = Some (mask (closes_at s) d.connections);
        }

    keeps : device_obeys done.device ≡ true
    keeps = sweep_keeps d reading _ h (all_map connection_obeys connection_obeys (connection_ticked s) (supervision_kept.ticking s) d.connections (obeys_are d h).connections)

    back : (t : Bool) → device_obeys (cond {A = Ticked} t (record { device = d; answer = None }) done).device ≡ true
    back true = h
    back false = keeps

-- ---- commands
-- none of the nine tests applies
record Passed (d : Device) (n target m : ℕ) (part : List ℕ) : Type 0 where
  emitter : is_emitter_bad m part ≡ false
  value : is_value_bad m part ≡ false
  turn : is_out_of_turn d n target m part ≡ false

passed : (d : Device) (n target m count : ℕ) (part : List ℕ) → status_of d n target m count part ≡ 0 → Passed d n target m part
unfolding status_of later_status
passed d n target m count part e =
    let e4 = (neither_fails (first_status target m count part) (later_status d n target m part) e).1 in
    let e5 = (cond_right (is_held_by_other d n target m) 3 _ 0 e4 (λ z. omega arith)).1 in
    let e6 = cond_right (is_emitter_bad m part) 6 _ 0 e5 (λ z. omega arith) in
    let e7 = cond_right (is_value_bad m part) 7 _ 0 e6.1 (λ z. omega arith) in
    let e8 = cond_right (is_out_of_turn d n target m part) 9 _ 0 e7.1 (λ z. omega arith) in
    record { emitter = e6.0; value = e7.0; turn = e8.0 }

with_holders_lem : (d : Device) (k v : ℕ) → holder_obeys d.connections v ≡ true → device_obeys d ≡ true → device_obeys (with_holders d (set d.holders k v)) ≡ true
with_holders_lem d k v r h =
    let o = obeys_are d h in
    are_obeys (with_holders d (set d.holders k v))
    (record {
      connections = o.connections;
      entries = o.entries;
      pairs = o.pairs;
      mutes = o.mutes;
      holders = all_set (holder_obeys d.connections) d.holders k v o.holders r;
      mechanism = o.mechanism;
    })

with_mechanism_lem : (d : Device) (m : Mechanism) → mechanism_obeys m ≡ true → device_obeys d ≡ true → device_obeys (with_mechanism d m) ≡ true
with_mechanism_lem d m r h =
    let o = obeys_are d h in
    are_obeys (with_mechanism d m)
    (record {
      connections = o.connections;
      entries = o.entries;
      pairs = o.pairs;
      mutes = o.mutes;
      holders = o.holders;
      mechanism = r;
    })

with_entry : (d : Device) (k : ℕ) (s : Subscription) → entry_obeys d.connections s ≡ true → all (apart s) d.subscriptions ≡ true → device_obeys d ≡ true → device_obeys (with_subscriptions d (set d.subscriptions k s)) ≡ true
with_entry d k s r a h =
    let o = obeys_are d h in
    are_obeys (with_subscriptions d (set d.subscriptions k s))
    (record {
      connections = o.connections;
      entries = all_set (entry_obeys d.connections) d.subscriptions k s o.entries r;
      pairs = pairs_set apart entries_kept.even d.subscriptions k s o.pairs a;
      mutes = o.mutes;
      holders = o.holders;
      mechanism = o.mechanism;
    })

-- an entry told stands where it stood
telling : (d : Device) (at : ℕ) → device_obeys d ≡ true → device_obeys (told_at d at) ≡ true
unfolding told_at
telling d at h =
    let o = obeys_are d h in
    let s = get_or d.subscriptions at free in
    are_obeys (with_subscriptions d (set d.subscriptions at (told_of s)))
    (record {
      connections = o.connections;
      entries =
          all_set (entry_obeys d.connections) d.subscriptions at (told_of s) o.entries
          (entries_kept.telling d.connections s
          (all_get_d (entry_obeys d.connections) d.subscriptions at free o.entries (entries_kept.freed d.connections)));
      pairs = pairs_like apart d.subscriptions at (told_of s) free (entries_kept.telling_left s) (λ (x : Subscription). entries_kept.telling_right x s) ∙ o.pairs;
      mutes = o.mutes;
      holders = o.holders;
      mechanism = o.mechanism;
    })

set_keeps : (d : Device) (target v : ℕ) → is_mute_value v ≡ true → device_obeys d ≡ true → device_obeys (muted_of d target v) ≡ true
unfolding muted_of
set_keeps d target v r h = go (eqb (mute_at d target) v)
  where
    o : Obeys d
    o = obeys_are d h

    changed : Device
    changed = with_mutes (with_subscriptions d (map (marked_of target) d.subscriptions)) (set d.mutes (place_of target) v)

    go : (t : Bool) → device_obeys (cond t d changed) ≡ true
    go true = h
    go false =
        are_obeys changed
        (record {
          connections = o.connections;
          entries = all_map _ _ (marked_of target) (entries_kept.marking d.connections target) d.subscriptions o.entries;
          pairs = pairs_map apart (marked_of target) (entries_kept.marking_apart target) d.subscriptions o.pairs;
          mutes = all_set is_mute_value d.mutes (place_of target) v o.mutes r;
          holders = o.holders;
          mechanism = o.mechanism;
        })

-- the value of a set that passed
value_right : (m : ℕ) (part : List ℕ) → is_value_bad m part ≡ false → eqb m set_method ≡ true → is_mute_value (get_or part 0 0) ≡ true
unfolding is_value_bad
value_right m part v e =
    let j = (or_neither ((eqb m add_method && is_add_bad part) || (eqb m set_method && not (is_mute_value (get_or part 0 0)))) _ v).0 in
    let k = (or_neither (eqb m add_method && is_add_bad part) _ j).1 in
    not-false _ (rw e at k)

-- the text and the port of an arming that passed
arming_right : (m : ℕ) (part : List ℕ) → is_value_bad m part ≡ false → eqb m reset_key_method ≡ true → is_untaken part ≡ false
unfolding is_value_bad
arming_right m part v e =
    let k = (or_neither ((eqb m add_method && is_add_bad part) || (eqb m set_method && not (is_mute_value (get_or part 0 0)))) _ v).1 in
    rw e at k

-- the mode and the context of an add that passed
adding_right : (m : ℕ) (part : List ℕ) → is_value_bad m part ≡ false → eqb m add_method ≡ true → is_add_bad part ≡ false
unfolding is_value_bad
adding_right m part v e =
    let j = (or_neither ((eqb m add_method && is_add_bad part) || (eqb m set_method && not (is_mute_value (get_or part 0 0)))) _ v).0 in
    let k = (or_neither (eqb m add_method && is_add_bad part) _ j).0 in
    rw e at k

-- the entry of an add that passed
entry_right : (d : Device) (n target m : ℕ) (part : List ℕ) → live_at d.connections n ≡ true → Passed d n target m part → eqb m add_method ≡ true → entry_obeys d.connections (subscription_from n part) ≡ true
unfolding is_emitter_bad is_subscribing is_strange subscription_from
entry_right d n target m part l p e =
    let k : is_mute (be32_at part 0) && eqb (be32_at part 4) change_event ≡ true = not-false _ (rw e at p.emitter) in
    obeys_sound d.connections (subscription_from n part)
    (record {
      used = refl;
      live = l;
      mute = and_left _ _ k;
      event = and_right (is_mute (be32_at part 0)) _ k;
      context = held_kept part (add_held part (adding_right m part p.value e));
    })

entry_apart : (d : Device) (n target m : ℕ) (part : List ℕ) → Passed d n target m part → eqb m add_method ≡ true → all (apart (subscription_from n part)) d.subscriptions ≡ true
unfolding is_out_of_turn is_subscribed apart
entry_apart d n target m part p e =
    let k = (or_neither ((eqb m unlock_method && eqb (holder_at d target) 0) || (eqb m add_method && is_subscribed d n part)) _ p.turn).0 in
    let j = (or_neither (eqb m unlock_method && eqb (holder_at d target) 0) _ k).1 in
    none_all (is_twin (subscription_from n part)) (apart (subscription_from n part)) (λ (x : Subscription) (t : is_twin (subscription_from n part) x ≡ false). ap not t) d.subscriptions (rw e at j)

done_keeps : (d : Device) (n target m : ℕ) (part : List ℕ) → live_at d.connections n ≡ true → Passed d n target m part → device_obeys d ≡ true → device_obeys (done_of d n target m part) ≡ true
unfolding done_of
done_keeps d n target m part l p h = lock (eqb m lock_method)
  where
    armed : Device
    armed = with_mechanism d (armed_by part)

    removed : Device
    removed = with_subscriptions d (set d.subscriptions (twin_at (subscription_from n part) d.subscriptions) free)

    added : Device
    added = with_subscriptions d (set d.subscriptions (lowest_unused d.subscriptions) (subscription_from n part))

    muted : Device
    muted = muted_of d target (get_or part 0 0)

    unlocked : Device
    unlocked = with_holders d (set d.holders (place_of target) 0)

    locked : Device
    locked = with_holders d (set d.holders (place_of target) (owner_of n))

    arm : (t : Bool) → eqb m reset_key_method ≡ t → device_obeys (cond t armed d) ≡ true
    arm true e = with_mechanism_lem d (armed_by part) (mechanism_kept.arming part (arming_right m part p.value e)) h
    arm false e = h

    remove : (t : Bool) → device_obeys (cond t removed (cond (eqb m reset_key_method) armed d)) ≡ true
    remove true = with_entry d _ free (entries_kept.freed d.connections) (all_true (apart free) entries_kept.freed_apart d.subscriptions) h
    remove false = arm (eqb m reset_key_method) refl

    add : (t : Bool) → eqb m add_method ≡ t → device_obeys (cond t added (cond (eqb m remove_method) removed (cond (eqb m reset_key_method) armed d))) ≡ true
    add true e = with_entry d _ (subscription_from n part) (entry_right d n target m part l p e) (entry_apart d n target m part p e) h
    add false e = remove (eqb m remove_method)

    mute : (t : Bool) → eqb m set_method ≡ t → device_obeys (cond t muted (cond (eqb m add_method) added (cond (eqb m remove_method) removed (cond (eqb m reset_key_method) armed d)))) ≡ true
    mute true e = set_keeps d target (get_or part 0 0) (value_right m part p.value e) h
    mute false e = add (eqb m add_method) refl

    unlock : (t : Bool) → device_obeys (cond t unlocked (cond (eqb m set_method) muted (cond (eqb m add_method) added (cond (eqb m remove_method) removed (cond (eqb m reset_key_method) armed d))))) ≡ true
    unlock true = with_holders_lem d _ 0 (holders_kept.unheld d.connections) h
    unlock false = mute (eqb m set_method) refl

    lock : (t : Bool) → device_obeys (cond t locked (cond (eqb m unlock_method) unlocked (cond (eqb m set_method) muted (cond (eqb m add_method) added (cond (eqb m remove_method) removed (cond (eqb m reset_key_method) armed d)))))) ≡ true
    lock true = with_holders_lem d _ (owner_of n) (holders_kept.owning d.connections n l) h
    lock false = unlock (eqb m unlock_method)

running : (d : Device) (n target m count : ℕ) (part : List ℕ) → live_at d.connections n ≡ true → device_obeys d ≡ true → device_obeys (run_of d n target m count part).device ≡ true
unfolding run_of ran_by
running d n target m count part l h = go (eqb s 0) refl
  where
    s : ℕ
    s = status_of d n target m count part

    done : Ran
    done = record { device = done_of d n target m part; answer = answer_of d target m }

    go : (t : Bool) → eqb s 0 ≡ t → device_obeys (cond {A = Ran} t done (unchanged d (failed_of s))).device ≡ true
    go true e = done_keeps d n target m part l (passed d n target m count part (eqb-true s 0 e)) h
    go false e = h

failing : (d : Device) (n target m count : ℕ) (part : List ℕ) → eqb (status_of d n target m count part) 0 ≡ false → run_of d n target m count part ≡ unchanged d (failed_of (status_of d n target m count part))
unfolding run_of ran_by
failing d n target m count part e = rw e

pub rules_kept : RulesKept
rules_kept =
    record {
      fresh = fresh;
      opening = opening;
      closing = closing;
      ticking = ticking;
      hearing = hearing;
      sending = sending;
      telling = telling;
      beating = beating;
      running = running;
    }

pub failures_change_nothing : FailuresChangeNothing
failures_change_nothing = record { failing = failing }

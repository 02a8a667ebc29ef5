-- LatestKeyCounts and KeyStaysInside. Assumes nothing.
use Rattle.std.specs.Prelude.{Option, Some, None}
use Prim.Native.Nat.{ℕ, zero, suc}
use mathlib.Core.Path.{◌≡◌, refl, sym, ap, ◌∙◌, subst}
use mathlib.Core.Bool.{Bool, cond, true, false, not, ◌&&◌}
use mathlib.Core.List.{List, [], ◌∷◌, ◌++◌, map}
use borrow.Author.Tests.{not-true}
use lib.Dec.{ltb}
use lib.ListN.{length, get_or, set, take, drop}
use Rattle.laws.proofs.Conds.{and_left, and_right}
use Rattle.frame.specs.Limits.{header_end, notification}
use Rattle.frame.specs.Header.{pdu_type, message_count}
use Rattle.frame.specs.Entry.{entry_size}
use Rattle.frame.specs.Decide.{decide}
use Rattle.frame.specs.declared.Decision.{Decision}
use Rattle.frame.specs.declared.Decision.TheVariants.{Undecided, Faulty, Sound}
use Rattle.fields.specs.Place.{parameters_of}
use Rattle.fields.specs.Fields.{command_of}
use Rattle.fields.specs.declared.CommandFields.{CommandFields}
use Rattle.area.specs.Area.{area_sound, undecided_of}
use Rattle.mechanism.specs.State.{disarmed, with_key}
use Rattle.mechanism.specs.Arguments.{armed_by}
use Rattle.mechanism.specs.Obeys.{mechanism_obeys}
use Rattle.mechanism.specs.Datagram.{resets}
use Rattle.mechanism.specs.declared.Mechanism.{Mechanism}
use Rattle.mechanism.proofs.Kept.{mechanism_kept}
use Rattle.connection.specs.State.{connection_count, live_at, lowest_due}
use Rattle.subscription.specs.State.{entry_count, lowest_waiting}
use Rattle.device.specs.State.{Opened, fresh_of, open_of, close_of, sweep_of, sent_at, told_at, lives_in}
use Rattle.device.specs.Obeys.{device_obeys}
use Rattle.device.specs.Setters.{with_mechanism}
use Rattle.device.specs.Time.{Ticked, tick_of}
use Rattle.device.specs.Run.{mute_at}
use Rattle.device.specs.Run as commands
use Rattle.device.specs.declared.Device.{Device}
use Rattle.device.specs.Run.{Ran}
use Rattle.serve.specs.Sound.{Ruled, sound_of}
use Rattle.stream.specs.Calls.{deliver, ask, handed, asked, rules, AllBytes}
use Rattle.endpoint.specs.State.{state_of, record_obeys, closed_state}
use Rattle.endpoint.specs.Outcome.{Outcome, outcome}
use Rattle.endpoint.specs.Calls.{opened_by, open_call, close_call, ticked_by, tick_call}
use Rattle.replies.specs.Bytes.{least_output}
use Rattle.delivery.specs.Intake.{messaged, delivered_by, taken_in}
use Rattle.endpoint.specs.Deliver.{deliver_call, with_intake}
use Rattle.taking.specs.Dispatch.{notified_of, notifying, reminding, taken_by}
use Rattle.endpoint.specs.Take.{take_call, with_dispatch}
use Rattle.reset.specs.Datagram.{datagram_call}
use Rattle.endpoint.specs.declared.Record.{Record}
use Rattle.promise.specs.Rulebook as ruling
use Rattle.promise.specs.Rulebook.{opening, closing, ticking, taking, datagram, Asked, message_by, open_by, close_by, reset_by, rule}
use Rattle.promise.specs.Calls.{HostCall, call_of, run_calls}
use Rattle.promise.specs.Kept.{held_in, Kept}
use Rattle.promise.specs.Whole.{wholes_of}
use Rattle.promise.specs.ResetKey.{is_arming, keyed_by, keyed_with, keyed_over, keyed_in, keyed_message, latest, latest_over, LatestKeyCounts, AlikeButKey, Seen, seen, is_no_reset, no_reset, KeyStaysInside}
use Rattle.promise.proofs.Mechanism.{arming, close_frame, open_frame, tick_frame, run_frame, sound_frame}
use Rattle.promise.proofs.Ways.{take_ways}
use Rattle.promise.proofs.Whole.{demand_three}

-- ---- the latest key

command : (d : Device) (n t m count : ℕ) (part : List ℕ) → (commands.run_of d n t m count part).device.mechanism ≡ keyed_by d.mechanism t m count part
command d n t m count part = ap (λ (r : Ran). r.device.mechanism) (run_frame d d.mechanism n t m count part)

sound_key : (d : Device) (n : ℕ) (m : List ℕ) → (sound_of d n m).device.mechanism ≡ keyed_in d.mechanism m
sound_key d n m = ap (λ (r : Ruled). r.device.mechanism) (sound_frame d d.mechanism n m)

whole : (d : Device) (w : Asked) → (rule d w).0.mechanism ≡ latest d.mechanism w
unfolding rule latest message_by keyed_message open_by close_by ruling.tick_by reset_by notified_of sent_at told_at fresh_of close_of sweep_of
whole d (handed n m out) = go (decide m)
  where
    go : (x : Decision) → (message_by x d n m out).0.mechanism ≡ keyed_message x d.mechanism m
    go Undecided = refl
    go (Faulty f t) = refl
    go (Sound t) = sound_key d n m
whole d (asked opening) = go (open_of d).answer
  where
    go : (x : Option ℕ) → (open_by x d (open_of d).device).0.mechanism ≡ d.mechanism
    go (Some n) = ap (λ (o : Opened). o.device.mechanism) (open_frame d d.mechanism)
    go None = refl
whole d (asked (closing n)) = go (live_at d.connections n)
  where
    go : (b : Bool) → (close_by b d n).0.mechanism ≡ d.mechanism
    go true = refl
    go false = refl
whole d (asked (ticking reading)) = go (tick_of d reading).answer
  where
    go : (x : Option ℕ) → (ruling.tick_by x d (tick_of d reading).device).0.mechanism ≡ d.mechanism
    go (Some mask) = ap (λ (o : Ticked). o.device.mechanism) (tick_frame d d.mechanism reading)
    go None = refl
whole d (asked (taking out)) =
    take_ways (λ (x : Device). x.mechanism ≡ d.mechanism) d out (ltb (length out) least_output) refl refl refl
whole d (asked (datagram g)) = go (resets d.mechanism g)
  where
    go : (b : Bool) → (reset_by b d).0.mechanism ≡ cond b disarmed d.mechanism
    go true = refl
    go false = refl

ruled_over : (d : Device) (ws : List Asked) → (rules rule d ws).0.mechanism ≡ latest_over d.mechanism ws
unfolding rules latest_over
ruled_over d [] = refl
ruled_over d (w ∷ ws) = ruled_over (rule d w).0 ws ∙ ap (λ (k : Mechanism). latest_over k ws) (whole d w)

calls_key : (r : Record) (area : List ℕ) (cs : List HostCall) → Kept r area → AllBytes cs
    → (run_calls r area cs).0.0.device.mechanism ≡ latest_over r.device.mechanism (wholes_of r.device (held_in r area) cs)
calls_key r area cs w b =
    ap (λ (x : Record). x.device.mechanism) (demand_three.later r area cs w b).state
    ∙ ruled_over r.device (wholes_of r.device (held_in r area) cs)

pub latest_key_counts : LatestKeyCounts
latest_key_counts = record { arming = arming; command = command; whole = whole; calls = calls_key }

-- ---- the key stays inside

-- two mechanisms, armed, alike but for the key
record Alike (a b : Mechanism) : Type 0 where
  armed : a.armed ≡ true
  same : b ≡ with_key a b.key

alike_obeys : (a b : Mechanism) → Alike a b → mechanism_obeys a ≡ mechanism_obeys b
alike_obeys a b w = sym (ap mechanism_obeys w.same ∙ mechanism_kept.rekeying a b.key w.armed)

-- the same arming leaves the same
alike_by : (a b : Mechanism) → Alike a b → (t m count : ℕ) (part : List ℕ) → Alike (keyed_by a t m count part) (keyed_by b t m count part)
unfolding keyed_by armed_by
alike_by a b w t m count part = go (is_arming t m count part)
  where
    go : (x : Bool) → Alike (cond x (armed_by part) a) (cond x (armed_by part) b)
    go true = record { armed = refl; same = refl }
    go false = w

alike_with : (a b : Mechanism) → Alike a b → (c : CommandFields) (part : List ℕ) → Alike (keyed_with a c part) (keyed_with b c part)
unfolding keyed_with
alike_with a b w c part = alike_by a b w _ _ _ _

alike_over : (j : ℕ) (a b : Mechanism) → Alike a b → (kind : ℕ) (t : List ℕ) → Alike (keyed_over j a kind t) (keyed_over j b kind t)
unfolding keyed_over
alike_over zero a b w kind t = w
alike_over (suc j) a b w kind t =
    alike_over j _ _ (alike_with a b w (command_of (take (entry_size kind t) t)) (parameters_of kind (take (entry_size kind t) t))) kind (drop (entry_size kind t) t)

alike_in : (a b : Mechanism) → Alike a b → (m : List ℕ) → Alike (keyed_in a m) (keyed_in b m)
unfolding keyed_in
alike_in a b w m = go (ltb (pdu_type m) notification)
  where
    go : (x : Bool)
        → Alike (cond x (keyed_over (message_count m) a (pdu_type m) (drop header_end m)) a) (cond x (keyed_over (message_count m) b (pdu_type m) (drop header_end m)) b)
    go true = alike_over (message_count m) a b w (pdu_type m) (drop header_end m)
    go false = w

-- what two calls give is seen alike, and the records are alike but for their keys
record Follows (o p : Outcome) : Type 0 where
  shown : seen o ≡ seen p
  kept : AlikeButKey o.state p.state

follow_cond : (b : Bool) (o p o' p' : Outcome) → Follows o p → Follows o' p' → Follows (cond b o o') (cond b p p')
follow_cond true o p o' p' f g = f
follow_cond false o p o' p' f g = g

-- a call that is lent no area, and what is handed on of its output
within : (f : List ℕ → List ℕ) {o p : Outcome} → Follows o p → (x : List ℕ) → Follows (outcome o.answer o.state x (f o.output)) (outcome p.answer p.state x (f p.output))
within f w x = record { shown = ap (λ (s : Seen). record { answer = s.answer; area = x; output = f s.output }) w.shown; kept = w.kept }

-- records that differ in an alike mechanism alone
abbrev holding : Device → List ℕ → Mechanism → Record
holding d held m = state_of (with_mechanism d m) held

follow : (d : Device) (held : List ℕ) (a b : Mechanism) → Alike a b → (answer area output : List ℕ)
    → Follows (outcome answer (holding d held a) area output) (outcome answer (holding d held b) area output)
follow d held a b w answer area output =
    record {
      shown = refl;
      kept = record { armed = w.armed; alike = ap (holding d held) w.same };
    }

module _ (d : Device) (held : List ℕ) (a b : Mechanism) (w : Alike a b) where
  obeys_alike : record_obeys (holding d held a) ≡ record_obeys (holding d held b)
  unfolding record_obeys device_obeys lives_in
  obeys_alike = rw (alike_obeys a b w)

  same_as : (answer area output : List ℕ) → Follows (outcome answer (holding d held a) area output) (outcome answer (holding d held b) area output)
  same_as = follow d held a b w

  open_follows : Follows (open_call (holding d held a)) (open_call (holding d held b))
  unfolding open_call opened_by
  open_follows =
      rw (obeys_alike, open_frame d a, open_frame d b)
      (follow_cond (record_obeys (holding d held b)) _ _ _ _ (go (open_of d).answer) (same_as (1 ∷ []) [] []))
    where
      after : Mechanism → Opened
      after m = record { device = with_mechanism (open_of d).device m; answer = (open_of d).answer }

      go : (x : Option ℕ) → Follows (opened_by x (holding d held a) (after a)) (opened_by x (holding d held b) (after b))
      go (Some n) = follow (open_of d).device held a b w (0 ∷ n ∷ []) [] []
      go None = same_as (5 ∷ []) [] []

  close_follows : (area : List ℕ) (n : ℕ) → Follows (close_call (holding d held a) area n) (close_call (holding d held b) area n)
  unfolding close_call closed_state
  close_follows area n =
      rw (obeys_alike, close_frame d a n, close_frame d b n)
      (follow_cond (record_obeys (holding d held b)) _ _ _ _
      (follow_cond (area_sound held area) _ _ _ _
      (follow_cond (live_at d.connections n) _ _ _ _ (follow (close_of d n) (set held n 0) a b w (0 ∷ []) _ []) (same_as (3 ∷ []) area []))
      (same_as (2 ∷ []) area []))
      (same_as (1 ∷ []) area []))

  tick_follows : (area : List ℕ) (reading : ℕ) → Follows (tick_call (holding d held a) area reading) (tick_call (holding d held b) area reading)
  unfolding tick_call ticked_by lives_in
  tick_follows area reading =
      rw (obeys_alike, tick_frame d a reading, tick_frame d b reading)
      (follow_cond (record_obeys (holding d held b)) _ _ _ _
      (follow_cond (area_sound held area) _ _ _ _ (go (tick_of d reading).answer) (same_as (2 ∷ []) area []))
      (same_as (1 ∷ []) area []))
    where
      after : Mechanism → Ticked
      after m = record { device = with_mechanism (tick_of d reading).device m; answer = (tick_of d reading).answer }

      go : (x : Option ℕ) → Follows (ticked_by x (holding d held a) (after a) area) (ticked_by x (holding d held b) (after b) area)
      go (Some mask) = follow (tick_of d reading).device _ a b w (0 ∷ mask ∷ []) _ []
      go None = same_as (6 ∷ []) area []

  taken_follow : (x y : Bool) (out : List ℕ) (i n : ℕ)
      → Follows (with_dispatch (holding d held a) (taken_by x y (with_mechanism d a) out i n)) (with_dispatch (holding d held b) (taken_by x y (with_mechanism d b) out i n))
  unfolding taken_by notifying reminding notified_of sent_at told_at mute_at
  taken_follow true y out i n = follow (notified_of d i) held a b w _ _ _
  taken_follow false true out i n = follow (sent_at d n) held a b w _ _ _
  taken_follow false false out i n = same_as (0 ∷ 0 ∷ []) [] out

  take_follows : (out : List ℕ) → Follows (take_call (holding d held a) out) (take_call (holding d held b) out)
  unfolding take_call
  take_follows out =
      rw obeys_alike
      (follow_cond (record_obeys (holding d held b)) _ _ _ _
      (follow_cond (ltb (length out) least_output) _ _ _ _ (same_as (4 ∷ []) [] out)
      (taken_follow (ltb (lowest_waiting d.subscriptions) entry_count) (ltb (lowest_due d.connections) connection_count) out (lowest_waiting d.subscriptions) (lowest_due d.connections)))
      (same_as (1 ∷ []) [] out))

  by_decision : (area : List ℕ) (n : ℕ) (piece out : List ℕ) (k : ℕ) (xs : List ℕ) (x : Decision)
      → Follows (with_intake (holding d held a) n (delivered_by x (with_mechanism d a) area n k piece xs out)) (with_intake (holding d held b) n (delivered_by x (with_mechanism d b) area n k piece xs out))
  unfolding delivered_by messaged
  by_decision area n piece out k xs Undecided = follow d _ a b w _ _ out
  by_decision area n piece out k xs (Faulty f t) = rw (close_frame d a n, close_frame d b n) (follow (close_of d n) _ a b w _ _ out)
  by_decision area n piece out k xs (Sound t) =
      rw (sound_frame d a n (take t xs), sound_frame d b n (take t xs))
      (follow (sound_of d n (take t xs)).device _ _ _ (alike_in a b w (take t xs)) _ _ _)

  deliver_follows : (area : List ℕ) (n : ℕ) (piece out : List ℕ) → Follows (deliver_call (holding d held a) area n piece out) (deliver_call (holding d held b) area n piece out)
  unfolding deliver_call taken_in
  deliver_follows area n piece out =
      rw obeys_alike
      (follow_cond (record_obeys (holding d held b)) _ _ _ _
      (follow_cond (area_sound held area) _ _ _ _
      (follow_cond (live_at d.connections n) _ _ _ _
      (follow_cond (ltb (length out) least_output) _ _ _ _ (same_as (4 ∷ []) area out) (by_decision area n piece out (get_or held n 0) (undecided_of area n (get_or held n 0) ++ piece) (decide (undecided_of area n (get_or held n 0) ++ piece))))
      (same_as (3 ∷ []) area out))
      (same_as (2 ∷ []) area out))
      (same_as (1 ∷ []) area out))

  datagram_follows : (area g : List ℕ) → (not (resets a g) && not (resets b g)) ≡ true → Follows (datagram_call (holding d held a) area g) (datagram_call (holding d held b) area g)
  unfolding datagram_call
  datagram_follows area g e =
      let x = not-true (resets a g) (and_left (not (resets a g)) _ e) in
      let y = not-true (resets b g) (and_right (not (resets a g)) _ e) in
      rw (obeys_alike, x, y)
      (follow_cond (record_obeys (holding d held b)) _ _ _ _
      (follow_cond (area_sound held area) _ _ _ _ (same_as (0 ∷ 0 ∷ []) area []) (same_as (2 ∷ []) area []))
      (same_as (1 ∷ []) area []))

  call_follows : (area : List ℕ) (c : HostCall) → is_no_reset (holding d held a) (holding d held b) c ≡ true → Follows (call_of (holding d held a) area c) (call_of (holding d held b) area c)
  unfolding call_of is_no_reset
  call_follows area (deliver n piece out) e = deliver_follows area n piece out
  call_follows area (ask opening) e = within (λ (l : List ℕ). []) open_follows area
  call_follows area (ask (closing n)) e = close_follows area n
  call_follows area (ask (ticking reading)) e = tick_follows area reading
  call_follows area (ask (taking out)) e = within (λ (l : List ℕ). l) (take_follows out) area
  call_follows area (ask (datagram g)) e = datagram_follows area g e

-- from two records that are alike but for their keys
alike_parts : (r s : Record) → AlikeButKey r s → Alike r.device.mechanism s.device.mechanism
alike_parts r s w = record { armed = w.armed; same = ap (λ (x : Record). x.device.mechanism) w.alike }

as_holding : (r s : Record) → AlikeButKey r s → holding r.device r.held s.device.mechanism ≡ s
as_holding r s w = ap (holding r.device r.held) (alike_parts r s w).same ∙ sym w.alike

call_inside : (r s : Record) (area : List ℕ) (c : HostCall) → AlikeButKey r s → is_no_reset r s c ≡ true → Follows (call_of r area c) (call_of s area c)
call_inside r s area c w e =
    let q = as_holding r s w in
    let f : is_no_reset r (holding r.device r.held s.device.mechanism) c ≡ true = ap (λ (x : Record). is_no_reset r x c) q ∙ e in
    rw q at (call_follows r.device r.held r.device.mechanism s.device.mechanism (alike_parts r s w) area c f)

inside : (cs : List HostCall) (r s : Record) (x y : List ℕ) → x ≡ y → AlikeButKey r s → no_reset r x s y cs ≡ true
    → (map seen (run_calls r x cs).1 ≡ map seen (run_calls s y cs).1) × AlikeButKey (run_calls r x cs).0.0 (run_calls s y cs).0.0
unfolding run_calls no_reset
inside [] r s x y q w e = (refl, w)
inside (c ∷ cs) r s x y q w e =
    let f = subst (λ (u : List ℕ). Follows (call_of r x c) (call_of s u c)) q (call_inside r s x c w (and_left (is_no_reset r s c) _ e)) in
    let o = call_of r x c in
    let p = call_of s y c in
    let t = inside cs o.state p.state o.area p.area (ap (λ (v : Seen). v.area) f.shown) f.kept (and_right (is_no_reset r s c) _ e) in
    (ap (λ (v : Seen). v ∷ map seen (run_calls o.state o.area cs).1) f.shown ∙ ap (λ (l : List Seen). seen p ∷ l) t.0, t.1)

pub key_stays_inside : KeyStaysInside
key_stays_inside =
    record {
      call = λ r s area c w e. ((call_inside r s area c w e).shown, (call_inside r s area c w e).kept);
      calls = λ r s area cs w e. inside cs r s area area refl w e;
    }

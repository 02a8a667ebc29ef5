-- What a connection keeps in calls that are not about it: for Technician. Assumes nothing.
use Rattle.std.specs.Prelude.{Option, Some, None}
use Prim.Native.Nat.{ℕ, zero, suc, ◌+◌}
use mathlib.Core.Path.{◌≡◌, refl, sym, ap, ◌∙◌}
use mathlib.Core.Bool.{Bool, cond, true, false, not, ◌&&◌, ◌||◌}
use mathlib.Core.List.{List, [], ◌∷◌, ◌++◌}
use native.Mathlib.Omega.{arith}
use lib.Dec.{eqb, ltb}
use lib.ListN.{length, get_or, set, take, drop, length-set, get_or-map}
use lib.Seq.{get_or-set_other, map-set_same}
use borrow.Author.Tests.{eqb-true, eqb-false, eq-eqb, ne_eqb, not-true}
use Rattle.laws.specs.Lists.{any, index}
use Rattle.laws.proofs.Tables.{clash}
use Rattle.laws.proofs.Conds.{either, cond_right}
use Rattle.frame.specs.Decide.{decide, settled}
use Rattle.frame.proofs.Ways.{unsettled}
use Rattle.frame.specs.declared.Decision.{Decision}
use Rattle.frame.specs.declared.Decision.TheVariants.{Undecided, Faulty, Sound}
use Rattle.mechanism.specs.Datagram.{resets}
use Rattle.area.specs.Area.{area_sound, undecided_of}
use Rattle.connection.specs.State.{closed, opened, live_at, is_not_open, lowest_due}
use Rattle.connection.specs.Supervision.{heard_of, sent_of, beating_of}
use Rattle.connection.specs.declared.Connection.{Connection}
use Rattle.holders.specs.Holders.{owner_of, is_other}
use Rattle.subscription.specs.State.{free, lowest_waiting}
use Rattle.objects.specs.Methods.{lock_method, set_method, place_of, is_locking}
use Rattle.objects.specs.Tests.{first_status}
use Rattle.serve.specs.Serve.{ran_with, ran_first, last_of}
use Rattle.serve.specs.Sound.{Ruled, commands_of, kept_alive, sound_of}
use Rattle.frame.specs.Limits.{header_end, notification, keep_alive}
use Rattle.frame.specs.Header.{pdu_type, message_count}
use Rattle.frame.specs.Entry.{entry_size}
use Rattle.fields.specs.Fields.{heartbeat_of}
use Rattle.device.specs.State.{Opened, sweep_of, open_of, close_of, at_connection, heard_at, sent_at, told_at, beating_at}
use Rattle.device.specs.Run.{holder_at, is_held_by_other, later_status, status_of, done_of, run_of}
use Rattle.device.specs.Setters.{with_holders}
use Rattle.device.specs.Closure.{is_lock_of, locks_of, Stays}
use Rattle.device.specs.declared.Device.{Device}
use Rattle.device.proofs.Closures.{closure_frees}
use Rattle.device.proofs.Commands.{neither_fails}
use Rattle.replies.specs.Bytes.{least_output}
use Rattle.stream.specs.Calls.{deliver}
use Rattle.endpoint.specs.State.{record_obeys, closed_state}
use Rattle.endpoint.specs.Outcome.{Outcome}
use Rattle.endpoint.specs.Calls.{opened_by, open_call, close_call}
use Rattle.delivery.specs.Intake.{messaged, delivered_by, taken_in}
use Rattle.endpoint.specs.Deliver.{held_at, deliver_call}
use Rattle.taking.specs.Dispatch.{subscription_at, notified_of}
use Rattle.endpoint.specs.Take.{take_call}
use Rattle.reset.specs.Datagram.{datagram_call}
use Rattle.endpoint.specs.declared.Record.{Record}
use Rattle.promise.proofs.DeviceLaws.{length_close}
use Rattle.promise.proofs.Locks.{other_holds}
use Rattle.technician.specs.Silence.{is_silent}
use Rattle.promise.proofs.Ways.{delivery_ways, taking_ways, done_ways, run_ways}

-- ---- what a connection holds while it stays
pub lock_kept : (n at : ℕ) (d e : Device) → Stays n d e → get_or d.holders at 0 ≡ n + 1 → get_or e.holders at 0 ≡ n + 1
unfolding locks_of is_lock_of
lock_kept n at d e a h = find (get_or e.holders at 0) (eqb (get_or e.holders at 0) (n + 1)) refl same
  where
    own : ℕ → ℕ
    own x = cond (eqb x (n + 1)) x 0

    same : own (get_or e.holders at 0) ≡ n + 1
    same =
        sym (get_or-map own e.holders at 0)
        ∙ ap (λ (l : List ℕ). get_or l at (own 0)) a.locks
        ∙ get_or-map own d.holders at 0
        ∙ rw (h, eq-eqb (n + 1) (n + 1) refl)

    find : (x : ℕ) (b : Bool) → eqb x (n + 1) ≡ b → own x ≡ n + 1 → x ≡ n + 1
    find x true q z = eqb-true x (n + 1) q
    find x false q z = let y : 0 ≡ n + 1 = rw q at z in absurd (omega arith)

-- ---- other calls
reading_shut : (d : Device) (k : ℕ) → (close_of d k).reading ≡ d.reading
unfolding close_of sweep_of
reading_shut d k = refl

-- connection n is as open and as silent as it was, with its H and its locks
pub record Same (n : ℕ) (d e : Device) : Type 0 where
  pub reading : e.reading ≡ d.reading
  pub long : length e.connections ≡ length d.connections
  pub live : (get_or e.connections n closed).live ≡ (get_or d.connections n closed).live
  pub beat : (get_or e.connections n closed).beat ≡ (get_or d.connections n closed).beat
  pub silence : (get_or e.connections n closed).silence ≡ (get_or d.connections n closed).silence
  pub locks : (at : ℕ) → get_or d.holders at 0 ≡ n + 1 → get_or e.holders at 0 ≡ n + 1

-- an open connection does not stand at the lowest free number
opened_other : (cs : List Connection) (n : ℕ) → (get_or cs n closed).live ≡ true → get_or (set cs (index is_not_open cs) opened) n closed ≡ get_or cs n closed
unfolding is_not_open
opened_other [] n l = refl
opened_other (c ∷ cs) zero l = rw l
opened_other (c ∷ cs) (suc n) l = go c.live (opened_other cs n l)
  where
    go : (b : Bool) → get_or (set cs (index (λ (x : Connection). not x.live) cs) opened) n closed ≡ get_or cs n closed
        → get_or (set (c ∷ cs) (cond (not b) 0 (suc (index (λ (x : Connection). not x.live) cs))) opened) (suc n) closed ≡ get_or cs n closed
    go false q = refl
    go true q = q

-- a command with status 0 is not refused by another's lock
not_held : (h : Bool) (z : ℕ) → cond h 3 z ≡ 0 → h ≡ false
not_held h z q = (cond_right h 3 z 0 q (λ e. omega arith)).0

module _ (n : ℕ) where
  same_refl : (d : Device) → Same n d d
  same_refl d = record { reading = refl; long = refl; live = refl; beat = refl; silence = refl; locks = λ at h. h }

  same_on : (d e f : Device) → Same n d e → Same n e f → Same n d f
  same_on d e f a b =
      record {
        reading = b.reading ∙ a.reading;
        long = b.long ∙ a.long;
        live = b.live ∙ a.live;
        beat = b.beat ∙ a.beat;
        silence = b.silence ∙ a.silence;
        locks = λ at h. b.locks at (a.locks at h);
      }

  same_of : (d e : Device) → e.reading ≡ d.reading → length e.connections ≡ length d.connections → get_or e.connections n closed ≡ get_or d.connections n closed
      → ((at : ℕ) → get_or d.holders at 0 ≡ n + 1 → get_or e.holders at 0 ≡ n + 1) → Same n d e
  same_of d e z l c h =
      record {
        reading = z;
        long = l;
        live = ap (λ (x : Connection). x.live) c;
        beat = ap (λ (x : Connection). x.beat) c;
        silence = ap (λ (x : Connection). x.silence) c;
        locks = h;
      }

  -- what the device sends, to whomever
  sent_same : (d : Device) (k : ℕ) → Same n d (sent_at d k)
  unfolding sent_at sent_of
  sent_same d k =
      record {
        reading = refl;
        long = length-set d.connections k _;
        live = alike (λ (x : Connection). x.live) refl;
        beat = alike (λ (x : Connection). x.beat) refl;
        silence = alike (λ (x : Connection). x.silence) refl;
        locks = λ at h. h;
      }
    where
      alike : {A : Type 0} (g : Connection → A) → g (sent_of (get_or d.connections k closed)) ≡ g (get_or d.connections k closed)
          → g (get_or (set d.connections k (sent_of (get_or d.connections k closed))) n closed) ≡ g (get_or d.connections n closed)
      alike {A} g q =
          sym (get_or-map g (set d.connections k (sent_of (get_or d.connections k closed))) n closed)
          ∙ ap (λ (l : List A). get_or l n (g closed)) (map-set_same g d.connections k (sent_of (get_or d.connections k closed)) closed q)
          ∙ get_or-map g d.connections n closed

  told_same : (d : Device) (i : ℕ) → Same n d (told_at d i)
  unfolding told_at
  told_same d i = same_of d _ refl refl refl (λ at h. h)

  open_same : (d : Device) → live_at d.connections n ≡ true → Same n d (open_of d).device
  unfolding open_of live_at
  open_same d l =
      either (λ (o : Opened). Same n d o.device) (any is_not_open d.connections) _ _
      (same_of d _ refl (length-set d.connections _ opened) (opened_other d.connections n l) (λ at h. h))
      (same_refl d)

  -- another connection k
  module _ (k : ℕ) (e : eqb k n ≡ false) where
    apart : eqb n k ≡ false
    apart = ne_eqb n k (λ q. eqb-false k n e (sym q))

    at_same : (f : Connection → Connection) (d : Device) → Same n d (at_connection f d k)
    at_same f d =
        same_of d _ refl (length-set d.connections k _)
        (get_or-set_other d.connections k n (f (get_or d.connections k closed)) closed (eqb-false n k apart))
        (λ at h. h)

    close_same : (d : Device) → live_at d.connections n ≡ true → Same n d (close_of d k)
    close_same d l =
        same_of d _ (reading_shut d k) (length_close d k) (closure_frees.same d k n apart) (λ at h. lock_kept n at d (close_of d k) (closure_frees.others d k n apart l) h)

    -- the holder at a place that k may lock is not n
    elsewhere : (d : Device) (at target v : ℕ) → is_other (holder_at d target) k ≡ false → get_or d.holders at 0 ≡ n + 1 → get_or (set d.holders (place_of target) v) at 0 ≡ n + 1
    unfolding holder_at
    elsewhere d at target v o h = get_or-set_other d.holders (place_of target) at v 0 (λ q. no q) ∙ h
      where
        no : at ≡ place_of target → ⊥
        no q = clash ⊥ (is_other (get_or d.holders (place_of target) 0) k) (rw (← q, h) (other_holds n k e)) o

    -- a command of k
    done_same : (d : Device) (target m : ℕ) (part : List ℕ) → is_held_by_other d k target m ≡ false → Same n d (done_of d k target m part)
    unfolding is_held_by_other is_locking
    done_same d target m part h =
        done_ways (Same n d) d k target m part (λ e. held (owner_of k) (rw e at h)) (λ e. held 0 (free (eqb m lock_method) (eqb m set_method) (rw e at h)))
        (λ x a b c. same_of d x a (ap length b) (ap (λ (l : List Connection). get_or l n closed) b) (λ at q. ap (λ (l : List ℕ). get_or l at 0) c ∙ q))
      where
        held : (v : ℕ) → is_other (holder_at d target) k ≡ false → Same n d (with_holders d (set d.holders (place_of target) v))
        held v o = same_of d _ refl refl refl (λ at q. elsewhere d at target v o q)

        free : (a c : Bool) → (((a || true) || c) && is_other (holder_at d target) k) ≡ false → is_other (holder_at d target) k ≡ false
        free true c q = q
        free false c q = q

    run_same : (d : Device) (target m count : ℕ) (part : List ℕ) → Same n d (run_of d k target m count part).device
    unfolding status_of later_status
    run_same d target m count part =
        run_ways (Same n d) d k target m count part
        (λ q.
        done_same d target m part
        (not_held (is_held_by_other d k target m) _
        (neither_fails (first_status target m count part) (later_status d k target m part) q).1))
        (same_refl d)

    last_same : (count : ℕ) (d : Device) (kind : ℕ) (t : List ℕ) → Same n d (last_of count d k kind t)
    unfolding last_of ran_first ran_with
    last_same zero d kind t = same_refl d
    last_same (suc c) d kind t =
        same_on d (ran_first d k kind t).device _ (run_same d _ _ _ _) (last_same c (ran_first d k kind t).device kind (drop (entry_size kind t) t))

    -- a sound message of k
    sound_same : (d : Device) (m : List ℕ) → Same n d (sound_of d k m).device
    unfolding sound_of kept_alive commands_of heard_at beating_at
    sound_same d m =
        let t = drop header_end m in
        let h = at_same heard_of d in
        let c = same_on d _ _ h (last_same (message_count m) (heard_at d k) (pdu_type m) t) in
        either P (eqb (pdu_type m) keep_alive) _ _
        (either (λ (x : Device). Same n d x) (live_at d.connections k) _ _ (at_same (beating_of (heartbeat_of t)) d) (same_refl d))
        (either P (ltb (pdu_type m) notification) _ _ (either P (eqb (pdu_type m) 0) _ _ c (same_on d _ _ c (sent_same _ k))) h)
      where
        P : Ruled → Type 0
        P x = Same n d x.device

    delivered_same : (r : Record) (area piece xs out : List ℕ) → live_at r.device.connections n ≡ true → (x : Decision)
        → Same n r.device (delivered_by x r.device area k (held_at r k) piece xs out).device
    unfolding delivered_by messaged
    delivered_same r area piece xs out l Undecided = same_refl r.device
    delivered_same r area piece xs out l (Faulty f t) = close_same r.device l
    delivered_same r area piece xs out l (Sound t) = sound_same r.device (take t xs)

    deliver_same : (r : Record) (area piece out : List ℕ) → live_at r.device.connections n ≡ true → Same n r.device (deliver_call r area k piece out).state.device
    unfolding taken_in
    deliver_same r area piece out l =
        let xs = undecided_of area k (held_at r k) ++ piece in
        delivery_ways (Same n r.device) r area k piece out (same_refl r.device) (delivered_same r area piece xs out l (decide xs))

-- ---- bytes that decide nothing
pub half : (r : Record) (area : List ℕ) (n : ℕ) (piece out : List ℕ) → decide (undecided_of area n (held_at r n) ++ piece) ≡ Undecided → (deliver_call r area n piece out).state.device ≡ r.device
unfolding taken_in delivered_by
half r area n piece out e = delivery_ways (λ (d : Device). d ≡ r.device) r area n piece out refl (rw e)

-- ---- every call
pub open_call_lem : (r : Record) (n : ℕ) → live_at r.device.connections n ≡ true → Same n r.device (open_call r).state.device
unfolding open_call opened_by
open_call_lem r n l = either (λ (o : Outcome). Same n r.device o.state.device) (record_obeys r) _ _ (go (open_of r.device).answer) (same_refl n r.device)
  where
    go : (x : Option ℕ) → Same n r.device (opened_by x r (open_of r.device)).state.device
    go (Some i) = open_same n r.device l
    go None = same_refl n r.device

pub close_call_lem : (r : Record) (area : List ℕ) (k n : ℕ) → not (eqb k n) ≡ true → live_at r.device.connections n ≡ true → Same n r.device (close_call r area k).state.device
unfolding close_call closed_state
close_call_lem r area k n a l =
    either P (record_obeys r) _ _
    (either P (area_sound r.held area) _ _
    (either P (live_at r.device.connections k) _ _ (close_same n k (not-true (eqb k n) a) r.device l) (same_refl n r.device))
    (same_refl n r.device))
    (same_refl n r.device)
  where
    P : Outcome → Type 0
    P o = Same n r.device o.state.device

pub take_call_lem : (r : Record) (out : List ℕ) (n : ℕ) → Same n r.device (take_call r out).state.device
unfolding notified_of
take_call_lem r out n =
    let d = r.device in
    let i = lowest_waiting d.subscriptions in
    taking_ways (Same n d) r out (same_refl n d)
    (same_on n d (told_at d i) _ (told_same n d i) (sent_same n (told_at d i) (subscription_at d i).connection))
    (sent_same n d (lowest_due d.connections))

pub datagram_call_lem : (r : Record) (area g : List ℕ) (n : ℕ) → not (resets r.device.mechanism g) ≡ true → Same n r.device (datagram_call r area g).state.device
unfolding datagram_call
datagram_call_lem r area g n a =
    either P (record_obeys r) _ _
    (either P (area_sound r.held area) _ _ (rw (not-true (resets r.device.mechanism g) a) (same_refl n r.device)) (same_refl n r.device))
    (same_refl n r.device)
  where
    P : Outcome → Type 0
    P o = Same n r.device o.state.device

-- a piece whose output is too small is refused
refused_piece : (r : Record) (area : List ℕ) (k : ℕ) (piece out : List ℕ) → ltb (length out) least_output ≡ true → (deliver_call r area k piece out).state.device ≡ r.device
unfolding deliver_call
refused_piece r area k piece out e =
    rw e
    (either P (record_obeys r) _ _ (either P (area_sound r.held area) _ _ (either P (live_at r.device.connections k) _ _ refl refl) refl) refl)
  where
    P : Outcome → Type 0
    P o = o.state.device ≡ r.device

pub deliver_call_lem : (r : Record) (area : List ℕ) (k : ℕ) (piece out : List ℕ) (n : ℕ) → is_silent n r area (deliver k piece out) ≡ true → live_at r.device.connections n ≡ true
    → Same n r.device (deliver_call r area k piece out).state.device
unfolding is_silent
deliver_call_lem r area k piece out n a l = go (eqb k n) refl (ltb (length out) least_output) refl a
  where
    go : (b : Bool) → eqb k n ≡ b → (s : Bool) → ltb (length out) least_output ≡ s
        → (not b || (s || not (settled (decide (undecided_of area k (held_at r k) ++ piece))))) ≡ true → Same n r.device (deliver_call r area k piece out).state.device
    go false e s f a = deliver_same n k e r area piece out l
    go true e true f a = rw (refused_piece r area k piece out f) (same_refl n r.device)
    go true e false f a =
        let u = unsettled (decide (undecided_of area k (held_at r k) ++ piece)) (not-true _ a) in
        rw (half r area k piece out u) (same_refl n r.device)

-- Laws of taking: what the record rules tell of a waiting entry and of a connection, and which way a take goes. Assumes nothing.
use Prim.Native.Nat.{ℕ, suc, ◌<◌, ◌≤◌}
use mathlib.Core.Path.{◌≡◌, refl, sym, ap, ◌∙◌}
use mathlib.Core.Logic.{⊎_elim}
use mathlib.Core.Bool.{Bool, true, false, cond, ◌&&◌, and-false}
use mathlib.Core.List.{List, [], ◌∷◌}
use native.Mathlib.Nat.{not-suc-le-zero, le_of_suc-le-suc}
use native.Mathlib.Omega.{arith}
use borrow.Author.Tests.{lt-ltb}
use Rattle.std.specs.Prelude.{Option, Some, None, IfSome, MatchOption}
use Rattle.std.specs.List.{position}
use Rattle.arrays.proofs.Places.{found_number}
use lib.ListN.{length, get_or, set}
use Rattle.laws.specs.Lists.{all, all_pairs, index}
use Rattle.laws.proofs.Conds.{and_left, and_right}
use Rattle.laws.proofs.Loops.{all_at}
use Rattle.laws.proofs.Tables.{clash, get_d_any}
use Rattle.answers.specs.Numbers.{taking_numbers}
use Rattle.answers.specs.declared.Taking.TheVariants.{Nothing, Notification, KeepAlive}
use Rattle.frame.specs.Limits.{greatest_context}
use Rattle.mechanism.specs.Obeys.{mechanism_obeys}
use Rattle.layout.specs.Message.{at_front}
use Rattle.connection.specs.State.{connection_count, closed, is_due, lowest_due}
use Rattle.connection.specs.Obeys.{connection_obeys}
use Rattle.connection.specs.Supervision.{sent_of, heartbeat_kept}
use Rattle.connection.specs.declared.Connection.{Connection}
use Rattle.connection.proofs.Times.{live_below}
use Rattle.subscription.specs.State.{entry_count, is_waiting, free, lowest_waiting, told_of}
use Rattle.subscription.specs.Obeys.{is_free, entry_obeys, apart}
use Rattle.subscription.specs.declared.Subscription.{Subscription}
use Rattle.subscription.proofs.Entries.{kept_low}
use Rattle.subscription.proofs.Keeps.{Sound, entry_view}
use Rattle.objects.specs.Methods.{place_of, is_mute}
use Rattle.objects.specs.Tests.{is_mute_value}
use Rattle.holders.specs.Holders.{holder_obeys}
use Rattle.heartbeat.specs.declared.Heartbeat.{Heartbeat}
use Rattle.replies.specs.Bytes.{notification_bytes, keep_alive_bytes}
use Rattle.device.specs.Setters.{with_connections, with_subscriptions}
use Rattle.device.specs.State.{sent_at, told_at}
use Rattle.device.specs.Obeys.{device_obeys}
use Rattle.device.specs.Run.{mute_at}
use Rattle.device.specs.declared.Device.{Device}
use Rattle.taking.specs.Dispatch.{Dispatch, dispatch, subscription_at, notification_at, notified_of, notifying, reminding, taken_by, dispatched}

-- ---- the record rules
waiting_used : (s : Subscription) → is_waiting s ≡ true → is_free s ≡ false
unfolding is_waiting is_free
waiting_used s w = simp (w, and-false)

-- an entry that waits is used: its connection is open, and its emitter a mute
waiting_sound : (cs : List Connection) (s : Subscription) → entry_obeys cs s ≡ true → is_waiting s ≡ true → Sound cs s
waiting_sound cs s e w = ⊎_elim (λ (f : is_free s ≡ true). clash (Sound cs s) (is_free s) f (waiting_used s w)) (λ k. k) (entry_view cs s e)

device_first : (d : Device) → device_obeys d ≡ true → (all connection_obeys d.connections ≡ true) × (all (entry_obeys d.connections) d.subscriptions ≡ true)
unfolding device_obeys
device_first d x =
    let a = all connection_obeys d.connections in
    let b = all (entry_obeys d.connections) d.subscriptions in
    let c = all_pairs apart d.subscriptions in
    let e = all is_mute_value d.mutes in
    let h = all (holder_obeys d.connections) d.holders in
    let y = and_left (a && b) c (and_left (a && b && c) e (and_left (a && b && c && e) h (and_left (a && b && c && e && h) (mechanism_obeys d.mechanism) x))) in
    (and_left a b y, and_right a b y)

-- at one connection and at one entry
module _ (d : Device) (o : device_obeys d ≡ true) where
  pub connection_obeys_lem : (n : ℕ) → length d.connections ≡ 8 → n < 8 → connection_obeys (get_or d.connections n closed) ≡ true
  connection_obeys_lem n l h = all_at connection_obeys d.connections n closed (device_first d o).0 (omega arith)

  module _ (i : ℕ) (l : length d.subscriptions ≡ 32) (h : i < 32) (w : is_waiting (subscription_at d i) ≡ true) where
    entry_sound : Sound d.connections (subscription_at d i)
    entry_sound =
        let cs = d.connections in
        waiting_sound cs (subscription_at d i) (all_at (entry_obeys cs) d.subscriptions i free (device_first d o).1 (omega arith)) w

    -- read out of the array, whatever an entry past its end would be
    module _ (e : Subscription) where
      pub entry_read : get_or d.subscriptions i e ≡ subscription_at d i
      entry_read = get_d_any d.subscriptions i e free (omega arith)

      read_sound : Sound d.connections (get_or d.subscriptions i e)
      read_sound = rw entry_read entry_sound

      pub emitter_mute : is_mute (get_or d.subscriptions i e).emitter ≡ true
      emitter_mute = read_sound.mute

      pub context_low : (get_or d.subscriptions i e).context_count ≤ greatest_context
      context_low = let s = get_or d.subscriptions i e in kept_low s.context_count s.context read_sound.context

      pub entry_place : length d.connections ≡ 8 → (get_or d.subscriptions i e).connection < 8
      entry_place k = omega (arith, live_below d.connections (get_or d.subscriptions i e).connection read_sound.live)

-- ---- what is sent
pub notification_is : (d : Device) (i at k : ℕ) (out o : List ℕ) (t : Subscription) → t ≡ subscription_at d i → at ≡ place_of t.emitter
    → k ≡ length (notification_bytes t (get_or d.mutes at 0))
    → o ≡ at_front (notification_bytes t (get_or d.mutes at 0)) out
    → (k ≡ length (notification_at d i)) × (o ≡ at_front (notification_at d i) out)
unfolding mute_at
notification_is d i at k out o t s a p q = (rw (p, a, s), rw (q, a, s))

pub told_sent : (d : Device) (i : ℕ) (t : Subscription) → t ≡ subscription_at d i → (c b : Connection) → t.connection < length d.connections
    → c ≡ sent_of (get_or d.connections t.connection b) → (l : List Subscription) → l ≡ set d.subscriptions i (told_of (get_or d.subscriptions i free))
    → with_connections (with_subscriptions d l) (set d.connections t.connection c) ≡ notified_of d i
unfolding notified_of sent_at told_at
told_sent d i t q c b h x l p = rw (x, get_d_any d.connections t.connection b closed h, p, q)

pub notified_is : (d : Device) (i k : ℕ) (f : Device) (out o : List ℕ) (t : Subscription) → t ≡ subscription_at d i
    → k ≡ length (notification_at d i) → o ≡ at_front (notification_at d i) out → f ≡ notified_of d i
    → dispatch (taking_numbers (Notification t.connection k)) f o ≡ notifying d out i
unfolding notifying
notified_is d i k f out o t s p q e = rw (p, q, e, s)

pub sent_is : (d : Device) (n : ℕ) (c b : Connection) → n < length d.connections → c ≡ sent_of (get_or d.connections n b) → with_connections d (set d.connections n c) ≡ sent_at d n
unfolding sent_at
sent_is d n c b h x = rw (x, get_d_any d.connections n b closed h)

pub heard_is : (d : Device) (n : ℕ) (h : Heartbeat) (b : Connection) → n < length d.connections → h ≡ heartbeat_kept (get_or d.connections n b) → h ≡ heartbeat_kept (get_or d.connections n closed)
heard_is d n h b k e = e ∙ ap heartbeat_kept (get_d_any d.connections n b closed k)

pub reminded_is : (d : Device) (n k : ℕ) (h : Heartbeat) (f : Device) (out o : List ℕ) → h ≡ heartbeat_kept (get_or d.connections n closed)
    → k ≡ length (keep_alive_bytes h) → o ≡ at_front (keep_alive_bytes h) out → f ≡ sent_at d n
    → dispatch (taking_numbers (KeepAlive n k)) f o ≡ reminding d out n
unfolding reminding
reminded_is d n k h f out o a p q e = rw (p, q, e, a)

-- ---- what is found
pub index_meets : {A : Type 0} (p : A → Bool) (l : List A) (a : A) → index p l < length l → p (get_or l (index p l) a) ≡ true
index_meets p [] a h = absurd (not-suc-le-zero h)
index_meets {A} p (x ∷ l) a h = go (p x) refl h (λ k. index_meets p l a k)
  where
    go : (t : Bool) → p x ≡ t → cond t 0 (suc (index p l)) < suc (length l) → (index p l < length l → p (get_or l (index p l) a) ≡ true) → p (get_or (x ∷ l) (cond t 0 (suc (index p l))) a) ≡ true
    go true e k f = e
    go false e k f = f (le_of_suc-le-suc k)

pub entry_found : (l : List Subscription) (r : Option ℕ) → length l ≡ 32 → r ≡ position is_waiting l → IfSome r (λ n. n < 32)
    → MatchOption r (lowest_waiting l ≡ 32) (λ at. (at ≡ lowest_waiting l) × (at < 32))
entry_found l None e q h = sym (found_number is_waiting l 32 None q e)
entry_found l (Some n) e q h = (found_number is_waiting l 32 (Some n) q e, h)

pub due_found : (l : List Connection) (r : Option ℕ) → length l ≡ 8 → r ≡ position is_due l → IfSome r (λ n. n < 8)
    → MatchOption r (lowest_due l ≡ 8) (λ n. (n ≡ lowest_due l) × (n < 8))
due_found l None e q h = sym (found_number is_due l 8 None q e)
due_found l (Some n) e q h = (found_number is_due l 8 (Some n) q e, h)

-- ---- the ways of a take
module _ (d : Device) (out : List ℕ) where
  pub take_notified : (i : ℕ) → i ≡ lowest_waiting d.subscriptions → i < 32 → (o : Dispatch) → o ≡ notifying d out i → o ≡ dispatched d out
  unfolding taken_by
  take_notified i qi h o e = rw (← qi, lt-ltb i entry_count h) e

  module _ (past : lowest_waiting d.subscriptions ≡ 32) where
    pub take_reminded : (n : ℕ) → n ≡ lowest_due d.connections → n < 8 → (o : Dispatch) → o ≡ reminding d out n → o ≡ dispatched d out
    unfolding taken_by
    take_reminded n qn h o e = rw (past, ← qn, lt-ltb n connection_count h) e

    pub take_nothing : lowest_due d.connections ≡ 8 → dispatch (taking_numbers Nothing) d out ≡ dispatched d out
    unfolding taken_by
    take_nothing qn = rw (past, qn)

-- Marking and sweeping keep the rules of the entries. No code is named. Assumes nothing.
use Rattle.std.proofs.Common.{ℕ, ◌≡◌, refl, sym, ap, ◌∙◌, ◌⊎◌, inl, inr, ⊎_elim, Bool, true, false, cond, not, ◌&&◌, List, eqb}
use Rattle.std.proofs.Math.Bool.{and_comm}
use Rattle.laws.proofs.Conds.{and_left, and_right}
use Rattle.laws.proofs.Tables.{and_both, or_cases, or_right, clash, eqb_even}
use Rattle.octets.specs.Zeros.{zeros, all_zero}
use Rattle.connection.specs.State.{live_at}
use Rattle.connection.specs.declared.Connection.{Connection}
use Rattle.objects.specs.Methods.{change_event, is_mute}
use Rattle.subscription.specs.Setters.{with_waiting}
use Rattle.subscription.specs.State.{free, is_twin, marked_of, told_of, swept_of}
use Rattle.subscription.specs.Obeys.{is_free, is_context_kept, is_sound, entry_obeys, apart}
use Rattle.subscription.specs.Kept.{EntriesKept}
use Rattle.subscription.specs.declared.Subscription.{Subscription}

-- ---- the rules by name
pub record Sound (cs : List Connection) (s : Subscription) : Type 0 where
  pub used : s.used ≡ true
  pub live : live_at cs s.connection ≡ true
  pub mute : is_mute s.emitter ≡ true
  pub event : eqb s.event change_event ≡ true
  pub context : is_context_kept s.context_count s.context ≡ true

sound_are : (cs : List Connection) (s : Subscription) → is_sound cs s ≡ true → Sound cs s
unfolding is_sound
sound_are cs s k =
    let k4 = and_left _ (is_context_kept s.context_count s.context) k in
    let k3 = and_left _ (eqb s.event change_event) k4 in
    let k2 = and_left _ (is_mute s.emitter) k3 in
    record {
      used = and_left s.used (live_at cs s.connection) k2;
      live = and_right s.used (live_at cs s.connection) k2;
      mute = and_right (s.used && live_at cs s.connection) _ k3;
      event = and_right (s.used && live_at cs s.connection && is_mute s.emitter) _ k4;
      context = and_right (s.used && live_at cs s.connection && is_mute s.emitter && eqb s.event change_event) _ k;
    }

-- an entry that obeys is free or sound
pub entry_view : (cs : List Connection) (s : Subscription) → entry_obeys cs s ≡ true → (is_free s ≡ true) ⊎ Sound cs s
unfolding entry_obeys
entry_view cs s h = ⊎_elim (λ (f : is_free s ≡ true). inl f) (λ k. inr (sound_are cs s k)) (or_cases (is_free s) _ h)

pub obeys_free : (cs : List Connection) (s : Subscription) → is_free s ≡ true → entry_obeys cs s ≡ true
unfolding entry_obeys
obeys_free cs s f = rw f

pub obeys_sound : (cs : List Connection) (s : Subscription) → Sound cs s → entry_obeys cs s ≡ true
unfolding entry_obeys is_sound
obeys_sound cs s u = or_right (is_free s) _ (and_both _ _ (and_both _ _ (and_both _ _ (and_both _ _ u.used u.live) u.mute) u.event) u.context)

pub free_unused : (s : Subscription) → is_free s ≡ true → s.used ≡ false
unfolding is_free
free_unused s h = go s.used refl
  where
    go : (u : Bool) → s.used ≡ u → s.used ≡ false
    go true e = e ∙ sym (rw e at h)
    go false e = e

free_free : is_free free ≡ true
unfolding is_free zeros all_zero
free_free = refl

-- ---- twins
freed_apart : (s : Subscription) → apart free s ≡ true
unfolding apart is_twin
freed_apart s = refl

even : (s t : Subscription) → apart s t ≡ true → apart t s ≡ true
unfolding apart is_twin
even s t h = ap not twin_even ∙ h
  where
    twin_even : is_twin t s ≡ is_twin s t
    twin_even =
        rw (
          eqb_even t.connection s.connection,
          eqb_even t.emitter s.emitter,
          eqb_even t.event s.event,
          eqb_even t.object s.object,
          eqb_even t.method s.method,
          and_comm t.used s.used,
        )

-- ---- marks
data Marked (s : Subscription) : Subscription → Type 0 where
  now : s.used ≡ true → Marked s (with_waiting s true)
  not_now : Marked s s

mark_view : (emitter : ℕ) (s : Subscription) → Marked s (marked_of emitter s)
unfolding marked_of
mark_view emitter s = go (s.used && eqb s.emitter emitter) refl
  where
    go : (t : Bool) → s.used && eqb s.emitter emitter ≡ t → Marked s (cond t (with_waiting s true) s)
    go true e = now (and_left s.used _ e)
    go false e = not_now

marked_obeys : (cs : List Connection) (s : Subscription) {t : Subscription} → Marked s t → entry_obeys cs s ≡ true → entry_obeys cs t ≡ true
marked_obeys cs s (now u) h =
    ⊎_elim (λ f. clash _ s.used u (free_unused s f))
    (λ (k : Sound cs s). obeys_sound cs (with_waiting s true) (record { used = u; live = k.live; mute = k.mute; event = k.event; context = k.context }))
    (entry_view cs s h)
marked_obeys cs s not_now h = h

marked_apart : {s t a b : Subscription} → Marked s a → Marked t b → apart s t ≡ true → apart a b ≡ true
unfolding apart is_twin
marked_apart (now u) (now v) h = h
marked_apart (now u) not_now h = h
marked_apart not_now (now v) h = h
marked_apart not_now not_now h = h

-- ---- an entry told
free_told : (s : Subscription) → is_free s ≡ true → is_free (told_of s) ≡ true
unfolding is_free told_of
free_told s f = go s.waiting refl s.used refl
  where
    go : (w : Bool) → s.waiting ≡ w → (u : Bool) → s.used ≡ u → is_free (told_of s) ≡ true
    go true w true u = clash _ false (rw u at f) refl
    go true w false u = clash _ false (rw (u, w) at f) refl
    go false w u e = rw w at f

telling : (cs : List Connection) (s : Subscription) → entry_obeys cs s ≡ true → entry_obeys cs (told_of s) ≡ true
unfolding told_of
telling cs s h =
    ⊎_elim (λ f. obeys_free cs (told_of s) (free_told s f))
    (λ (u : Sound cs s). obeys_sound cs (told_of s) (record { used = u.used; live = u.live; mute = u.mute; event = u.event; context = u.context }))
    (entry_view cs s h)

telling_left : (s t : Subscription) → apart (told_of s) t ≡ apart s t
unfolding told_of apart is_twin
telling_left s t = refl

telling_right : (s t : Subscription) → apart s (told_of t) ≡ apart s t
unfolding told_of apart is_twin
telling_right s t = refl

-- ---- sweeps
sweep_same : (ds : List Connection) (s : Subscription) → s.used && not (live_at ds s.connection) ≡ false → swept_of ds s ≡ s
unfolding swept_of
sweep_same ds s e = rw e

sweep_free : (ds : List Connection) (s : Subscription) → s.used && not (live_at ds s.connection) ≡ true → swept_of ds s ≡ free
unfolding swept_of
sweep_free ds s e = rw e

sweeping : (cs ds : List Connection) (s : Subscription) → entry_obeys cs s ≡ true → entry_obeys ds (swept_of ds s) ≡ true
sweeping cs ds s h = ⊎_elim idle (λ u. busy u (live_at ds s.connection) refl) (entry_view cs s h)
  where
    idle : is_free s ≡ true → entry_obeys ds (swept_of ds s) ≡ true
    idle f = ap (entry_obeys ds) (sweep_same ds s (rw (free_unused s f))) ∙ obeys_free ds s f

    busy : Sound cs s → (l : Bool) → live_at ds s.connection ≡ l → entry_obeys ds (swept_of ds s) ≡ true
    busy u true l =
        ap (entry_obeys ds) (sweep_same ds s (rw (u.used, l)))
        ∙ obeys_sound ds s (record { used = u.used; live = l; mute = u.mute; event = u.event; context = u.context })
    busy u false l = ap (entry_obeys ds) (sweep_free ds s (rw (u.used, l))) ∙ obeys_free ds free free_free

data Swept (s : Subscription) : Subscription → Type 0 where
  gone : Swept s free
  stays : Swept s s

sweep_view : (ds : List Connection) (s : Subscription) → Swept s (swept_of ds s)
unfolding swept_of
sweep_view ds s = go (s.used && not (live_at ds s.connection))
  where
    go : (t : Bool) → Swept s (cond t free s)
    go true = gone
    go false = stays

swept_apart : {s t a b : Subscription} → Swept s a → Swept t b → apart s t ≡ true → apart a b ≡ true
swept_apart {b = b} gone w h = freed_apart b
swept_apart {s = s} stays gone h = even free s (freed_apart s)
swept_apart stays stays h = h

-- ---- connections that stay open
standing : (cs ds : List Connection) → ((n : ℕ) → live_at cs n ≡ true → live_at ds n ≡ true) → (s : Subscription) → entry_obeys cs s ≡ true → entry_obeys ds s ≡ true
standing cs ds k s h =
    ⊎_elim (λ f. obeys_free ds s f)
    (λ (u : Sound cs s). obeys_sound ds s (record { used = u.used; live = k s.connection u.live; mute = u.mute; event = u.event; context = u.context }))
    (entry_view cs s h)

pub entries_kept : EntriesKept
entries_kept =
    record {
      freed = λ cs. obeys_free cs free free_free;
      freed_apart = freed_apart;
      even = even;
      marking = λ cs e s. marked_obeys cs s (mark_view e s);
      marking_apart = λ e s t. marked_apart (mark_view e s) (mark_view e t);
      telling = telling;
      telling_left = telling_left;
      telling_right = telling_right;
      sweeping = sweeping;
      sweeping_apart = λ ds s t. swept_apart (sweep_view ds s) (sweep_view ds t);
      standing = standing;
    }

-- Two ticks of a device come to one of both steps, and a step of 0 to nothing. No code is named. Assumes nothing.
use Rattle.std.proofs.Common.{◌≡◌, ℕ, ◌+◌, Bool, true, false, cond, not, List, [], ◌∷◌, map, get_or, sym, refl, ap, ◌∙◌, ⊎_elim}
use Rattle.std.proofs.Math.ListN.{get_or-map}
use Rattle.laws.specs.Lists.{all}
use Rattle.laws.proofs.Conds.{and_left}
use Rattle.laws.proofs.Tables.{clash, map_same, map_map, map_all}
use Rattle.connection.specs.State.{closed, live_at, is_live}
use Rattle.connection.specs.Obeys.{connection_obeys}
use Rattle.connection.specs.Supervision.{closes_at, connection_ticked}
use Rattle.connection.specs.declared.Connection.{Connection}
use Rattle.connection.proofs.Keeps.{supervision_kept, steps_add}
use Rattle.subscription.specs.State.{swept_of}
use Rattle.subscription.specs.Obeys.{is_free, entry_obeys}
use Rattle.subscription.specs.declared.Subscription.{Subscription}
use Rattle.subscription.proofs.Keeps.{Sound, entry_view, free_unused}
use Rattle.holders.specs.Holders.{holder_obeys, swept_holder}
use Rattle.holders.proofs.Keeps.{holders_kept}
use Rattle.device.specs.State.{sweep_of, lives_in}
use Rattle.device.specs.Obeys.{device_obeys}
use Rattle.device.specs.Time.{advanced}
use Rattle.device.specs.declared.Device.{Device}
use Rattle.device.proofs.Keeps.{obeys_are}

-- the connections after a step
abbrev pub after : ℕ → List Connection → List Connection
after step cs = map (connection_ticked step) cs

-- the device after a tick with that step, which is not refused
abbrev pub passed : Device → ℕ → ℕ → Device
passed d reading step = sweep_of (advanced d reading (after step d.connections))

-- ---- the connections
after_both : (a b : ℕ) (cs : List Connection) → after b (after a cs) ≡ after (a + b) cs
after_both a b cs = map_map (connection_ticked a) (connection_ticked b) cs ∙ map_same _ _ (steps_add.both a b) cs

map_none : {A : Type 0} (l : List A) → map (λ (x : A). x) l ≡ l
map_none [] = refl
map_none {A} (x ∷ l) = ap (λ (m : List A). x ∷ m) (map_none l)

-- what changes nothing of an element that meets the test changes nothing of a list whose elements all do
map_still : {A : Type 0} (p : A → Bool) (f : A → A) → ((x : A) → p x ≡ true → f x ≡ x) → (l : List A) → all p l ≡ true → map f l ≡ l
map_still p f e l h = map_all p f _ e l h ∙ map_none l

-- a tick opens nobody
pub live_before : (step : ℕ) (c : Connection) → is_live (connection_ticked step c) ≡ true → is_live c ≡ true
live_before step c l = and_left c.live (not (closes_at step c)) (sym (supervision_kept.leaving step c) ∙ l)

open_before : (step : ℕ) (cs : List Connection) (n : ℕ) → live_at (after step cs) n ≡ true → live_at cs n ≡ true
unfolding live_at connection_ticked
open_before step cs n l =
    live_before step (get_or cs n closed)
    (sym (ap (λ (c : Connection). c.live) (get_or-map (connection_ticked step) cs n closed)) ∙ l)

-- ---- a sweep behind another: who is open for the later is open for the earlier
module _ (cs ds : List Connection) (fewer : (n : ℕ) → live_at ds n ≡ true → live_at cs n ≡ true) where
  entry_both : (s : Subscription) → swept_of ds (swept_of cs s) ≡ swept_of ds s
  unfolding swept_of
  entry_both s = go s.used refl (live_at cs s.connection) refl (live_at ds s.connection) refl
    where
      go : (u : Bool) → s.used ≡ u → (a : Bool) → live_at cs s.connection ≡ a → (b : Bool) → live_at ds s.connection ≡ b
          → swept_of ds (swept_of cs s) ≡ swept_of ds s
      go false u a e b f = rw u
      go true u true e b f = rw (u, e)
      go true u false e true f = clash _ (live_at cs s.connection) (fewer s.connection f) e
      go true u false e false f = rw (u, e, f)

  holder_both : (h : ℕ) → swept_holder ds (swept_holder cs h) ≡ swept_holder ds h
  unfolding swept_holder
  holder_both h = go (holder_obeys cs h) refl (holder_obeys ds h) refl
    where
      zero_is : (t : Bool) → ◌≡◌ {A = ℕ} (cond t 0 0) 0
      zero_is true = refl
      zero_is false = refl

      go : (a : Bool) → holder_obeys cs h ≡ a → (b : Bool) → holder_obeys ds h ≡ b → swept_holder ds (swept_holder cs h) ≡ swept_holder ds h
      go true e b f = rw e
      go false e true f = clash _ (holder_obeys cs h) (holders_kept.standing ds cs fewer h f) e
      go false e false f = rw (e, f) (zero_is (holder_obeys ds 0))

-- ---- a sweep that finds nothing
entry_same : (cs : List Connection) (s : Subscription) → entry_obeys cs s ≡ true → swept_of cs s ≡ s
unfolding swept_of
entry_same cs s o = ⊎_elim (λ (f : is_free s ≡ true). rw (free_unused s f)) (λ (k : Sound cs s). rw (k.used, k.live)) (entry_view cs s o)

holder_same : (cs : List Connection) (h : ℕ) → holder_obeys cs h ≡ true → swept_holder cs h ≡ h
unfolding swept_holder
holder_same cs h o = rw o

-- ---- the device
pub passed_both : (d : Device) (x y a b : ℕ) → passed (passed d x a) y b ≡ passed d y (a + b)
unfolding sweep_of
passed_both d x y a b =
    let cs = after a d.connections in
    let ds = after b cs in
    let fewer = open_before b cs in
    rw (
      map_map (swept_of cs) (swept_of ds) d.subscriptions,
      map_same _ _ (entry_both cs ds fewer) d.subscriptions,
      map_map (swept_holder cs) (swept_holder ds) d.holders,
      map_same _ _ (holder_both cs ds fewer) d.holders,
      after_both a b d.connections,
    )

pub passed_none : (d : Device) → device_obeys d ≡ true → passed d d.reading 0 ≡ d
unfolding sweep_of
passed_none d h =
    let o = obeys_are d h in
    rw (
      map_still connection_obeys (connection_ticked 0) steps_add.nothing d.connections o.connections,
      map_still (entry_obeys d.connections) (swept_of d.connections) (entry_same d.connections) d.subscriptions o.entries,
      map_still (holder_obeys d.connections) (swept_holder d.connections) (holder_same d.connections) d.holders o.holders,
    )

-- who is open after it
pub lives_passed : (d : Device) (x a : ℕ) → lives_in (passed d x a) ≡ map (λ (c : Connection). is_live (connection_ticked a c)) d.connections
unfolding lives_in sweep_of
lives_passed d x a = map_map (connection_ticked a) is_live d.connections

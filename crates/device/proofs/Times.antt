-- Opening, closing and ticks, case by case. Assumes nothing.
use Rattle.std.proofs.Common.{◌≡◌, ℕ, ◌^◌, ◌<◌, ◌≤◌, Bool, true, false, leb, List, map, length, get_or, set, sym, refl, ap, ◌∙◌, arith, lt-ltb, le-leb}
use Rattle.std.proofs.lemmas.Bool.{lt-leb}
use Rattle.std.proofs.Math.Seq.{set_out}
use Rattle.std.specs.Prelude.{Some, None, position}
use Rattle.laws.specs.Lists.{all, mask}
use Rattle.arrays.proofs.Places.{found_number, found_low}
use Rattle.laws.proofs.Conds.{either}
use Rattle.laws.proofs.Tables.{any_index, get_d_any}
use Rattle.heartbeat.specs.declared.Heartbeat.{Heartbeat}
use Rattle.connection.specs.Obeys.{connection_obeys}
use Rattle.connection.specs.State.{closed, opened, live_at, is_not_open}
use Rattle.connection.specs.Supervision.{closes_at, connection_ticked, heard_of, sent_of, beating_of}
use Rattle.connection.specs.declared.Connection.{Connection}
use Rattle.connection.proofs.Times.{live_below}
use Rattle.subscription.specs.State.{swept_of}
use Rattle.subscription.specs.declared.Subscription.{Subscription}
use Rattle.holders.specs.Holders.{swept_holder}
use Rattle.device.specs.Setters.{with_connections, with_subscriptions, with_holders}
use Rattle.device.specs.Obeys.{device_obeys}
use Rattle.device.specs.State.{Opened, open_of, sweep_of, close_of, closing_of, at_connection, heard_at, sent_at, beating_at}
use Rattle.device.specs.Time.{Ticked, step_of, advanced, tick_step, tick_of}
use Rattle.device.specs.declared.Device.{Device}
use Rattle.device.proofs.Keeps.{obeys_are}

-- ---- one connection changed
pub shut_out : (cs : List Connection) (n : ℕ) → length cs ≡ 8 → 8 ≤ n → cs ≡ set cs n closed
shut_out cs n e h =
    let k : length cs ≤ n = omega arith in
    sym (set_out cs n closed k)

at_in : (f : Connection → Connection) (d : Device) (n : ℕ) (x a : Connection) → n < length d.connections → x ≡ f (get_or d.connections n a) → with_connections d (set d.connections n x) ≡ at_connection f d n
at_in f d n x a h e =
    ap (λ (y : Connection). with_connections d (set d.connections n y)) (e ∙ ap f (get_d_any d.connections n a closed h))

pub live_place : (cs : List Connection) (n : ℕ) (b : Bool) → b ≡ live_at cs n → b ≡ true → length cs ≡ 8 → n < 8
live_place cs n b q t e = omega (arith, live_below cs n (sym q ∙ t))

module _ (d : Device) (n : ℕ) where
  pub heard_in : (x a : Connection) → length d.connections ≡ 8 → n < 8 → x ≡ heard_of (get_or d.connections n a) → (r : Device) → r ≡ with_connections d (set d.connections n x) → r ≡ heard_at d n
  unfolding heard_at
  heard_in x a l h e r q = q ∙ at_in heard_of d n x a (omega arith) e

  pub sent_in_lem : (x a : Connection) → length d.connections ≡ 8 → n < 8 → x ≡ sent_of (get_or d.connections n a) → (r : Device) → r ≡ with_connections d (set d.connections n x) → r ≡ sent_at d n
  unfolding sent_at
  sent_in_lem x a l h e r q = q ∙ at_in sent_of d n x a (omega arith) e

  module _ (b : Bool) (q : b ≡ live_at d.connections n) (h : Heartbeat) (cs : List Connection) (r : Device) (w : r ≡ with_connections d cs) where
    pub beating_not : b ≡ false → cs ≡ d.connections → r ≡ beating_at d n h
    unfolding beating_at
    beating_not t k = rw (← q, t) (w ∙ ap (with_connections d) k)

    pub beating_in : b ≡ true → (x a : Connection) → x ≡ beating_of h (get_or d.connections n a) → cs ≡ set d.connections n x → r ≡ beating_at d n h
    unfolding beating_at
    beating_in t x a e k =
        rw (← q, t) (w ∙ ap (with_connections d) k ∙ at_in (beating_of h) d n x a (live_below d.connections n (sym q ∙ t)) e)

  -- whether it was open is asked before, and the closure is the same either way
  pub close_left : (cs : List Connection) → cs ≡ set d.connections n closed → (r : Device) → r ≡ sweep_of (with_connections d cs) → r ≡ (closing_of d n).device
  unfolding closing_of close_of
  close_left cs w r e = rw (e, w)

  pub close_told : (b : Bool) → b ≡ live_at d.connections n → b ≡ (closing_of d n).answer
  unfolding closing_of
  close_told b q = q

-- what a close leaves
pub close_device : (d : Device) (n : ℕ) (x : Device) → x ≡ (closing_of d n).device → x ≡ close_of d n
unfolding closing_of
close_device d n x e = e

-- ---- opening
-- w says what the search for a free connection gave
module _ (d : Device) (e : length d.connections ≡ 8) where
  module _ (w : None ≡ position is_not_open d.connections) where
    full : open_of d ≡ record { device = d; answer = None }
    unfolding open_of
    full = rw (any_index is_not_open d.connections, ← found_number is_not_open d.connections 8 None w e, e)

    pub open_full : d ≡ (open_of d).device
    open_full = sym (ap (λ (o : Opened). o.device) full)

    pub told_full : None ≡ (open_of d).answer
    told_full = sym (ap (λ (o : Opened). o.answer) full)

  module _ (n : ℕ) (w : Some n ≡ position is_not_open d.connections) where
    done : open_of d ≡ record { device = with_connections d (set d.connections n opened); answer = Some n }
    unfolding open_of
    done =
        rw (
          any_index is_not_open d.connections,
          ← found_number is_not_open d.connections 8 (Some n) w e,
          e,
          lt-ltb n 8 (found_low is_not_open d.connections 8 (Some n) w e),
        )

    pub open_done : with_connections d (set d.connections n opened) ≡ (open_of d).device
    open_done = sym (ap (λ (o : Opened). o.device) done)

    pub told_number : Some n ≡ (open_of d).answer
    told_number = sym (ap (λ (o : Opened). o.answer) done)

-- ---- sweeping
pub swept_all : (d : Device) (ss : List Subscription) (hs : List ℕ) → ss ≡ map (swept_of d.connections) d.subscriptions → hs ≡ map (swept_holder d.connections) d.holders → with_holders (with_subscriptions d ss) hs ≡ sweep_of d
unfolding sweep_of
swept_all d ss hs p q = rw (p, q)

-- ---- a tick
pub tick_ready : (d : Device) (step : ℕ) → device_obeys d ≡ true → step < 2147483648 → (all connection_obeys d.connections ≡ true) × (step < 2147483648)
tick_ready d step h b = ((obeys_are d h).connections, b)

module _ (d : Device) (reading s : ℕ) (e : s ≡ step_of reading d.reading) where
  back : 2147483648 ≤ s → tick_of d reading ≡ record { device = d; answer = None }
  unfolding tick_step
  back h = rw (← e, le-leb _ _ h)

  passed : s < 2147483648 → tick_of d reading ≡ record { device = sweep_of (advanced d reading (map (connection_ticked s) d.connections)); answer = Some (mask (closes_at s) d.connections) }
  unfolding tick_step
  passed h = rw (← e, lt-leb _ _ h)

  pub tick_back : 2147483648 ≤ s → d ≡ (tick_of d reading).device
  tick_back h = sym (ap (λ (t : Ticked). t.device) (back h))

  pub back_told : 2147483648 ≤ s → None ≡ (tick_of d reading).answer
  back_told h = sym (ap (λ (t : Ticked). t.answer) (back h))

  pub tick_done : (cs : List Connection) (r : Device) → s < 2147483648 → cs ≡ map (connection_ticked s) d.connections → r ≡ sweep_of (advanced d reading cs) → r ≡ (tick_of d reading).device
  tick_done cs r h ec er = er ∙ rw ec (sym (ap (λ (t : Ticked). t.device) (passed h)))

  pub done_told : (m : ℕ) → s < 2147483648 → m ≡ mask (closes_at s) d.connections → Some m ≡ (tick_of d reading).answer
  done_told m h em = rw em (sym (ap (λ (t : Ticked). t.answer) (passed h)))

-- a tick that goes back hands back the device as it was
pub back_same : (d : Device) (reading : ℕ) (k : Ticked) → k ≡ tick_of d reading → k.answer ≡ None → k.device ≡ d
unfolding tick_step
back_same d reading k q a =
    ap (λ (t : Ticked). t.device) q
    ∙ either P (leb (2 ^ 31) (step_of reading d.reading)) _ _ (λ e. refl) (λ e. absurd (let z : ◌≡◌ {A = ℕ} 0 1 = cc in omega arith))
    (sym (ap (λ (t : Ticked). t.answer) q) ∙ a)
  where
    P : Ticked → Type 0
    P t = t.answer ≡ None → t.device ≡ d

-- Calls in which a connection is silent, and the tick that closes it: for Technician. Assumes nothing.
use Prim.Native.Nat.{ℕ, ◌+◌, ◌*◌, ◌<◌}
use mathlib.Core.Path.{◌≡◌, refl, sym, ap, ◌∙◌}
use mathlib.Core.Bool.{Bool, cond, true, false}
use mathlib.Core.List.{List, [], ◌∷◌, ◌++◌}
use native.Mathlib.Omega.{arith}
use lib.ListN.{get_or}
use borrow.Author.Tests.{eq-eqb}
use Rattle.laws.proofs.Conds.{and_left, and_right}
use Rattle.connection.specs.State.{closed, live_at}
use Rattle.connection.specs.Supervision.{connection_ticked}
use Rattle.connection.specs.declared.Connection.{Connection}
use Rattle.device.specs.declared.Device.{Device}
use Rattle.stream.specs.Calls.{deliver, ask, AllBytes}
use Rattle.endpoint.specs.Calls.{tick_call}
use Rattle.endpoint.specs.declared.Record.{Record}
use Rattle.promise.specs.Rulebook.{opening, closing, ticking, taking, datagram}
use Rattle.promise.specs.Calls.{HostCall, call_of}
use Rattle.promise.specs.Kept.{Kept}
use Rattle.promise.specs.Ticks.{step_at, passes}
use Rattle.promise.proofs.Kept.{calls_keep}
use Rattle.promise.proofs.Ticks.{connection_after}
use Rattle.technician.specs.Silence.{is_silent, step_in, calls_of, all_silent, time_in}
use Rattle.technician.proofs.Untouched.{Same, lock_kept, open_call_lem, close_call_lem, take_call_lem, datagram_call_lem, deliver_call_lem}
use Rattle.technician.proofs.Watched.{Followed, refused_tick, unwatched, leaving}

-- ---- calls one after another
pub calls_on : (r : Record) (area : List ℕ) (cs ds : List HostCall) → calls_of r area (cs ++ ds) ≡ calls_of (calls_of r area cs).0 (calls_of r area cs).1 ds
unfolding calls_of
calls_on r area [] ds = refl
calls_on r area (c ∷ cs) ds = calls_on (call_of r area c).state (call_of r area c).area cs ds

pub time_on : (r : Record) (area : List ℕ) (cs ds : List HostCall) → time_in r area (cs ++ ds) ≡ time_in r area cs + time_in (calls_of r area cs).0 (calls_of r area cs).1 ds
unfolding calls_of time_in
time_on r area [] ds = omega arith
time_on r area (c ∷ cs) ds =
    let h = time_on (call_of r area c).state (call_of r area c).area cs ds in
    let x = step_in r area c in
    let y = time_in (call_of r area c).state (call_of r area c).area cs in
    let z = time_in (calls_of r area (c ∷ cs)).0 (calls_of r area (c ∷ cs)).1 ds in
    let e : x + (y + z) ≡ x + y + z = omega arith in
    ap (λ (q : ℕ). x + q) h ∙ e

pub calls_kept : (r : Record) (area : List ℕ) (cs : List HostCall) → AllBytes cs → Kept r area → Kept (calls_of r area cs).0 (calls_of r area cs).1
unfolding calls_of AllBytes
calls_kept r area [] b k = k
calls_kept r area (c ∷ cs) b k = calls_kept (call_of r area c).state (call_of r area c).area cs b.1 (calls_keep.calling r area c b.0 k)

-- ---- a connection with a heartbeat

-- connection n of e is followed with silence s, and has its locks of d
pub record Stands (n H s : ℕ) (d e : Device) : Type 0 where
  pub followed : Followed e n H s
  pub locks : (at : ℕ) → get_or d.holders at 0 ≡ n + 1 → get_or e.holders at 0 ≡ n + 1

same_stands : (n H s : ℕ) (d e : Device) → Followed d n H s → Same n d e → Stands n H (s + 0) d e
unfolding live_at
same_stands n H s d e w a =
    let z : s + 0 ≡ s = omega arith in
    record {
      followed = record { eight = a.long ∙ w.eight; live = a.live ∙ w.live; above = w.above; beat = a.beat ∙ w.beat; silent = a.silence ∙ w.silent ∙ sym z };
      locks = a.locks;
    }

tick_stands : (r : Record) (area : List ℕ) (x n H s : ℕ) (b : Bool) → passes r area x ≡ b → Followed r.device n H s → s + cond b (step_at r x) 0 < 3 * H
    → Stands n H (s + cond b (step_at r x) 0) r.device (tick_call r area x).state.device
tick_stands r area x n H s true p w l =
    let v = leaving r area x p n H s w l in
    record { followed = v.watched; locks = λ at h. lock_kept n at r.device (tick_call r area x).state.device v.stays h }
tick_stands r area x n H s false p w l =
    let z : s + 0 ≡ s = omega arith in
    rw (refused_tick r area x p) (record { followed = rw z w; locks = λ at h. h })

one : (r : Record) (area : List ℕ) (c : HostCall) (n H s : ℕ) → is_silent n r area c ≡ true → Followed r.device n H s → s + step_in r area c < 3 * H
    → Stands n H (s + step_in r area c) r.device (call_of r area c).state.device
unfolding call_of is_silent step_in
one r area (deliver k piece out) n H s a w l = same_stands n H s r.device _ w (deliver_call_lem r area k piece out n a w.live)
one r area (ask opening) n H s a w l = same_stands n H s r.device _ w (open_call_lem r n w.live)
one r area (ask (closing k)) n H s a w l = same_stands n H s r.device _ w (close_call_lem r area k n a w.live)
one r area (ask (ticking x)) n H s a w l = tick_stands r area x n H s (passes r area x) refl w l
one r area (ask (taking out)) n H s a w l = same_stands n H s r.device _ w (take_call_lem r out n)
one r area (ask (datagram g)) n H s a w l = same_stands n H s r.device _ w (datagram_call_lem r area g n a)

pub many : (r : Record) (area : List ℕ) (calls : List HostCall) (n H s : ℕ) → all_silent n r area calls ≡ true → Followed r.device n H s → s + time_in r area calls < 3 * H
    → Stands n H (s + time_in r area calls) r.device (calls_of r area calls).0.device
unfolding calls_of all_silent time_in
many r area [] n H s a w l = let e : s + 0 ≡ s = omega arith in record { followed = rw e w; locks = λ at h. h }
many r area (c ∷ rest) n H s a w l =
    let r' = (call_of r area c).state in
    let t = time_in r' (call_of r area c).area rest in
    let v = one r area c n H s (and_left (is_silent n r area c) _ a) w (omega arith) in
    let e : s + step_in r area c + t ≡ s + (step_in r area c + t) = omega arith in
    let m = many r' (call_of r area c).area rest n H (s + step_in r area c) (and_right (is_silent n r area c) _ a) v.followed (omega arith) in
    record { followed = rw e at m.followed; locks = λ at h. m.locks at (v.locks at h) }

-- ---- a connection without one

-- connection n of e is open without a heartbeat, and has its locks of d
pub record Idles (n : ℕ) (d e : Device) : Type 0 where
  pub live : live_at e.connections n ≡ true
  pub beat : (get_or e.connections n closed).beat ≡ 0
  pub locks : (at : ℕ) → get_or d.holders at 0 ≡ n + 1 → get_or e.holders at 0 ≡ n + 1

idle_ticked : (step : ℕ) (c : Connection) → c.beat ≡ 0 → connection_ticked step c ≡ c
unfolding connection_ticked
idle_ticked step c z = rw (eq-eqb c.beat 0 z)

module _ (n : ℕ) where
  same_idles : (d e : Device) → live_at d.connections n ≡ true → (get_or d.connections n closed).beat ≡ 0 → Same n d e → Idles n d e
  unfolding live_at
  same_idles d e l b a = record { live = a.live ∙ l; beat = a.beat ∙ b; locks = a.locks }

  tick_idles : (r : Record) (area : List ℕ) (x : ℕ) (t : Bool) → passes r area x ≡ t → live_at r.device.connections n ≡ true → (get_or r.device.connections n closed).beat ≡ 0
      → Idles n r.device (tick_call r area x).state.device
  tick_idles r area x true p l b =
      let s = unwatched r area x p n l b in
      let c = get_or r.device.connections n closed in
      record {
        live = s.live;
        beat = ap (λ (y : Connection). y.beat) (connection_after r area x p n ∙ idle_ticked (step_at r x) c b) ∙ b;
        locks = λ at h. lock_kept n at r.device (tick_call r area x).state.device s h;
      }
  tick_idles r area x false p l b = rw (refused_tick r area x p) (record { live = l; beat = b; locks = λ at h. h })

  idle_one : (r : Record) (area : List ℕ) (c : HostCall) → is_silent n r area c ≡ true → live_at r.device.connections n ≡ true → (get_or r.device.connections n closed).beat ≡ 0
      → Idles n r.device (call_of r area c).state.device
  unfolding call_of is_silent
  idle_one r area (deliver k piece out) a l b = same_idles r.device _ l b (deliver_call_lem r area k piece out n a l)
  idle_one r area (ask opening) a l b = same_idles r.device _ l b (open_call_lem r n l)
  idle_one r area (ask (closing k)) a l b = same_idles r.device _ l b (close_call_lem r area k n a l)
  idle_one r area (ask (ticking x)) a l b = tick_idles r area x (passes r area x) refl l b
  idle_one r area (ask (taking out)) a l b = same_idles r.device _ l b (take_call_lem r out n)
  idle_one r area (ask (datagram g)) a l b = same_idles r.device _ l b (datagram_call_lem r area g n a)

  pub idle_many : (r : Record) (area : List ℕ) (calls : List HostCall) → all_silent n r area calls ≡ true → live_at r.device.connections n ≡ true
      → (get_or r.device.connections n closed).beat ≡ 0 → Idles n r.device (calls_of r area calls).0.device
  unfolding calls_of all_silent
  idle_many r area [] a l b = record { live = l; beat = b; locks = λ at h. h }
  idle_many r area (c ∷ rest) a l b =
      let v = idle_one r area c (and_left (is_silent n r area c) _ a) l b in
      let m = idle_many (call_of r area c).state (call_of r area c).area rest (and_right (is_silent n r area c) _ a) v.live v.beat in
      record { live = m.live; beat = m.beat; locks = λ at h. m.locks at (v.locks at h) }

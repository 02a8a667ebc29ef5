-- A tick that is not refused, and whom it closes: for Closure and Heartbeats, and for the technician. Assumes nothing.
use Rattle.std.specs.Prelude.{Some}
use Prim.Native.Nat.{ℕ, zero, suc, ◌^◌, ◌<◌}
use mathlib.Core.Path.{◌≡◌, refl, ap}
use mathlib.Core.Bool.{Bool, true, false}
use mathlib.Core.List.{List, [], ◌∷◌}
use native.Mathlib.Omega.{arith}
use native.Mathlib.Nat.{not-suc-le-zero, le_of_suc-le-suc}
use lib.Dec.{leb}
use lib.ListN.{length, get_or, length-map, get_or-map}
use borrow.Author.Tests.{eq-eqb}
use Rattle.laws.specs.Lists.{mask}
use Rattle.area.specs.Area.{area_sound, held_kept}
use Rattle.connection.specs.State.{closed}
use Rattle.connection.specs.Supervision.{closes_at, connection_ticked}
use Rattle.connection.specs.declared.Connection.{Connection}
use Rattle.device.specs.State.{sweep_of, lives_in}
use Rattle.device.specs.Obeys.{device_obeys}
use Rattle.device.specs.Time.{tick_step, tick_of}
use Rattle.device.specs.Closure.{Passing}
use Rattle.stream.specs.Calls.{asked}
use Rattle.endpoint.specs.State.{record_obeys}
use Rattle.endpoint.specs.Outcome.{Outcome}
use Rattle.endpoint.specs.Calls.{ticked_by, tick_call}
use Rattle.endpoint.specs.declared.Record.{Record}
use Rattle.endpoint.proofs.States.{device_obeys_lem}
use Rattle.promise.specs.Rulebook as rules
use Rattle.promise.specs.Rulebook.{ticking, rule}
use Rattle.promise.specs.Ticks.{step_at, passes}

-- ---- a tick that is not refused

-- whom it closes
abbrev pub mask_at : Record → ℕ → ℕ
mask_at r reading = mask (closes_at (step_at r reading)) r.device.connections

-- what it gives
pub record Ticks (r : Record) (area : List ℕ) (reading : ℕ) : Type 0 where
  pub obeys : device_obeys r.device ≡ true
  pub timely : Passing r.device reading
  pub given : tick_call r area reading ≡ ticked_by (Some (mask_at r reading)) r (tick_of r.device reading) area

pub passed : (r : Record) (area : List ℕ) (reading : ℕ) → passes r area reading ≡ true → Ticks r area reading
unfolding passes tick_call tick_step ticked_by
passed r area reading p =
    go (record_obeys r) refl (area_sound r.held area) refl (leb (2 ^ 31) (step_at r reading)) refl
  where
    no : false ≡ true → Ticks r area reading
    no e = absurd (let z : ◌≡◌ {A = ℕ} 0 1 = cc in omega arith)

    go : (o : Bool) → record_obeys r ≡ o → (a : Bool) → area_sound r.held area ≡ a → (b : Bool) → leb (2 ^ 31) (step_at r reading) ≡ b → Ticks r area reading
    go false o a s b e = no (rw o at p)
    go true o false s b e = no (rw (o, s) at p)
    go true o true s true e = no (rw (o, s, e) at p)
    go true o true s false e = record { obeys = device_obeys_lem r o; timely = e; given = rw (o, s, e) }

-- a connection that is not open has no byte
pub held_none : (lives : List Bool) (held : List ℕ) (n : ℕ) → n < length lives → get_or lives n false ≡ false → get_or (held_kept lives held) n 0 ≡ 0
unfolding held_kept
held_none [] held n h e = absurd (not-suc-le-zero h)
held_none (b ∷ lives) [] n h e = refl
held_none (b ∷ lives) (k ∷ held) zero h e = rw e
held_none (b ∷ lives) (k ∷ held) (suc n) h e = held_none lives held n (le_of_suc-le-suc h) e

-- connection n after a tick
pub ticked_at : (r : Record) (reading n : ℕ) → Passing r.device reading
    → get_or (tick_of r.device reading).device.connections n closed ≡ connection_ticked (step_at r reading) (get_or r.device.connections n closed)
unfolding tick_step sweep_of connection_ticked
ticked_at r reading n t = rw t (get_or-map (connection_ticked (step_at r reading)) r.device.connections n closed)

-- no step closes a connection without a heartbeat
pub never_idle : (step : ℕ) (c : Connection) → c.beat ≡ 0 → closes_at step c ≡ false
unfolding closes_at
never_idle step c z = rw (eq-eqb c.beat 0 z)

module _ (r : Record) (area : List ℕ) (reading : ℕ) (p : passes r area reading ≡ true) where
  t : Ticks r area reading
  t = passed r area reading p

  pub after : (tick_call r area reading).state.device ≡ (tick_of r.device reading).device
  unfolding ticked_by
  after = ap (λ (o : Outcome). o.state.device) t.given

  pub counts : (tick_call r area reading).state.held ≡ held_kept (lives_in (tick_of r.device reading).device) r.held
  unfolding ticked_by
  counts = ap (λ (o : Outcome). o.state.held) t.given

  pub answer : (tick_call r area reading).answer ≡ 0 ∷ mask_at r reading ∷ []
  unfolding ticked_by
  answer = ap (λ (o : Outcome). o.answer) t.given

  -- connection n after it; there are as many entries as before
  pub connection_after : (n : ℕ) → get_or (tick_call r area reading).state.device.connections n closed ≡ connection_ticked (step_at r reading) (get_or r.device.connections n closed)
  connection_after n = rw after (ticked_at r reading n t.timely)

  pub entries_after : length (tick_call r area reading).state.device.subscriptions ≡ length r.device.subscriptions
  unfolding tick_step sweep_of
  entries_after = rw (after, t.timely) (length-map r.device.subscriptions _)

  pub told : (tick_of r.device reading).answer ≡ Some (mask_at r reading)
  unfolding tick_step
  told = rw t.timely

  pub moved : (tick_call r area reading).state.device.reading ≡ reading
  unfolding tick_step sweep_of
  moved = rw (after, t.timely)

  pub ruled : rule r.device (asked (ticking reading)) ≡ ((tick_of r.device reading).device, rules.given (0 ∷ mask_at r reading ∷ []) [])
  unfolding rule rules.tick_by
  ruled = rw told

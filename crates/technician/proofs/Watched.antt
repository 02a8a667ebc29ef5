-- A tick and a connection that is watched, or that set no heartbeat: for Technician. Assumes nothing.
use Rattle.std.specs.Prelude.{Option, Some, None}
use Prim.Native.Nat.{◌-◌, ℕ, ◌+◌, ◌*◌, ◌<◌, ◌≤◌}
use mathlib.Core.Path.{◌≡◌, refl, sym, ap, ◌∙◌}
use mathlib.Core.Bool.{Bool, true≢false, true, false, not}
use mathlib.Core.List.{List, map}
use native.Mathlib.Omega.{arith}
use lib.Dec.{eqb, leb}
use lib.ListN.{length, get_or, get_or-map}
use borrow.Author.Tests.{ne_eqb, le-leb, lt-leb, not-false}
use Rattle.connection.specs.State.{closed, live_at}
use Rattle.connection.specs.Supervision.{closes_at, connection_ticked}
use Rattle.connection.specs.declared.Connection.{Connection}
use Rattle.connection.proofs.Keeps.{supervision_kept}
use Rattle.area.specs.Area.{area_sound}
use Rattle.holders.specs.Holders.{holder_obeys, swept_holder}
use Rattle.device.specs.State.{sweep_of, lives_in}
use Rattle.device.specs.Time.{tick_step, tick_of}
use Rattle.device.specs.declared.Device.{Device}
use Rattle.device.specs.Closure.{Stays, Passing}
use Rattle.device.proofs.Closures.{closure_frees}
use Rattle.stream.specs.Calls.{asked}
use Rattle.endpoint.specs.State.{record_obeys}
use Rattle.endpoint.specs.Calls.{ticked_by, tick_call}
use Rattle.endpoint.specs.declared.Record.{Record}
use Rattle.endpoint.proofs.States.{live_low}
use Rattle.promise.specs.Rulebook.{ticking, bit_of, shut, Fine}
use Rattle.promise.specs.Ticks.{step_at, passes}
use Rattle.promise.proofs.OpenConnections.{lives_get, length_lives}
use Rattle.promise.proofs.Channels.{swept_none}
use Rattle.promise.proofs.DeviceLaws.{device_laws}
use Rattle.promise.proofs.Ticks as ticked
use Rattle.promise.proofs.Ticks.{mask_at, Ticks, passed, held_none, ticked_at, never_idle}
use Rattle.technician.specs.Technician.{Closes}

-- connection n of a device of eight is open, with heartbeat H above zero and that silence
pub record Followed (d : Device) (n H silence : ℕ) : Type 0 where
  pub eight : length d.connections ≡ 8
  pub live : live_at d.connections n ≡ true
  pub above : 0 < H
  pub beat : (get_or d.connections n closed).beat ≡ H
  pub silent : (get_or d.connections n closed).silence ≡ silence

-- the tick leaves connection n open, with that silence, the same H, and its locks and entries
pub record Leaves (r : Record) (area : List ℕ) (reading n H silence : ℕ) : Type 0 where
  pub watched : Followed (tick_call r area reading).state.device n H silence
  pub stays : Stays n r.device (tick_call r area reading).state.device

-- a tick that is refused changes nothing of the device
module _ (r : Record) (area : List ℕ) (reading : ℕ) where
  pub refused_tick : passes r area reading ≡ false → (tick_call r area reading).state.device ≡ r.device
  unfolding passes tick_call ticked_by
  refused_tick p = go (record_obeys r) refl (area_sound r.held area) refl (tick_of r.device reading).answer refl
    where
      go : (o : Bool) → record_obeys r ≡ o → (a : Bool) → area_sound r.held area ≡ a → (x : Option ℕ) → (tick_of r.device reading).answer ≡ x
          → (tick_call r area reading).state.device ≡ r.device
      go false o a s x e = rw o
      go true o false s x e = rw (o, s)
      go true o true s (Some m) e = let z : true ≡ false = rw (o, s, e) at p in absurd (true≢false z)
      go true o true s None e = rw (o, s, e)

-- the holder at a place once swept
swept_at : (cs : List Connection) (hs : List ℕ) (at : ℕ) → get_or (map (swept_holder cs) hs) at 0 ≡ swept_holder cs (get_or hs at 0)
unfolding swept_holder
swept_at cs hs at =
    ap (λ (z : ℕ). get_or (map (swept_holder cs) hs) at z) (sym (swept_none cs)) ∙ get_or-map (swept_holder cs) hs at 0

-- the lock of a connection that a tick closes
swept_gone : (r : Record) (reading n at : ℕ) → Passing r.device reading → live_at (tick_of r.device reading).device.connections n ≡ false
    → get_or r.device.holders at 0 ≡ n + 1 → get_or (tick_of r.device reading).device.holders at 0 ≡ 0
unfolding tick_step sweep_of swept_holder holder_obeys
swept_gone r reading n at t s e =
    let cs = map (connection_ticked (step_at r reading)) r.device.connections in
    let z : live_at cs n ≡ false = rw t at s in
    let b : n + 1 - 1 ≡ n = omega arith in
    rw t
    (swept_at cs r.device.holders at ∙ rw (e, b, z, ne_eqb (n + 1) 0 (λ q. omega arith)))

module _ (r : Record) (area : List ℕ) (reading : ℕ) (p : passes r area reading ≡ true) where
  t : Ticks r area reading
  t = passed r area reading p

  after : (tick_call r area reading).state.device ≡ (tick_of r.device reading).device
  after = ticked.after r area reading p

  -- a connection that set no heartbeat
  pub unwatched : (n : ℕ) → live_at r.device.connections n ≡ true → (get_or r.device.connections n closed).beat ≡ 0 → Stays n r.device (tick_call r area reading).state.device
  unwatched n l z = rw after (closure_frees.staying r.device reading n t.timely l idle)
    where
      idle : closes_at (step_at r reading) (get_or r.device.connections n closed) ≡ false
      idle = never_idle (step_at r reading) (get_or r.device.connections n closed) z

  module _ (n H s : ℕ) (w : Followed r.device n H s) where
    fine : Fine r.device
    fine = record { obeys = t.obeys; eight = w.eight }

    fine_after : Fine (tick_of r.device reading).device
    fine_after = rw (ticked.ruled r area reading p) at (device_laws.keeps r.device (asked (ticking reading)) fine tt)

    bit_is : live_at (tick_of r.device reading).device.connections n ≡ not (bit_of (mask_at r reading) n)
    unfolding shut
    bit_is = rw (ticked.ruled r area reading p) at (device_laws.tells r.device (asked (ticking reading)) n fine tt w.live)

    beats : eqb (get_or r.device.connections n closed).beat 0 ≡ false
    beats = rw w.beat (ne_eqb H 0 (λ z. omega (arith, w.above)))

    test : closes_at (step_at r reading) (get_or r.device.connections n closed) ≡ leb (3 * H) (s + step_at r reading)
    unfolding closes_at
    test = rw (beats, w.beat, w.silent)

    late : 3 * H ≤ s + step_at r reading → closes_at (step_at r reading) (get_or r.device.connections n closed) ≡ true
    late l = test ∙ le-leb (3 * H) (s + step_at r reading) l

    pub shutting : 3 * H ≤ s + step_at r reading → Closes r area reading n
    shutting l =
        let g = closure_frees.ticking r.device reading n t.timely (late l) in
        let e = (tick_of r.device reading).device in
        let low : n < length (lives_in e) = omega (arith, live_low r.device.connections n 8 w.live w.eight, length_lives e, fine_after.eight) in
        record {
          mask = mask_at r reading;
          answer = ticked.answer r area reading p;
          bit = not-false (bit_of (mask_at r reading) n) (sym bit_is ∙ g.shut);
          gone = rw after g;
          bytes = rw (ticked.counts r area reading p) (held_none (lives_in e) r.held n low (lives_get e n ∙ g.shut));
        }

    -- what it held is free
    pub freeing : 3 * H ≤ s + step_at r reading → (at : ℕ) → get_or r.device.holders at 0 ≡ n + 1 → get_or (tick_call r area reading).state.device.holders at 0 ≡ 0
    freeing l at e =
        let g = closure_frees.ticking r.device reading n t.timely (late l) in
        rw after (swept_gone r reading n at t.timely g.shut e)

    pub leaving : s + step_at r reading < 3 * H → Leaves r area reading n H (s + step_at r reading)
    leaving l =
        let k = test ∙ lt-leb (3 * H) (s + step_at r reading) l in
        let c = get_or r.device.connections n closed in
        let g = closure_frees.staying r.device reading n t.timely w.live k in
        let q = ticked_at r reading n t.timely in
        let m = supervision_kept.counting (step_at r reading) c beats k in
        let v : Followed (tick_of r.device reading).device n H (s + step_at r reading) =
        record {
          eight = fine_after.eight;
          live = g.live;
          above = w.above;
          beat = ap (λ (x : Connection). x.beat) q ∙ m.1 ∙ w.beat;
          silent = ap (λ (x : Connection). x.silence) q ∙ m.0 ∙ ap (λ (x : ℕ). x + step_at r reading) w.silent;
        } in
        record { watched = rw after v; stays = rw after g }

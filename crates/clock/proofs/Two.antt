-- Two ticks of the call come to one, and a tick with a step of 0 to nothing. Assumes nothing.
use Prim.Native.Nat.{ℕ, ◌+◌, ◌^◌, ◌<◌}
use mathlib.Core.Path.{◌≡◌, sym, ap, ◌∙◌}
use mathlib.Core.Bool.{true}
use mathlib.Core.List.{List, [], ◌∷◌}
use borrow.Author.Tests.{lt-leb}
use lib.Bits.{bit_or}
use lib.ListN.{length, length-map}
use Rattle.laws.specs.Lists.{mask}
use Rattle.laws.proofs.Conds.{and_right}
use Rattle.numbers.specs.Refusal.{not_refused}
use Rattle.area.specs.Area.{area_sound, closed_cleared, held_kept, held_obeys}
use Rattle.area.proofs.Again.{held_again, cleared_again, held_same, cleared_same}
use Rattle.connection.specs.State.{is_live}
use Rattle.connection.specs.Obeys.{connection_obeys}
use Rattle.connection.specs.Supervision.{closes_at, connection_ticked}
use Rattle.connection.specs.declared.Connection.{Connection}
use Rattle.connection.proofs.Keeps.{steps_add}
use Rattle.device.specs.State.{lives_in, sweep_of}
use Rattle.device.specs.Obeys.{device_obeys}
use Rattle.device.specs.Time.{tick_step}
use Rattle.device.specs.declared.Device.{Device}
use Rattle.device.proofs.Keeps.{obeys_are}
use Rattle.device.proofs.Steps as steps
use Rattle.endpoint.specs.State.{state_of, record_obeys}
use Rattle.endpoint.specs.Outcome.{Outcome, outcome}
use Rattle.endpoint.specs.Calls.{ticked_by, tick_call}
use Rattle.endpoint.specs.declared.Record.{Record}
use Rattle.endpoint.proofs.States.{device_obeys_lem}
use Rattle.promise.specs.Kept.{Kept}
use Rattle.promise.specs.Ticks.{step_at}
use Rattle.promise.proofs.Masks.{mask_join, mask_same, mask_nobody}

-- a tick with that step that is not refused: the device, whom it closes, and all that it gives
abbrev stepped : Record → ℕ → ℕ → Device
stepped r x a = steps.passed r.device x a

abbrev pub closing : Record → ℕ → ℕ
closing r a = mask (closes_at a) r.device.connections

abbrev pub given : Record → List ℕ → ℕ → ℕ → Outcome
given r area x a =
    let d = stepped r x a in
    outcome (not_refused ∷ closing r a ∷ []) (state_of d (held_kept (lives_in d) r.held)) (closed_cleared (lives_in d) area) []

pub tick_is : (r : Record) (area : List ℕ) (x a : ℕ) → record_obeys r ≡ true → area_sound r.held area ≡ true → step_at r x ≡ a → a < 2 ^ 31
    → tick_call r area x ≡ given r area x a
unfolding tick_call tick_step ticked_by
tick_is r area x a o s e h = rw (o, s, e, lt-leb (2 ^ 31) a h)

-- ---- two steps
module _ (r : Record) (area : List ℕ) (x y a b : ℕ) where
  -- who is open behind both is open behind the first
  fewer : (c : Connection) → is_live (connection_ticked (a + b) c) ≡ true → is_live (connection_ticked a c) ≡ true
  fewer c l = steps.live_before b (connection_ticked a c) (ap is_live (steps_add.both a b c) ∙ l)

  pub both_state : (given (given r area x a).state (given r area x a).area y b).state ≡ (given r area y (a + b)).state
  both_state =
      rw (steps.passed_both r.device x y a b)
      (ap (state_of (stepped r y (a + b)))
      (rw (steps.lives_passed r.device y (a + b), steps.lives_passed r.device x a)
      (held_again (λ (c : Connection). is_live (connection_ticked a c)) (λ (c : Connection). is_live (connection_ticked (a + b) c)) fewer r.device.connections r.held)))

  pub both_area : (given (given r area x a).state (given r area x a).area y b).area ≡ (given r area y (a + b)).area
  both_area =
      rw (steps.passed_both r.device x y a b, steps.lives_passed r.device y (a + b), steps.lives_passed r.device x a)
      (cleared_again (λ (c : Connection). is_live (connection_ticked a c)) (λ (c : Connection). is_live (connection_ticked (a + b) c)) fewer r.device.connections area)

  pub both_closing : bit_or (closing r a) (closing (given r area x a).state b) ≡ closing r (a + b)
  unfolding sweep_of
  both_closing =
      mask_join (closes_at a) (closes_at b) (connection_ticked a) r.device.connections
      ∙ mask_same _ _ (λ (c : Connection). sym (steps_add.either a b c)) r.device.connections

-- ---- a step of 0
lives_eight : (d : Device) → length d.connections ≡ 8 → length (lives_in d) ≡ 8
unfolding lives_in
lives_eight d e = length-map d.connections is_live ∙ e

pub none_given : (r : Record) (area : List ℕ) → Kept r area → given r area r.device.reading 0 ≡ outcome (not_refused ∷ 0 ∷ []) r area []
unfolding record_obeys
none_given r area k =
    let d = r.device in
    let o = device_obeys_lem r k.obeys in
    let h : held_obeys (lives_in d) r.held ≡ true = and_right (device_obeys d) (held_obeys (lives_in d) r.held) k.obeys in
    rw (
      steps.passed_none d o,
      held_same (lives_in d) r.held h,
      cleared_same (lives_in d) r.held area h k.sound (lives_eight d k.eight) k.counts,
      mask_nobody (closes_at 0) connection_obeys steps_add.nobody d.connections (obeys_are d o).connections,
    )

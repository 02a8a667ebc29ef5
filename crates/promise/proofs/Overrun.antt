-- No count runs over, and no tick is refused by 7. Assumes nothing.
use Prim.Native.Nat.{ℕ, ◌+◌, ◌^◌, ◌<◌, ◌≤◌}
use mathlib.Core.Path.{◌≡◌, refl}
use mathlib.Core.Bool.{Bool, true, false}
use mathlib.Core.List.{List, []}
use native.Mathlib.Omega.{arith}
use lib.Dec.{leb}
use lib.ListN.{get_or}
use Rattle.numbers.specs.Refusal.{not_refused, bad_record}
use Rattle.octets.specs.Zeros.{zeros, all_zero}
use Rattle.heartbeat.specs.Beat.{form_of, beat_of}
use Rattle.area.specs.Area.{area_sound, count_obeys, held_obeys}
use Rattle.connection.specs.State.{closed, live_at, is_not_open}
use Rattle.connection.specs.Obeys.{is_closed, is_idle, form_obeys, is_timed, connection_obeys}
use Rattle.connection.specs.Supervision.{greatest_silence, greatest_quiet, closes_at, quiet_after, connection_ticked, heard_of, sent_of, set_beat, beating_of}
use Rattle.connection.proofs.Keeps.{supervision_kept}
use Rattle.subscription.specs.State.{is_twin, swept_of}
use Rattle.subscription.specs.Obeys.{is_free, is_sound, entry_obeys, apart}
use Rattle.objects.specs.Tests.{is_mute_value}
use Rattle.holders.specs.Holders.{holder_obeys, swept_holder}
use Rattle.mechanism.specs.Obeys.{is_address_taken, mechanism_obeys}
use Rattle.device.specs.State.{fresh_of, lives_in, open_of, sweep_of, beating_at}
use Rattle.device.specs.Obeys.{device_obeys}
use Rattle.device.specs.Time.{tick_step}
use Rattle.endpoint.specs.State.{record_obeys}
use Rattle.endpoint.specs.Outcome.{refused}
use Rattle.endpoint.specs.Calls.{ticked_by, tick_call}
use Rattle.endpoint.specs.declared.Record.{Record}
use Rattle.endpoint.proofs.States.{connection_obeys_lem}
use Rattle.promise.specs.Ticks.{step_at}
use Rattle.promise.specs.Overrun.{silence_with, quiet_with, ticks_by, silent_for, NoOverrun}

-- ---- the counts of a record that obeys
bounds : (r : Record) (n step : ℕ) → record_obeys r ≡ true → step < 2 ^ 31
    → ((get_or r.device.connections n closed).silence + step ≤ greatest_silence) × ((get_or r.device.connections n closed).quiet + step ≤ greatest_quiet)
bounds r n step o b = supervision_kept.fitting step (get_or r.device.connections n closed) b (connection_obeys_lem r n o)

-- ---- a tick
module _ (r : Record) (area : List ℕ) (reading : ℕ) where
  over : (record_obeys r ≡ true → ⊥) → tick_call r area reading ≡ refused bad_record r area []
  unfolding tick_call
  over broken = go (record_obeys r) refl
    where
      go : (o : Bool) → record_obeys r ≡ o → tick_call r area reading ≡ refused bad_record r area []
      go false o = rw o
      go true o = absurd (broken o)

  silence_over_lem : (n : ℕ) → 2 ^ 64 ≤ silence_with r reading n → tick_call r area reading ≡ refused bad_record r area []
  silence_over_lem n h = over (λ o. omega (arith, bounds r n 0 o (omega arith)))

  quiet_over_lem : (n : ℕ) → 2 ^ 64 ≤ quiet_with r reading n → tick_call r area reading ≡ refused bad_record r area []
  quiet_over_lem n h = over (λ o. omega (arith, bounds r n 0 o (omega arith)))

  never : get_or (tick_call r area reading).answer 0 not_refused ≡ 7 → ⊥
  unfolding tick_call tick_step ticked_by
  never e = go (record_obeys r) refl (area_sound r.held area) refl (leb (2 ^ 31) (step_at r reading)) refl
    where
      go : (o : Bool) → record_obeys r ≡ o → (a : Bool) → area_sound r.held area ≡ a → (b : Bool) → leb (2 ^ 31) (step_at r reading) ≡ b → ⊥
      go false o a s b k = let z : ◌≡◌ {A = ℕ} 1 7 = rw o at e in omega arith
      go true o false s b k = let z : ◌≡◌ {A = ℕ} 2 7 = rw (o, s) at e in omega arith
      go true o true s true k = let z : ◌≡◌ {A = ℕ} 6 7 = rw (o, s, k) at e in omega arith
      go true o true s false k = let z : ◌≡◌ {A = ℕ} 0 7 = rw (o, s, k) at e in omega arith

-- what is unfolded is for silence_comes and quiet_comes, which are computed
pub no_overrun : NoOverrun
unfolding silent_for ticks_by fresh_of open_of is_not_open beating_at live_at beating_of sent_of heard_of set_beat form_of beat_of tick_step sweep_of swept_of swept_holder connection_ticked closes_at quiet_after lives_in record_obeys device_obeys held_obeys count_obeys connection_obeys is_closed is_idle is_timed form_obeys entry_obeys is_free is_sound is_twin apart is_mute_value holder_obeys mechanism_obeys is_address_taken zeros all_zero
no_overrun =
    record {
      silence = λ r reading n o b. (bounds r n (step_at r reading) o b).0;
      quiet = λ r reading n o b. (bounds r n (step_at r reading) o b).1;
      fit = (omega arith, omega arith);
      silence_comes = record { obeys = refl; timely = omega arith; sum = refl };
      quiet_comes = record { obeys = refl; timely = omega arith; sum = refl };
      silence_over = silence_over_lem;
      quiet_over = quiet_over_lem;
      never = never;
    }

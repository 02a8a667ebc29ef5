-- What holds of the device whichever way a delivery, a taking or a command goes: for DeviceLaws, Untouched, Heartbeats, ResetKey and
-- Channels. Assumes nothing.
use Prim.Native.Nat.{ℕ}
use mathlib.Core.Path.{◌≡◌, refl}
use mathlib.Core.Bool.{Bool, cond, true, false}
use mathlib.Core.List.{List}
use borrow.Author.Tests.{eqb-true}
use lib.Dec.{eqb, ltb}
use lib.ListN.{length, get_or, set}
use Rattle.laws.proofs.Conds.{either}
use Rattle.area.specs.Area.{area_sound}
use Rattle.connection.specs.State.{connection_count, live_at, lowest_due}
use Rattle.subscription.specs.State.{entry_count, lowest_waiting}
use Rattle.objects.specs.Methods.{lock_method, unlock_method, set_method, add_method, remove_method, reset_key_method, place_of}
use Rattle.holders.specs.Holders.{owner_of}
use Rattle.device.specs.Setters.{with_holders}
use Rattle.device.specs.State.{sent_at}
use Rattle.device.specs.Run.{mute_at, status_of, muted_of, done_of, ran_by, run_of}
use Rattle.device.specs.Run.{Ran}
use Rattle.device.specs.declared.Device.{Device}
use Rattle.endpoint.specs.State.{record_obeys}
use Rattle.endpoint.specs.Outcome.{Outcome}
use Rattle.replies.specs.Bytes.{least_output}
use Rattle.delivery.specs.Intake.{taken_in}
use Rattle.endpoint.specs.Deliver.{held_at, deliver_call}
use Rattle.taking.specs.Dispatch.{notified_of, notifying, reminding, taken_by, dispatched, Dispatch}
use Rattle.endpoint.specs.Take.{take_call}
use Rattle.endpoint.specs.declared.Record.{Record}
use Rattle.promise.specs.Rulebook.{take_by}

-- what holds of each branch, once the test is known, holds of the test's
by_test : {A : Type 0} (P : A → Type 0) (b : Bool) (x y : A) → (b ≡ true → P x) → (b ≡ false → P y) → P (cond b x y)
by_test P true x y p q = p refl
by_test P false x y p q = q refl

module _ (P : Device → Type 0) where
  -- P of the device that a call leaves
  abbrev Left : Outcome → Type 0
  Left o = P o.state.device

  -- a delivery is refused, or its piece is taken
  pub delivery_ways : (r : Record) (area : List ℕ) (n : ℕ) (piece out : List ℕ) → P r.device
      → P (taken_in r.device area n (held_at r n) piece out).device → P (deliver_call r area n piece out).state.device
  unfolding deliver_call
  delivery_ways r area n piece out p q =
      either Left (record_obeys r) _ _
      (either Left (area_sound r.held area) _ _
      (either Left (live_at r.device.connections n) _ _ (either Left (ltb (length out) least_output) _ _ p q) p)
      p)
      p

  -- a taking that has room sends the lowest waiting entry's notification, a keep-alive to the lowest connection due, or nothing
  taken_ways : (d : Device) (out : List ℕ) → P d → P (notified_of d (lowest_waiting d.subscriptions))
      → P (sent_at d (lowest_due d.connections)) → P (dispatched d out).device
  unfolding taken_by notifying reminding
  taken_ways d out p e k =
      either Sent (ltb (lowest_waiting d.subscriptions) entry_count) _ _ e (either Sent (ltb (lowest_due d.connections) connection_count) _ _ k p)
    where
      Sent : Dispatch → Type 0
      Sent s = P s.device

  pub taking_ways : (r : Record) (out : List ℕ) → P r.device → P (notified_of r.device (lowest_waiting r.device.subscriptions))
      → P (sent_at r.device (lowest_due r.device.connections)) → P (take_call r out).state.device
  unfolding take_call
  taking_ways r out p e k = either Left (record_obeys r) _ _ (either Left (ltb (length out) least_output) _ _ p (taken_ways r.device out p e k)) p

  -- so the rules' taking
  pub take_ways : (d : Device) (out : List ℕ) (b : Bool) → P d → P (notified_of d (lowest_waiting d.subscriptions))
      → P (sent_at d (lowest_due d.connections)) → P (take_by b d out).0
  unfolding take_by
  take_ways d out true p e k = p
  take_ways d out false p e k = taken_ways d out p e k

  -- a command that is carried out sets a holder, or leaves connections, holders and reading as they are
  pub done_ways : (d : Device) (n t m : ℕ) (part : List ℕ)
      → (eqb m lock_method ≡ true → P (with_holders d (set d.holders (place_of t) (owner_of n))))
      → (eqb m unlock_method ≡ true → P (with_holders d (set d.holders (place_of t) 0)))
      → ((x : Device) → x.reading ≡ d.reading → x.connections ≡ d.connections → x.holders ≡ d.holders → P x)
      → P (done_of d n t m part)
  unfolding done_of muted_of
  done_ways d n t m part lock unlock other =
      by_test P (eqb m lock_method) _ _ lock
      (λ a.
      by_test P (eqb m unlock_method) _ _ unlock
      (λ b.
      either P (eqb m set_method) _ _ (either P (eqb (mute_at d t) (get_or part 0 0)) _ _ (other _ refl refl refl) (other _ refl refl refl))
      (either P (eqb m add_method) _ _ (other _ refl refl refl)
      (either P (eqb m remove_method) _ _ (other _ refl refl refl)
      (either P (eqb m reset_key_method) _ _ (other _ refl refl refl) (other _ refl refl refl))))))

  -- a command is carried out with status 0, or changes nothing
  pub run_ways : (d : Device) (n t m count : ℕ) (part : List ℕ) → (status_of d n t m count part ≡ 0 → P (done_of d n t m part)) → P d
      → P (run_of d n t m count part).device
  unfolding run_of ran_by
  run_ways d n t m count part done p =
      by_test (λ (x : Ran). P x.device) (eqb (status_of d n t m count part) 0) _ _ (λ e. done (eqb-true _ 0 e)) (λ e. p)

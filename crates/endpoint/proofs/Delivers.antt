-- What each way of a delivery comes to. Assumes nothing.
use Prim.Native.Nat.{ℕ, ◌≤◌, ◌<◌}
use mathlib.Core.Path.{◌≡◌, ap, ◌∙◌}
use mathlib.Core.Bool.{true, false}
use mathlib.Core.List.{List}
use lib.ListN.{length, set, length-map}
use borrow.Author.Tests.{lt-ltb, le-ltb}
use Rattle.laws.proofs.Conds.{and_right}
use Rattle.numbers.specs.Refusal.{refusal_numbers}
use Rattle.numbers.specs.declared.Refusal.{Refusal}
use Rattle.numbers.specs.declared.Refusal.TheVariants as refusals
use Rattle.area.specs.Area.{area_sound, held_obeys}
use Rattle.area.specs.Scaffold.{Lying}
use Rattle.area.proofs.Lies.{lies}
use Rattle.connection.specs.State.{live_at, is_live}
use Rattle.device.specs.State.{lives_in}
use Rattle.device.specs.Obeys.{device_obeys}
use Rattle.device.specs.declared.Device.{Device}
use Rattle.replies.specs.Bytes.{least_output}
use Rattle.delivery.specs.Intake.{Intake, intake, taken_in}
use Rattle.endpoint.specs.State.{state_of, record_obeys}
use Rattle.endpoint.specs.Outcome.{Outcome, outcome}
use Rattle.endpoint.specs.Deliver.{held_at, with_intake, deliver_call}
use Rattle.endpoint.specs.declared.Record.{Record}
use Rattle.endpoint.proofs.States.{live_low}

-- what the piece came to, put into the record
pub brought_in : (r : Record) (n : ℕ) (x : List ℕ) (d : Device) (k : ℕ) (a o : List ℕ) (i : Intake) → intake x d k a o ≡ i
    → outcome x (state_of d (set r.held n k)) a o ≡ with_intake r n i
brought_in r n x d k a o i e = ap (with_intake r n) e

-- each test is false or true as its check found it
module _ (r : Record) (area : List ℕ) (n : ℕ) (piece out : List ℕ) where
  pub deliver_bad : record_obeys r ≡ false → (e : Refusal) → e ≡ refusals.BadRecord
      → outcome (refusal_numbers e) r area out ≡ deliver_call r area n piece out
  unfolding deliver_call
  deliver_bad t e q = rw (q, t)

  module _ (t : record_obeys r ≡ true) where
    pub deliver_area : area_sound r.held area ≡ false → (e : Refusal) → e ≡ refusals.BadArea
        → outcome (refusal_numbers e) r area out ≡ deliver_call r area n piece out
    unfolding deliver_call
    deliver_area u e q = rw (q, t, u)

    module _ (u : area_sound r.held area ≡ true) where
      pub deliver_none : live_at r.device.connections n ≡ false → (e : Refusal) → e ≡ refusals.NoConnection
          → outcome (refusal_numbers e) r area out ≡ deliver_call r area n piece out
      unfolding deliver_call
      deliver_none v e q = rw (q, t, u, v)

      module _ (v : live_at r.device.connections n ≡ true) where
        pub deliver_room : length out < least_output → (e : Refusal) → e ≡ refusals.NoRoom
            → outcome (refusal_numbers e) r area out ≡ deliver_call r area n piece out
        unfolding deliver_call
        deliver_room h e q = rw (q, t, u, v, lt-ltb (length out) least_output h)

        pub deliver_done : least_output ≤ length out → (o : Outcome)
            → o ≡ with_intake r n (taken_in r.device area n (held_at r n) piece out) → o ≡ deliver_call r area n piece out
        unfolding deliver_call
        deliver_done h o q = q ∙ rw (t, u, v, le-ltb (length out) least_output h)

        -- and the connection's bytes lie as they should
        pub deliver_lies : length r.device.connections ≡ 8 → length r.held ≡ 8 → Lying area n (held_at r n)
        unfolding record_obeys lives_in
        deliver_lies c8 h8 =
            let d = r.device in
            lies (lives_in d) r.held area n (and_right (device_obeys d) (held_obeys (lives_in d) r.held) t) u
            (live_low d.connections n 8 v c8) (length-map d.connections is_live ∙ c8) h8

-- The ways of a take. Assumes nothing.
use Prim.Native.Nat.{ℕ, ◌<◌, ◌≤◌}
use mathlib.Core.Path.{◌≡◌, ap}
use mathlib.Core.Bool.{true, false}
use mathlib.Core.List.{List, []}
use lib.ListN.{length}
use borrow.Author.Tests.{lt-ltb, le-ltb}
use Rattle.numbers.specs.Refusal.{refusal_numbers}
use Rattle.numbers.specs.declared.Refusal.{Refusal}
use Rattle.numbers.specs.declared.Refusal.TheVariants as refusals
use Rattle.device.specs.declared.Device.{Device}
use Rattle.replies.specs.Bytes.{least_output}
use Rattle.taking.specs.Dispatch.{dispatch, dispatched}
use Rattle.endpoint.specs.State.{state_of, record_obeys}
use Rattle.endpoint.specs.Outcome.{outcome}
use Rattle.endpoint.specs.Take.{with_dispatch, take_call}
use Rattle.endpoint.specs.declared.Record.{Record}

-- each test is false or true as its check found it
module _ (r : Record) (out : List ℕ) where
  pub take_broken : record_obeys r ≡ false → (e : Refusal) → e ≡ refusals.BadRecord → outcome (refusal_numbers e) r [] out ≡ take_call r out
  unfolding take_call
  take_broken t e q = rw (q, t)

  module _ (t : record_obeys r ≡ true) where
    pub take_short : length out < least_output → (e : Refusal) → e ≡ refusals.NoRoom → outcome (refusal_numbers e) r [] out ≡ take_call r out
    unfolding take_call
    take_short h e q = rw (q, t, lt-ltb (length out) least_output h)

    pub take_done : least_output ≤ length out → (x : List ℕ) (d : Device) (o : List ℕ) → dispatch x d o ≡ dispatched r.device out
        → outcome x (state_of d r.held) [] o ≡ take_call r out
    unfolding take_call
    take_done h x d o e = rw (t, le-ltb (length out) least_output h) (ap (with_dispatch r) e)

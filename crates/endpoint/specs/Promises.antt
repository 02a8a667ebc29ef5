-- R68. What each call promises of its result and of the bytes it is lent: the contracts, and what one-result theorems speak of.
use Rattle.std.specs.Prelude.{ℕ, ◌≡◌, Bool, List, [], Result}
use Rattle.numbers.specs.declared.Refusal.{Refusal}
use Rattle.answers.specs.Numbers.{answer_numbers, clearing_numbers, opening_numbers, closing_numbers, ticking_numbers}
use Rattle.answers.specs.Numbers.{delivery_numbers, taking_numbers}
use Rattle.answers.specs.declared.Delivery.{Delivery}
use Rattle.answers.specs.declared.Taking.{Taking}
use Rattle.endpoint.specs.State.{fresh_state, record_obeys}
use Rattle.endpoint.specs.Outcome.{outcome}
use Rattle.endpoint.specs.Calls.{clear_answer, cleared_area, open_call, close_call, tick_call}
use Rattle.endpoint.specs.Deliver.{deliver_call}
use Rattle.endpoint.specs.Take.{take_call}
use Rattle.endpoint.specs.declared.Record.{Record}
use Rattle.endpoint.specs.declared.Handed.{Handed}

-- R67, R68. Clear, lent this area, gives r and leaves it so.
abbrev pub ClearGives : List ℕ → Result (Unit {0}) Refusal → List ℕ → Type 0
ClearGives area r left = (answer_numbers clearing_numbers r ≡ clear_answer area) × (left ≡ cleared_area area)

-- R57, R68. Fresh gives r.
abbrev pub FreshGives : ℕ → Record → Type 0
FreshGives reading r = r ≡ fresh_state reading

-- R61, R68. Whether the record rules hold is r.
abbrev pub ObeysGives : Record → Bool → Type 0
ObeysGives state r = r ≡ record_obeys state

-- R58, R68. Open gives r.
abbrev pub OpenGives : Record → Handed ℕ → Type 0
OpenGives state r = outcome (answer_numbers opening_numbers r.answer) r.state [] [] ≡ open_call state

-- R59, R68. Close gives r and leaves the area so.
abbrev pub CloseGives : Record → List ℕ → ℕ → Handed (Unit {0}) → List ℕ → Type 0
CloseGives state area n r left = outcome (answer_numbers closing_numbers r.answer) r.state left [] ≡ close_call state area n

-- R56, R68. Tick gives r and leaves the area so.
abbrev pub TickGives : Record → List ℕ → ℕ → Handed ℕ → List ℕ → Type 0
TickGives state area reading r left = outcome (answer_numbers ticking_numbers r.answer) r.state left [] ≡ tick_call state area reading

-- R28, R68. Deliver gives r and leaves the area and the output so.
abbrev pub DeliverGives : Record → List ℕ → ℕ → List ℕ → List ℕ → Handed Delivery → List ℕ → List ℕ → Type 0
DeliverGives state area n piece output r left written =
    outcome (answer_numbers delivery_numbers r.answer) r.state left written ≡ deliver_call state area n piece output

-- R49, R68. Take gives r and leaves the output so.
abbrev pub TakeGives : Record → List ℕ → Handed Taking → List ℕ → Type 0
TakeGives state output r written = outcome (answer_numbers taking_numbers r.answer) r.state [] written ≡ take_call state output

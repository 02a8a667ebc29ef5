-- For the contracts of inner functions and for proofs: no rule is here.
use Rattle.std.specs.Prelude.{ℕ, ◌≤◌, ◌<◌, ◌≡◌, Bool, true, ◌&&◌, List, length, drop, ltb}
use Rattle.answers.specs.Numbers.{answer_numbers, delivery_numbers}
use Rattle.endpoint.specs.declared.Record.{Record}
use Rattle.feed.specs.declared.Fed.{Fed}
use Rattle.feed.specs.Feed.{Feeding, feeding, is_message, offer}

-- What was fed, with the area, the output and what was told of the messages.
abbrev pub fed_so_far : Fed → List ℕ → List ℕ → List (List ℕ) → Feeding
fed_so_far fed area out messages =
    feeding (answer_numbers delivery_numbers fed.answer) fed.state area out fed.taken fed.put messages

-- Behind a sound message, bytes of the piece are left.
unfoldable pub goes_on : Fed → ℕ → Bool
goes_on fed whole = is_message (answer_numbers delivery_numbers fed.answer) && ltb fed.taken whole

-- One offer of what is left behind the bytes taken: all that it comes to, and that the totals stay inside piece and output.
pub record Offers (r : Record) (area : List ℕ) (n : ℕ) (piece out : List ℕ) (taken put : ℕ) (fed : Fed) (left written : List ℕ)
    : Type 0
  where
    pub is : (answer : List ℕ) (messages : List (List ℕ))
        → let g = offer n (feeding answer r area out taken put messages) (drop taken piece) in
        fed_so_far fed left written g.messages ≡ g
    pub within : fed.taken ≤ length piece
    pub fits : fed.put ≤ length out
    pub gains : is_message (answer_numbers delivery_numbers fed.answer) ≡ true → taken < fed.taken

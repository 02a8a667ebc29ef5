-- R28, R31, R81. The host's loop: a piece is offered again until all of it is taken, the connection is closed, or a delivery is refused.
use Rattle.std.specs.Prelude.{ℕ, zero, suc, ◌+◌, ◌≡◌, Bool, cond, List, [], ◌∷◌, ◌++◌, length, get_or, take, drop, eqb, leb}
use Rattle.numbers.specs.Kind.{kind_message}
use Rattle.answers.specs.Numbers.{answer_numbers, delivery_numbers}
use Rattle.endpoint.specs.Deliver.{deliver_call}
use Rattle.endpoint.specs.declared.Record.{Record}
use Rattle.feed.specs.declared.Fed.{Fed}

-- R28, R31. How far a host has come: the last delivery's answer, the record, the area, the output with the replies one behind another
-- at its front, how many bytes were taken, how many were put there, and what was told of each message.
pub record Feeding : Type 0 where
  pub answer : List ℕ
  pub state : Record
  pub area : List ℕ
  pub output : List ℕ
  pub taken : ℕ
  pub put : ℕ
  pub messages : List (List ℕ)

-- R28, R31. A feeding of these.
abbrev pub feeding : List ℕ → Record → List ℕ → List ℕ → ℕ → ℕ → List (List ℕ) → Feeding
feeding answer state area output taken put messages =
    record { answer = answer; state = state; area = area; output = output; taken = taken; put = put; messages = messages }

-- R28. Before the first delivery.
abbrev pub unfed : Record → List ℕ → List ℕ → Feeding
unfed r area out = feeding [] r area out 0 0 []

-- R66. A delivery's answer tells of a sound message.
unfoldable pub is_message : List ℕ → Bool
is_message answer = eqb (get_or answer 1 0) kind_message

-- R66. How many bytes a delivery took: none where it is refused.
abbrev pub bytes_taken : List ℕ → ℕ
bytes_taken answer = get_or answer 2 0

-- R31, R66. How long its reply is.
unfoldable pub reply_length : List ℕ → ℕ
reply_length answer = cond (is_message answer) (get_or answer 3 0) 0

-- R30, R31, R66. What it tells of a message: sound and its reply's length, or closed and the fault; else there was none.
unfoldable pub message_told : List ℕ → List (List ℕ)
message_told answer = cond (leb kind_message (get_or answer 1 0)) ((get_or answer 1 0 ∷ get_or answer 3 0 ∷ []) ∷ []) []

-- R28. One delivery to connection n, lent the output behind the replies so far.
unfoldable pub offer : ℕ → Feeding → List ℕ → Feeding
offer n f piece =
    let o = deliver_call f.state f.area n piece (drop f.put f.output) in
    feeding o.answer o.state o.area (take f.put f.output ++ o.output)
    (f.taken + bytes_taken o.answer) (f.put + reply_length o.answer) (f.messages ++ message_told o.answer)

-- R28. Behind a sound message what is left is offered again, at most so many times.
unfoldable pub feed_more : ℕ → ℕ → List ℕ → Feeding → Feeding
feed_more zero n left f = f
feed_more (suc most) n left f =
    cond (is_message f.answer)
    (cond (eqb (length left) 0) f
    (feed_more most n (drop (bytes_taken (offer n f left).answer) left) (offer n f left)))
    f

-- R28. A piece of connection n's bytes: it is offered, and then what is left of it.
unfoldable pub feed_piece : ℕ → Feeding → List ℕ → Feeding
feed_piece n f piece = feed_more (length piece) n (drop (bytes_taken (offer n f piece).answer) piece) (offer n f piece)

-- R28. THE HOST'S LOOP, for one piece.
unfoldable pub feed_of : Record → List ℕ → ℕ → List ℕ → List ℕ → Feeding
feed_of r area n piece out = feed_piece n (unfed r area out) piece

-- R28, R31. What the function that feeds a piece promises of its result, and of the area and the output as it leaves them.
pub record Feeds (r : Record) (lent : List ℕ) (n : ℕ) (piece out : List ℕ) (fed : Fed) (left written : List ℕ) : Type 0 where
  pub answer : answer_numbers delivery_numbers fed.answer ≡ (feed_of r lent n piece out).answer
  pub state : fed.state ≡ (feed_of r lent n piece out).state
  pub area : left ≡ (feed_of r lent n piece out).area
  pub output : written ≡ (feed_of r lent n piece out).output
  pub taken : fed.taken ≡ (feed_of r lent n piece out).taken
  pub put : fed.put ≡ (feed_of r lent n piece out).put

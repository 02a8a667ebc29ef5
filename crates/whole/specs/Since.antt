-- R81. What 'whole' means, without the run: the messages handed to the rules are those of the bytes taken, and so are the bytes that wait.
use Rattle.std.specs.Prelude.{ℕ, ◌≡◌, Bool, cond, true, List, [], ◌∷◌, ◌++◌, map, eqb, length, get_or, take, drop}
use Rattle.octets.specs.Zeros.{zeros}
use Rattle.octets.specs.Same.{same_bytes}
use Rattle.split.specs.Split.{split_of}
use Rattle.split.specs.Exactly.{AllSound}
use Rattle.area.specs.Area.{area_bytes}
use Rattle.device.specs.State.{fresh_of}
use Rattle.device.specs.declared.Device.{Device}
use Rattle.stream.specs.Calls.{deliver, ask, handed, asked, Held, none_held, AllBytes}
use Rattle.answers.specs.Numbers.{opening_numbers}
use Rattle.endpoint.specs.State.{fresh_state}
use Rattle.endpoint.specs.Outcome.{Outcome}
use Rattle.endpoint.specs.declared.Record.{Record}
use Rattle.promise.specs.Rulebook.{opening, closing, ticking, taking, datagram, Asked, Given, open?}
use Rattle.promise.specs.Calls.{HostCall, run_calls}
use Rattle.promise.specs.Kept.{held_in, Kept}
use Rattle.promise.specs.Whole.{wholes_of, by_rules}

-- R58, R66. The answer says that connection n was opened.
unfoldable pub opens_number : ℕ → List ℕ → Bool
opens_number n answer = same_bytes answer (opening_numbers n)

-- R28, R66. The bytes of a piece that a delivery's answer says were taken; a refusal has one number, and none are.
unfoldable pub taken_part : List ℕ → List ℕ → List ℕ
taken_part answer piece = take (get_or answer 2 0) piece

-- R58, R81. The bytes of connection n taken since its opening: those before, and what a call with this answer makes of them.
unfoldable pub taken_after : ℕ → HostCall → List ℕ → List ℕ → List ℕ
taken_after n (deliver k piece out) answer before = cond (eqb k n) (before ++ taken_part answer piece) before
taken_after n (ask opening) answer before = cond (opens_number n answer) [] before
taken_after n (ask (closing k)) answer before = before
taken_after n (ask (ticking reading)) answer before = before
taken_after n (ask (taking out)) answer before = before
taken_after n (ask (datagram g)) answer before = before

-- R81. Call after call, by what the calls gave.
unfoldable pub taken_since : ℕ → List ℕ → List HostCall → List Outcome → List ℕ
taken_since n before [] given = before
taken_since n before (c ∷ calls) [] = before
taken_since n before (c ∷ calls) (o ∷ given) = taken_since n (taken_after n c o.answer before) calls given

-- R58, R81. The messages of connection n handed to the rules since its opening: those before, and a whole call with this answer.
unfoldable pub handed_after : ℕ → Asked → List ℕ → List (List ℕ) → List (List ℕ)
handed_after n (handed k m out) answer before = cond (eqb k n) (before ++ (m ∷ [])) before
handed_after n (asked opening) answer before = cond (opens_number n answer) [] before
handed_after n (asked (closing k)) answer before = before
handed_after n (asked (ticking reading)) answer before = before
handed_after n (asked (taking out)) answer before = before
handed_after n (asked (datagram g)) answer before = before

-- R81. One whole call after another, by what the rules gave.
unfoldable pub handed_since : ℕ → List (List ℕ) → List Asked → List Given → List (List ℕ)
handed_since n before [] given = before
handed_since n before (w ∷ wholes) [] = before
handed_since n before (w ∷ wholes) (o ∷ given) = handed_since n (handed_after n w o.answer before) wholes given

-- R81. A run of these calls, from device d with the bytes h waiting, hands over of connection n what its bytes are split into.
pub record SplitAlike (d : Device) (h : Held) (calls : List HostCall) (run : (Record × List ℕ) × List Outcome) (n : ℕ) : Type 0 where
  -- the messages handed to the rules are those of the bytes taken
  pub messages : handed_since n [] (wholes_of d h calls) (by_rules d h calls).1 ≡ (split_of (taken_since n (h n) calls run.1)).messages
  -- while the connection is open all of them are sound, and the bytes left are those that wait in the area
  pub sound : open? run.0.0.device n ≡ true → AllSound (split_of (taken_since n (h n) calls run.1)).messages
  pub waiting : open? run.0.0.device n ≡ true
      → (split_of (taken_since n (h n) calls run.1)).left ≡ held_in run.0.0 run.0.1 n

-- R81. The whole calls that one call adds: the messages that its bytes add to those of its connection, or the call itself.
unfoldable pub added_by : Held → HostCall → List ℕ → List Asked
added_by before (deliver n piece out) answer =
    let now = taken_after n (deliver n piece out) answer (before n) in
    map (λ (m : List ℕ). handed n m out) (drop (length (split_of (before n)).messages) (split_of now).messages)
added_by before (ask a) answer = asked a ∷ []

-- R81. The whole calls of some calls, by what the calls gave and the bytes taken alone.
unfoldable pub wholes_told : Held → List HostCall → List Outcome → List Asked
wholes_told before [] given = []
wholes_told before (c ∷ calls) [] = []
wholes_told before (c ∷ calls) (o ∷ given) =
    added_by before c o.answer ++ wholes_told (λ (n : ℕ). taken_after n c o.answer (before n)) calls given

-- R81. So of every connection, and of the whole calls in their order.
pub record SaidOfBytes (d : Device) (h : Held) (calls : List HostCall) (run : (Record × List ℕ) × List Outcome) : Type 0 where
  pub each : (n : ℕ) → SplitAlike d h calls run n
  -- the rules are handed what a host that sees the calls and their answers splits its bytes into, each message at its place
  pub wholes : wholes_of d h calls ≡ wholes_told h calls run.1

-- Theorem. What the rules are handed is what the bytes taken of each connection since its opening are split into.
pub record MessagesOfBytes : Type 0 where
  -- from a fresh record and a zeroed area, whatever calls are made
  pub fresh : (reading : ℕ) (calls : List HostCall) → AllBytes calls
      → SaidOfBytes (fresh_of reading) none_held calls (run_calls (fresh_state reading) (zeros area_bytes) calls)
  -- and from any record and area to which refusals 1 and 2 do not apply, where the bytes that wait were taken before
  pub later : (r : Record) (area : List ℕ) (calls : List HostCall) → Kept r area → AllBytes calls
      → SaidOfBytes r.device (held_in r area) calls (run_calls r area calls)

-- R81. Bytes of one connection that decide nothing, mixed in any order with calls that are not to it.
use Rattle.std.specs.Prelude.{ℕ, ◌≤◌, ◌≡◌, ◌≢◌, Bool, true, false, List, [], ◌∷◌, ◌++◌, map, length}
use Rattle.frame.specs.Decide.{decide, settled}
use Rattle.area.specs.Area.{undecided_of}
use Rattle.connection.specs.State.{live_at}
use Rattle.replies.specs.Bytes.{least_output}
use Rattle.answers.specs.Numbers.{delivery_numbers}
use Rattle.answers.specs.declared.Delivery.TheVariants as deliveries
use Rattle.stream.specs.Calls.{deliver, ask, AllBytes}
use Rattle.endpoint.specs.Deliver.{held_at}
use Rattle.endpoint.specs.declared.Record.{Record}
use Rattle.promise.specs.Rulebook.{Given, given}
use Rattle.promise.specs.Calls.{HostCall, call_of, run_calls}
use Rattle.promise.specs.Kept.{Kept}
use Rattle.promise.specs.Whole.{host_sees}

-- R81. Two lists in one, each in its own order: true takes the next of the first, false of the second, and what is left over follows.
unfoldable pub mixed_by : {A : Type 0} → List Bool → List A → List A → List A
mixed_by [] xs ys = xs ++ ys
mixed_by (b ∷ order) [] ys = ys
mixed_by (b ∷ order) (x ∷ xs) [] = x ∷ xs
mixed_by (true ∷ order) (x ∷ xs) (y ∷ ys) = x ∷ mixed_by order xs (y ∷ ys)
mixed_by (false ∷ order) (x ∷ xs) (y ∷ ys) = y ∷ mixed_by order (x ∷ xs) ys

-- R28. A piece, and the output that is lent with it.
pub record Offer : Type 0 where
  pub piece : List ℕ
  pub output : List ℕ

-- R28. These, delivered to connection n.
abbrev pub deliveries_to : ℕ → List Offer → List HostCall
deliveries_to n offers = map (λ (o : Offer). deliver n o.piece o.output) offers

-- R28. The bytes of the pieces, one behind another.
unfoldable pub offered_bytes : List Offer → List ℕ
offered_bytes [] = []
offered_bytes (o ∷ offers) = o.piece ++ offered_bytes offers

-- R28. Every output is long enough.
unfoldable pub AllRoomy : List Offer → Type 0
AllRoomy [] = Unit {0}
AllRoomy (o ∷ offers) = (least_output ≤ length o.output) × AllRoomy offers

-- R29. What the host is told of a piece that decides nothing, and the output as it was.
abbrev pub told_more : Offer → Given
told_more o = given (delivery_numbers (deliveries.More (length o.piece))) o.output

-- R29. On connection n, which is open, these pieces decide nothing.
pub record DecideNothing (r : Record) (area : List ℕ) (n : ℕ) (offers : List Offer) : Type 0 where
  pub live : live_at r.device.connections n ≡ true
  pub room : AllRoomy offers
  pub bytes : AllBytes (deliveries_to n offers)
  pub undecided : settled (decide (undecided_of area n (held_at r n) ++ offered_bytes offers)) ≡ false

-- R81. A call that is no delivery to connection n.
abbrev pub NotTo : ℕ → HostCall → Type 0
NotTo n (deliver k piece out) = k ≢ n
NotTo n (ask a) = Unit {0}

-- R81. None of these calls is a delivery to connection n, and after each of them it is open.
unfoldable pub PassBy : ℕ → Record → List ℕ → List HostCall → Type 0
PassBy n r area [] = Unit {0}
PassBy n r area (c ∷ calls) =
    let o = call_of r area c in
    NotTo n c × (live_at o.state.device.connections n ≡ true) × PassBy n o.state o.area calls

-- R81. These pieces of connection n, mixed with these calls in that order, come to what they come to one list after the other.
pub record MixedAlike (order : List Bool) (r : Record) (area : List ℕ) (n : ℕ) (offers : List Offer) (calls : List HostCall)
    : Type 0 where
  -- the record and the area at the end
  pub last : (run_calls r area (mixed_by order (deliveries_to n offers) calls)).0 ≡ (run_calls r area (deliveries_to n offers ++ calls)).0
  -- each piece is told 'more needed', and each call what it is told where no piece is delivered
  pub sees : map host_sees (run_calls r area (mixed_by order (deliveries_to n offers) calls)).1
      ≡ mixed_by order (map told_more offers) (map host_sees (run_calls r area calls).1)

-- Theorem. In whatever order bytes that decide nothing are mixed with calls that are not to their connection, they come to the same.
pub record MixingDoesNotMatter : Type 0 where
  pub mixed : (order : List Bool) (r : Record) (area : List ℕ) (n : ℕ) (offers : List Offer) (calls : List HostCall) → Kept r area
      → DecideNothing r area n offers → PassBy n r area calls → AllBytes calls → MixedAlike order r area n offers calls
  -- so two orders come to the same record and area
  pub orders : (order another : List Bool) (r : Record) (area : List ℕ) (n : ℕ) (offers : List Offer) (calls : List HostCall)
      → Kept r area → DecideNothing r area n offers → PassBy n r area calls → AllBytes calls
      → (run_calls r area (mixed_by order (deliveries_to n offers) calls)).0
      ≡ (run_calls r area (mixed_by another (deliveries_to n offers) calls)).0

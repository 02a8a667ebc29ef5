-- What a delivery leaves in the output is the reply to a sound message, and is read. Assumes nothing.
use Prim.Native.Nat.{ℕ, zero, suc, ◌-◌}
use mathlib.Core.Path.{◌≡◌, refl, sym, ap, ◌∙◌}
use mathlib.Core.Bool.{Bool, true, false, cond}
use mathlib.Core.List.{List, [], ◌∷◌, ◌++◌}
use native.Mathlib.Omega.{arith}
use lib.Dec.{ltb}
use lib.ListN.{length, get_or, take, drop}
use lib.Seq.{length-take-le}
use Rattle.octets.specs.Numbers.{Octets}
use Rattle.octets.proofs.Digits.{octets_drop, octets_take}
use Rattle.numbers.specs.Refusal.{bad_record, bad_area, no_connection, no_room}
use Rattle.answers.specs.Numbers.{delivery_numbers}
use Rattle.answers.specs.declared.Delivery.TheVariants.{Message}
use Rattle.frame.specs.Decide.{decide, taken, settled}
use Rattle.frame.specs.declared.Decision.{Decision}
use Rattle.frame.specs.declared.Decision.TheVariants.{Undecided, Faulty, Sound}
use Rattle.frame.proofs.Sounds.{sound_at}
use Rattle.frame.proofs.Ways.{deciding}
use Rattle.layout.specs.Message.{at_front}
use Rattle.area.specs.Area.{part_at, area_sound, undecided_of}
use Rattle.connection.specs.State.{live_at}
use Rattle.replies.specs.Bytes.{least_output}
use Rattle.delivery.specs.Intake.{messaged, delivered_by, taken_in}
use Rattle.endpoint.specs.State.{record_obeys}
use Rattle.endpoint.specs.Outcome.{refused}
use Rattle.endpoint.specs.Deliver.{held_at, with_intake, deliver_call}
use Rattle.endpoint.specs.declared.Record.{Record}
use Rattle.sent.specs.Sent.{reply_to, Replied}
use Rattle.sent.proofs.Replies.{reply_read}

-- bytes one behind another are bytes
octets_append : (s t : List ℕ) → Octets s → Octets t → Octets (s ++ t)
octets_append [] t o p i = p i
octets_append (x ∷ s) t o p zero = o 0
octets_append (x ∷ s) t o p (suc i) = octets_append s t (λ j. o (suc j)) p i

module _ (r : Record) (area : List ℕ) (n : ℕ) (piece out : List ℕ) (a : Octets area) (p : Octets piece) where
  abbrev bytes : List ℕ
  bytes = undecided_of area n (held_at r n) ++ piece

  bytes_small : Octets bytes
  unfolding undecided_of
  bytes_small = octets_append (undecided_of area n (held_at r n)) piece (octets_take (held_at r n) (drop (part_at n) area) (octets_drop (part_at n) area a)) p

  -- the message at the front of the bytes
  decided : (t : ℕ) → decide bytes ≡ Sound t → (length (take t bytes) ≡ t) × (decide (take t bytes) ≡ Sound (length (take t bytes)))
  unfolding settled taken
  decided t e =
      let l : length (take t bytes) ≡ t = length-take-le t bytes (sound_at bytes t e).high in
      let q : decide (take t bytes) ≡ Sound t = rw e at (deciding.enough bytes (ap settled e)) in
      (l, q ∙ ap Sound (sym l))

  replied_by : (k l : ℕ) (x : Decision) → decide bytes ≡ x
      → (delivered_by x r.device area n (held_at r n) piece bytes out).answer ≡ delivery_numbers (Message k l)
      → Replied r area n piece out k l (delivered_by x r.device area n (held_at r n) piece bytes out).output
  unfolding delivered_by messaged at_front
  replied_by k l Undecided e q = absurd (omega (arith, ap length q))
  replied_by k l (Faulty f t) e q = absurd (omega (arith, ap (λ (y : List ℕ). get_or y 1 0) q))
  replied_by k l (Sound t) e q =
      let m = take t bytes in
      let d = decided t e in
      let s : length (reply_to r.device n m) ≡ l = ap (λ (y : List ℕ). get_or y 3 0) q in
      record {
        message = m;
        front = ap (λ (j : ℕ). take j bytes) (sym d.0);
        sound = d.1;
        bytes = sym (ap (λ (y : List ℕ). get_or y 2 0) q) ∙ ap (λ (j : ℕ). j - held_at r n) (sym d.0);
        size = sym s;
        output = refl;
        read = rw (← s) (reply_read r.device n m (octets_take t bytes bytes_small) d.1 (drop (length (reply_to r.device n m)) out));
      }

  -- the tests of the record, the area, the connection and the room
  delivered_by_lem : (k l : ℕ) (o s v short : Bool)
      → (cond o (cond s (cond v (cond short (refused no_room r area out) (with_intake r n (taken_in r.device area n (held_at r n) piece out))) (refused no_connection r area out)) (refused bad_area r area out)) (refused bad_record r area out)).answer
      ≡ delivery_numbers (Message k l)
      → Replied r area n piece out k l
      (cond o (cond s (cond v (cond short (refused no_room r area out) (with_intake r n (taken_in r.device area n (held_at r n) piece out))) (refused no_connection r area out)) (refused bad_area r area out)) (refused bad_record r area out)).output
  unfolding taken_in
  delivered_by_lem k l false s v short q = absurd (omega (arith, ap length q))
  delivered_by_lem k l true false v short q = absurd (omega (arith, ap length q))
  delivered_by_lem k l true true false short q = absurd (omega (arith, ap length q))
  delivered_by_lem k l true true true true q = absurd (omega (arith, ap length q))
  delivered_by_lem k l true true true false q = replied_by k l (decide bytes) refl q

  pub delivered : (k l : ℕ) → (deliver_call r area n piece out).answer ≡ delivery_numbers (Message k l)
      → Replied r area n piece out k l (deliver_call r area n piece out).output
  unfolding deliver_call
  delivered k l q =
      delivered_by_lem k l (record_obeys r) (area_sound r.held area) (live_at r.device.connections n) (ltb (length out) least_output) q

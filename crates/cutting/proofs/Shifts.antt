-- Feeding behind what was fed before is feeding on: a call of the host's loop goes on where the last one ended. Assumes nothing.
use Prim.Native.Nat.{ℕ, zero, suc, ◌+◌, ◌≤◌}
use mathlib.Core.Path.{◌≡◌, refl, sym, ap, ◌∙◌}
use mathlib.Core.Bool.{Bool, cond, true, false}
use mathlib.Core.List.{List, ◌++◌, append-nil, append_assoc}
use native.Mathlib.Nat.{add-zero, add_assoc}
use lib.Dec.{eqb}
use lib.ListN.{length, take, drop, take-append-drop}
use lib.Seq.{take-append-add, drop-append-add, length-take-le}
use Rattle.feed.specs.Feed.{Feeding, unfed, is_message, bytes_taken, reply_length, message_told, offer, feed_more, feed_piece, feed_of}
use Rattle.endpoint.specs.Deliver.{deliver_call}
use Rattle.cutting.specs.Cutting.{fed_behind, feed_next}
use Rattle.cutting.proofs.Offers.{forget}

module _ (n : ℕ) (f : Feeding) (fits : f.put ≤ length f.output) where
  -- the replies so far are as many bytes as they are said to be
  front_long : length (take f.put f.output) ≡ f.put
  front_long = length-take-le f.put f.output fits

  offer_behind : (g : Feeding) (p : List ℕ) → offer n (fed_behind f g) p ≡ fed_behind f (offer n g p)
  unfolding offer
  offer_behind g p =
      let front = take f.put f.output in
      let o = deliver_call g.state g.area n p (drop g.put g.output) in
      let d : drop (f.put + g.put) (front ++ g.output) ≡ drop g.put g.output =
      ap (λ (k : ℕ). drop (k + g.put) (front ++ g.output)) (sym front_long) ∙ drop-append-add front g.output g.put in
      let t : take (f.put + g.put) (front ++ g.output) ≡ front ++ take g.put g.output =
      ap (λ (k : ℕ). take (k + g.put) (front ++ g.output)) (sym front_long) ∙ take-append-add front g.output g.put in
      rw (
        d,
        t,
        append_assoc front (take g.put g.output) o.output,
        add_assoc f.taken g.taken (bytes_taken o.answer),
        add_assoc f.put g.put (reply_length o.answer),
        append_assoc f.messages g.messages (message_told o.answer),
      )

  more_behind : (most : ℕ) (left : List ℕ) (g : Feeding) → feed_more most n left (fed_behind f g) ≡ fed_behind f (feed_more most n left g)
  unfolding feed_more
  more_behind zero left g = refl
  more_behind (suc m) left g =
      let x = offer n (fed_behind f g) left in
      let y = offer n g left in
      go (is_message g.answer) (eqb (length left) 0) (feed_more m n (drop (bytes_taken x.answer) left) x) (feed_more m n (drop (bytes_taken y.answer) left) y)
      (ap (λ (z : Feeding). feed_more m n (drop (bytes_taken z.answer) left) z) (offer_behind g left)
      ∙ more_behind m (drop (bytes_taken y.answer) left) y)
    where
      go : (b c : Bool) (x y : Feeding) → x ≡ fed_behind f y → cond b (cond c (fed_behind f g) x) (fed_behind f g) ≡ fed_behind f (cond b (cond c g y) g)
      go true true x y e = refl
      go true false x y e = e
      go false c x y e = refl

  -- before a call nothing is fed
  none_behind : fed_behind f (unfed f.state f.area (drop f.put f.output)) ≡ forget f
  none_behind = rw (take-append-drop f.put f.output, add-zero, add-zero, append-nil)

  offer_first : (p : List ℕ) → offer n f p ≡ fed_behind f (offer n (unfed f.state f.area (drop f.put f.output)) p)
  offer_first p =
      forgotten ∙ ap (λ (g : Feeding). offer n g p) (sym none_behind) ∙ offer_behind (unfed f.state f.area (drop f.put f.output)) p
    where
      forgotten : offer n f p ≡ offer n (forget f) p
      forgotten = unfold offer in refl

  pub next_is : (p : List ℕ) → feed_next n f p ≡ feed_piece n f p
  unfolding feed_next feed_of feed_piece
  next_is p =
      let g = offer n (unfed f.state f.area (drop f.put f.output)) p in
      sym
      (ap (λ (y : Feeding). feed_more (length p) n (drop (bytes_taken y.answer) p) y) (offer_first p)
      ∙ more_behind (length p) (drop (bytes_taken g.answer) p) g)

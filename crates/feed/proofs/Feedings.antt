-- The loop that offers a piece again. Assumes nothing.
use Prim.Native.Nat.{ℕ, zero, suc, ◌+◌, ◌-◌, ◌≤◌, ◌<◌}
use mathlib.Core.Path.{◌≡◌, refl, sym, ap, ◌∙◌}
use mathlib.Core.Bool.{Bool, cond, true, false, ◌&&◌}
use mathlib.Core.List.{List, [], ◌++◌, append-nil, append_assoc}
use native.Mathlib.Omega.{arith}
use lib.Dec.{ltb, eqb}
use lib.ListN.{length, take, drop, length-drop, drop_of_length-le}
use lib.Seq.{drop-drop}
use borrow.Author.Tests.{eq-eqb, ne_eqb, ltb-true, ltb-false}
use borrow.Rule.Slice.PartMut.{put_mid}
use Rattle.laws.proofs.Conds.{and_left, and_right}
use Rattle.answers.specs.Numbers.{answer_numbers, delivery_numbers, numbers_of}
use Rattle.answers.specs.declared.Numbers.{Numbers}
use Rattle.endpoint.specs.Outcome.{Outcome, outcome}
use Rattle.endpoint.specs.Deliver.{deliver_call}
use Rattle.endpoint.specs.declared.Record.{Record}
use Rattle.feed.specs.declared.Fed.{Fed}
use Rattle.feed.specs.Feed.{Feeding, unfed, is_message, bytes_taken, reply_length, message_told, offer, feed_more, feed_piece, feed_of, Feeds}
use Rattle.feed.specs.Scaffold.{fed_so_far, goes_on, Offers}
use Rattle.feed.proofs.Bounds.{deliver_bounds}

-- how many offers more there may be
unfoldable pub left_to : Fed → ℕ → ℕ
left_to fed whole = cond (is_message (answer_numbers delivery_numbers fed.answer)) (suc (whole - fed.taken)) 0

-- the output's rest, lent and given back, stands behind the front
pub put_back : (put : ℕ) (out part : List ℕ) → put_mid put (length out - put) out part ≡ take put out ++ part
put_back put out part =
    let h : length (drop put out) ≤ length out - put = omega (arith, length-drop put out) in
    rw (drop_of_length-le (drop put out) h, append-nil)

-- what an answer tells, by its numbers
module _ (answer : List ℕ) (m : Numbers) (e : m ≡ numbers_of answer) where
  pub told_kind : eqb m.first 2 ≡ is_message answer
  unfolding is_message numbers_of
  told_kind = rw e

  pub told_taken : m.second ≡ bytes_taken answer
  unfolding numbers_of
  told_taken = rw e

  pub told_length : (b : Bool) → b ≡ is_message answer → b ≡ true → m.third ≡ reply_length answer
  unfolding reply_length numbers_of
  told_length b q t = rw (← q, t, e)

pub told_none : (answer : List ℕ) (b : Bool) → b ≡ is_message answer → b ≡ false → 0 ≡ reply_length answer
unfolding reply_length
told_none answer b q t = rw (← q, t)

-- p is what is left of the piece, and q the output behind the replies
module _ (r : Record) (area : List ℕ) (n : ℕ) (piece out : List ℕ) (taken put : ℕ) (low : taken ≤ length piece) (room : put ≤ length out)
    (c8 : length r.device.connections ≡ 8) (h8 : length r.held ≡ 8) (p q : List ℕ) (pe : p ≡ drop taken piece) (qe : q ≡ drop put out)
  where
    pub offer_within : (o : Outcome) → o ≡ deliver_call r area n p q → taken + bytes_taken o.answer ≤ length piece
    offer_within o e = rw e (omega (arith, (deliver_bounds r area n p q c8 h8).within, ap length pe, length-drop taken piece))

    pub offer_fits : (o : Outcome) → o ≡ deliver_call r area n p q → put + reply_length o.answer ≤ length out
    offer_fits o e = rw e (omega (arith, (deliver_bounds r area n p q c8 h8).fits, ap length qe, length-drop put out))

    -- fed is what the delivery gave, with the totals
    pub offers : (fed : Fed) (left part written : List ℕ)
        → outcome (answer_numbers delivery_numbers fed.answer) fed.state left part ≡ deliver_call r area n p q
        → written ≡ take put out ++ part → fed.taken ≡ taken + bytes_taken (answer_numbers delivery_numbers fed.answer)
        → fed.put ≡ put + reply_length (answer_numbers delivery_numbers fed.answer) → Offers r area n piece out taken put fed left written
    offers fed left part written e w t u =
        let o = outcome (answer_numbers delivery_numbers fed.answer) fed.state left part in
        record {
          is = λ answer messages. unfold offer in (rw (← pe, ← qe, ← e, w, t, u));
          within = rw t (offer_within o e);
          fits = rw u (offer_fits o e);
          gains = λ m. omega (arith, (rw (← e) at (deliver_bounds r area n p q c8 h8).gains) m);
        }

-- fed, area and out are how the loop stands; once, lent and first are how it stood behind the first offer
pub record Going (n : ℕ) (piece : List ℕ) (once : Fed) (lent first : List ℕ) (fed : Fed) (area out : List ℕ) : Type 0 where
  pub most : ℕ
  pub told : List (List ℕ)
  pub enough : is_message (answer_numbers delivery_numbers fed.answer) ≡ true → length piece ≤ fed.taken + most
  pub is : (ms : List (List ℕ))
      → feed_more (length piece) n (drop once.taken piece) (fed_so_far once lent first ms)
      ≡ feed_more most n (drop fed.taken piece) (fed_so_far fed area out (ms ++ told))
  pub within : fed.taken ≤ length piece
  pub fits : fed.put ≤ length out
  pub long : length area ≡ length lent
  pub wide : length out ≡ length first

pub going_first : (r : Record) (lent : List ℕ) (n : ℕ) (piece first : List ℕ) (fed : Fed) (area out : List ℕ)
    → Offers r lent n piece first 0 0 fed area out → length out ≡ length first → Going n piece fed area out fed area out
going_first r lent n piece first fed area out o w =
    record {
      most = length piece;
      told = [];
      enough = λ m. omega arith;
      is = λ ms. rw append-nil;
      within = o.within;
      fits = omega (arith, o.fits);
      long = refl;
      wide = refl;
    }

module _ (n : ℕ) (piece : List ℕ) (once : Fed) (lent first : List ℕ) (fed : Fed) (area out : List ℕ) (go : Going n piece once lent first fed area out)
  where
    module _ (test : goes_on fed (length piece) ≡ true) where
      is_message_lem : is_message (answer_numbers delivery_numbers fed.answer) ≡ true
      unfolding goes_on
      is_message_lem = and_left (is_message (answer_numbers delivery_numbers fed.answer)) (ltb fed.taken (length piece)) test

      less : fed.taken < length piece
      unfolding goes_on
      less = ltb-true fed.taken (length piece) (and_right (is_message (answer_numbers delivery_numbers fed.answer)) (ltb fed.taken (length piece)) test)

      -- what is left is offered
      more : (k : ℕ) (ms : List (List ℕ))
          → let g = offer n (fed_so_far fed area out ms) (drop fed.taken piece) in
          feed_more (suc k) n (drop fed.taken piece) (fed_so_far fed area out ms) ≡ feed_more k n (drop (fed.taken + bytes_taken g.answer) piece) g
      unfolding feed_more
      more k ms =
          rw (
            is_message_lem,
            ne_eqb (length (drop fed.taken piece)) 0 (λ z. omega (arith, less, length-drop fed.taken piece)),
            drop-drop,
          )

      module _ (next : Fed) (area' out' : List ℕ) (o : Offers fed.state area n piece out fed.taken fed.put next area' out') where
        came : (k : ℕ) (ms : List (List ℕ))
            → feed_more (suc k) n (drop fed.taken piece) (fed_so_far fed area out ms)
            ≡ feed_more k n (drop next.taken piece) (fed_so_far next area' out' (ms ++ message_told (answer_numbers delivery_numbers next.answer)))
        unfolding offer
        came k ms =
            let g = offer n (fed_so_far fed area out ms) (drop fed.taken piece) in
            let q : fed_so_far next area' out' g.messages ≡ g = o.is (answer_numbers delivery_numbers fed.answer) ms in
            let t : next.taken ≡ fed.taken + bytes_taken g.answer = ap (λ (f : Feeding). f.taken) q in
            let a : answer_numbers delivery_numbers next.answer ≡ g.answer = ap (λ (f : Feeding). f.answer) q in
            more k ms
            ∙ sym
            (ap (λ (x : List ℕ). feed_more k n (drop next.taken piece) (fed_so_far next area' out' (ms ++ message_told x))) a
            ∙ ap (λ (f : Feeding). feed_more k n (drop next.taken piece) f) q
            ∙ ap (λ (j : ℕ). feed_more k n (drop j piece) g) t)

        pub going_again : length area' ≡ length area → length out' ≡ length out → Going n piece once lent first next area' out'
        going_again l w = again go.most (go.enough is_message_lem) go.is
          where
            again : (k : ℕ) → length piece ≤ fed.taken + k
                → ((ms : List (List ℕ)) → feed_more (length piece) n (drop once.taken piece) (fed_so_far once lent first ms) ≡ feed_more k n (drop fed.taken piece) (fed_so_far fed area out (ms ++ go.told)))
                → Going n piece once lent first next area' out'
            again zero h e = absurd (omega (arith, less))
            again (suc k) h e =
                record {
                  most = k;
                  told = go.told ++ message_told (answer_numbers delivery_numbers next.answer);
                  enough = λ m. omega (arith, o.gains m);
                  is = λ ms. e ms ∙ came k (ms ++ go.told) ∙ rw append_assoc;
                  within = o.within;
                  fits = omega (arith, o.fits);
                  long = l ∙ go.long;
                  wide = w ∙ go.wide;
                }

        -- one more offer takes more of the piece, or is the last
        pub less_left : left_to next (length piece) < left_to fed (length piece)
        unfolding left_to
        less_left = rw is_message_lem (by (is_message (answer_numbers delivery_numbers next.answer)) refl)
          where
            by : (b : Bool) → is_message (answer_numbers delivery_numbers next.answer) ≡ b → cond {A = ℕ} b (suc (length piece - next.taken)) 0 < suc (length piece - fed.taken)
            by true e = omega (arith, less, o.gains e)
            by false e = omega arith

    -- the loop ends
    stops : (ms : List (List ℕ)) → goes_on fed (length piece) ≡ false → (k : ℕ)
        → feed_more k n (drop fed.taken piece) (fed_so_far fed area out ms) ≡ fed_so_far fed area out ms
    unfolding feed_more goes_on
    stops ms test zero = refl
    stops ms test (suc k) = by (is_message (answer_numbers delivery_numbers fed.answer)) test
      where
        by : (m : Bool) → (m && ltb fed.taken (length piece)) ≡ false
            → cond m
            (cond (eqb (length (drop fed.taken piece)) 0) (fed_so_far fed area out ms)
            (feed_more k n (drop (bytes_taken (offer n (fed_so_far fed area out ms) (drop fed.taken piece)).answer) (drop fed.taken piece)) (offer n (fed_so_far fed area out ms) (drop fed.taken piece))))
            (fed_so_far fed area out ms)
            ≡ fed_so_far fed area out ms
        by true e =
            let z : length (drop fed.taken piece) ≡ 0 = omega (arith, length-drop fed.taken piece, ltb-false fed.taken (length piece) e) in
            rw (eq-eqb (length (drop fed.taken piece)) 0 z)
        by false e = refl

    pub going_all : (r : Record) (area₀ out₀ : List ℕ) → Offers r area₀ n piece out₀ 0 0 once lent first → goes_on fed (length piece) ≡ false
        → Feeds r area₀ n piece out₀ fed area out
    unfolding feed_of feed_piece
    going_all r area₀ out₀ o test =
        let g = offer n (unfed r area₀ out₀) piece in
        let q : fed_so_far once lent first g.messages ≡ g = o.is [] [] in
        let t : once.taken ≡ bytes_taken g.answer = ap (λ (f : Feeding). f.taken) q ∙ unfold offer in (omega arith) in
        let e : feed_more (length piece) n (drop (bytes_taken g.answer) piece) g ≡ fed_so_far fed area out (g.messages ++ go.told) =
        sym (ap (λ (f : Feeding). feed_more (length piece) n (drop once.taken piece) f) q ∙ ap (λ (j : ℕ). feed_more (length piece) n (drop j piece) g) t)
        ∙ go.is g.messages
        ∙ stops (g.messages ++ go.told) test go.most in
        record {
          answer = sym (ap (λ (f : Feeding). f.answer) e);
          state = sym (ap (λ (f : Feeding). f.state) e);
          area = sym (ap (λ (f : Feeding). f.area) e);
          output = sym (ap (λ (f : Feeding). f.output) e);
          taken = sym (ap (λ (f : Feeding). f.taken) e);
          put = sym (ap (λ (f : Feeding). f.put) e);
        }

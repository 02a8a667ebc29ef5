-- Each call's promise allows one result. Assumes nothing.
use Prim.Native.Nat.{ℕ}
use mathlib.Core.Path.{◌≡◌, sym, ap, ap₂, ◌∙◌}
use mathlib.Core.List.{List}
use Rattle.std.specs.Prelude.{Result}
use Rattle.numbers.specs.declared.Refusal.{Refusal}
use Rattle.answers.specs.Numbers.{answer_numbers, opening_numbers, closing_numbers, ticking_numbers, delivery_numbers, taking_numbers}
use Rattle.answers.specs.Tell.{Tells}
use Rattle.answers.proofs.Tells.{answers_tell}
use Rattle.endpoint.specs.Outcome.{Outcome, outcome}
use Rattle.endpoint.specs.Tell.{ResultsTell}
use Rattle.endpoint.specs.declared.Record.{Record}
use Rattle.endpoint.specs.declared.Handed.{Handed}

-- two results of a call with one outcome, with answers that their numbers tell apart
module _ {A : Type 0} (numbers : A → List ℕ) (tells : Tells numbers) (o : Outcome) (r s : Handed A) (x y v w : List ℕ)
    (p : outcome (answer_numbers numbers r.answer) r.state x v ≡ o) (q : outcome (answer_numbers numbers s.answer) s.state y w ≡ o)
  where
    abbrev handed : Record → Result A Refusal → Handed A
    handed state answer = record { state = state; answer = answer }

    pub one_result : r ≡ s
    one_result =
        ap₂ handed (ap (λ (z : Outcome). z.state) (p ∙ sym q)) (tells r.answer s.answer (ap (λ (z : Outcome). z.answer) (p ∙ sym q)))

    pub one_area : x ≡ y
    one_area = ap (λ (z : Outcome). z.area) (p ∙ sym q)

    pub one_output : v ≡ w
    one_output = ap (λ (z : Outcome). z.output) (p ∙ sym q)

pub results_tell : ResultsTell
results_tell =
    record {
      cleared = λ area r s x y p q. (answers_tell.clearings r s (p.0 ∙ sym q.0), p.1 ∙ sym q.1);
      fresh = λ reading r s p q. p ∙ sym q;
      obeys = λ state r s p q. p ∙ sym q;
      opened = λ state r s p q. one_result opening_numbers answers_tell.openings _ r s _ _ _ _ p q;
      closed = λ state area n r s x y p q. (
        one_result closing_numbers answers_tell.closings _ r s x y _ _ p q,
        one_area closing_numbers answers_tell.closings _ r s x y _ _ p q,
      );
      ticked = λ state area reading r s x y p q. (
        one_result ticking_numbers answers_tell.tickings _ r s x y _ _ p q,
        one_area ticking_numbers answers_tell.tickings _ r s x y _ _ p q,
      );
      delivered = λ state area n piece output r s x y v w p q. (
        one_result delivery_numbers answers_tell.deliveries _ r s x y v w p q,
        one_area delivery_numbers answers_tell.deliveries _ r s x y v w p q,
        one_output delivery_numbers answers_tell.deliveries _ r s x y v w p q,
      );
      taken = λ state output r s x y p q. (
        one_result taking_numbers answers_tell.takings _ r s _ _ x y p q,
        one_output taking_numbers answers_tell.takings _ r s _ _ x y p q,
      );
    }

-- One result for a piece that is fed. Assumes nothing.
use Prim.Native.Nat.{ℕ}
use mathlib.Core.Path.{◌≡◌, sym, ap, ◌∙◌}
use Rattle.answers.proofs.Tells.{answers_tell}
use Rattle.std.specs.Prelude.{Result}
use Rattle.numbers.specs.declared.Refusal.{Refusal}
use Rattle.answers.specs.declared.Delivery.{Delivery}
use Rattle.endpoint.specs.declared.Record.{Record}
use Rattle.feed.specs.declared.Fed.{Fed}
use Rattle.feed.specs.Tell.{FeedingTells}

abbrev made : Record → Result Delivery Refusal → ℕ → ℕ → Fed
made s x t p = record { state = s; answer = x; taken = t; put = p }

same : (a b : Fed) → a.state ≡ b.state → a.answer ≡ b.answer → a.taken ≡ b.taken → a.put ≡ b.put → a ≡ b
same a b s x t p =
    ap (λ (z : Record). made z a.answer a.taken a.put) s ∙ ap (λ (z : Result Delivery Refusal). made b.state z a.taken a.put) x
    ∙ ap (λ (z : ℕ). made b.state b.answer z a.put) t ∙ ap (λ (z : ℕ). made b.state b.answer b.taken z) p

pub feeding_told : FeedingTells
feeding_told =
    record {
      one = λ r area n piece out a b x y v w f g. (
        same a b (f.state ∙ sym g.state) (answers_tell.deliveries a.answer b.answer (f.answer ∙ sym g.answer)) (f.taken ∙ sym g.taken) (f.put ∙ sym g.put),
        f.area ∙ sym g.area,
        f.output ∙ sym g.output,
      );
    }

-- The numbers of an answer tell it from every other. Assumes nothing.
use Rattle.std.specs.Prelude.{◌≡◌, ◌≢◌, List, ℕ, refl, get_or, Ok, Err}
use Rattle.std.proofs.Common.{sym, ap, ◌∙◌}
use Rattle.numbers.specs.Refusal.{not_refused, refusal_number, refusal_numbers}
use Rattle.numbers.specs.declared.Refusal.{Refusal}
use Rattle.numbers.specs.declared.Refusal.TheVariants as refusals
use Rattle.numbers.proofs.Tables.{numbers_table}
use Rattle.answers.specs.Numbers.{clearing_numbers, opening_numbers, closing_numbers, ticking_numbers}
use Rattle.answers.specs.Numbers.{delivery_numbers, taking_numbers, resetting_numbers}
use Rattle.answers.specs.Laws.{units_tell, bytes_tell, deliveries_tell, takings_tell, resettings_tell}
use Rattle.answers.specs.Tell.{Tells, AnswersTell}
use Rattle.answers.specs.declared.Delivery.{Delivery}
use Rattle.answers.specs.declared.Delivery.TheVariants as delivery
use Rattle.answers.specs.declared.Taking.{Taking}
use Rattle.answers.specs.declared.Taking.TheVariants as taking
use Rattle.answers.specs.declared.Resetting.{Resetting}
use Rattle.answers.specs.declared.Resetting.TheVariants as resetting

-- ---- the answers that refuse nothing
pub deliveries_pass : (a : Delivery) → get_or (delivery_numbers a) 0 0 ≡ not_refused
deliveries_pass (delivery.More t) = refl
deliveries_pass (delivery.Message t l) = refl
deliveries_pass (delivery.Closed t f) = refl

pub takings_pass : (a : Taking) → get_or (taking_numbers a) 0 0 ≡ not_refused
takings_pass taking.Nothing = refl
takings_pass (taking.Notification n l) = refl
takings_pass (taking.KeepAlive n l) = refl

pub resettings_pass : (a : Resetting) → get_or (resetting_numbers a) 0 0 ≡ not_refused
resettings_pass resetting.Nothing = refl
resettings_pass resetting.Done = refl

-- ---- and with the refusals
refusal_first : (r : Refusal) → get_or (refusal_numbers r) 0 0 ≡ refusal_number r
refusal_first refusals.BadRecord = refl
refusal_first refusals.BadArea = refl
refusal_first refusals.NoConnection = refl
refusal_first refusals.NoRoom = refl
refusal_first refusals.TableFull = refl
refusal_first refusals.ClockBack = refl
refusal_first (refusals.Fault f) = refl
refusal_first refusals.Short = refl
refusal_first refusals.TooLong = refl
refusal_first refusals.BadEntry = refl
refusal_first refusals.NoEntry = refl

module _ {A : Type 0} (told : A → List ℕ) (passes : (a : A) → get_or (told a) 0 0 ≡ not_refused) where
  never_refused : (a : A) (r : Refusal) → told a ≢ refusal_numbers r
  never_refused a r e =
      numbers_table.names.refused r (sym (refusal_first r) ∙ sym (ap (λ (l : List ℕ). get_or l 0 0) e) ∙ passes a)

  pub answer_tells : ((a b : A) → told a ≡ told b → a ≡ b) → Tells told
  answer_tells tells (Ok a) (Ok b) e = ap Ok (tells a b e)
  answer_tells tells (Ok a) (Err r) e = absurd (never_refused a r e)
  answer_tells tells (Err r) (Ok b) e = absurd (never_refused b r (sym e))
  answer_tells tells (Err r) (Err q) e = ap Err (numbers_table.names.refusal_told r q e)

pub answers_tell : AnswersTell
answers_tell =
    record {
      clearings = answer_tells clearing_numbers (λ a. refl) units_tell;
      openings = answer_tells opening_numbers (λ a. refl) bytes_tell;
      closings = answer_tells closing_numbers (λ a. refl) units_tell;
      tickings = answer_tells ticking_numbers (λ a. refl) bytes_tell;
      deliveries = answer_tells delivery_numbers deliveries_pass deliveries_tell;
      takings = answer_tells taking_numbers takings_pass takings_tell;
      resettings = answer_tells resetting_numbers resettings_pass resettings_tell;
    }

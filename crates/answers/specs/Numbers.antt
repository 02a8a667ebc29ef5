-- R66. The numbers of each answer of the endpoint: its refusal alone, or that nothing was refused and what follows.
use Rattle.std.specs.Prelude.{ℕ, List, [], ◌∷◌, get_or, Result, Ok, Err}
use Rattle.numbers.specs.Refusal.{not_refused, refusal_numbers}
use Rattle.numbers.specs.Fault.{fault_number}
use Rattle.numbers.specs.Kind.{kind_more, kind_message, kind_closed}
use Rattle.numbers.specs.Kind.{kind_nothing, kind_notification, kind_keep_alive, kind_unchanged, kind_reset}
use Rattle.numbers.specs.declared.Refusal.{Refusal}
use Rattle.answers.specs.declared.Delivery.{Delivery}
use Rattle.answers.specs.declared.Delivery.TheVariants as delivery
use Rattle.answers.specs.declared.Taking.{Taking}
use Rattle.answers.specs.declared.Taking.TheVariants as taking
use Rattle.answers.specs.declared.Resetting.{Resetting}
use Rattle.answers.specs.declared.Resetting.TheVariants as resetting
use Rattle.answers.specs.declared.Numbers.{Numbers}

-- R66. The answer of clear: done.
abbrev pub clearing_numbers : Unit {0} → List ℕ
clearing_numbers _ = not_refused ∷ []

-- R66. The answer of open: the number opened.
abbrev pub opening_numbers : ℕ → List ℕ
opening_numbers n = not_refused ∷ n ∷ []

-- R66. The answer of close: done.
abbrev pub closing_numbers : Unit {0} → List ℕ
closing_numbers _ = not_refused ∷ []

-- R66. The answer of tick: the byte that names those closed.
abbrev pub ticking_numbers : ℕ → List ℕ
ticking_numbers mask = not_refused ∷ mask ∷ []

-- R66. The answers of deliver, each with the bytes taken.
abbrev pub delivery_numbers : Delivery → List ℕ
delivery_numbers (delivery.More taken) = not_refused ∷ kind_more ∷ taken ∷ []
delivery_numbers (delivery.Message taken length) = not_refused ∷ kind_message ∷ taken ∷ length ∷ []
delivery_numbers (delivery.Closed taken f) = not_refused ∷ kind_closed ∷ taken ∷ fault_number f ∷ []

-- R66. The answers of take, with connection and length.
abbrev pub taking_numbers : Taking → List ℕ
taking_numbers taking.Nothing = not_refused ∷ kind_nothing ∷ []
taking_numbers (taking.Notification n length) = not_refused ∷ kind_notification ∷ n ∷ length ∷ []
taking_numbers (taking.KeepAlive n length) = not_refused ∷ kind_keep_alive ∷ n ∷ length ∷ []

-- R66. The answers of a datagram: nothing, or a reset.
abbrev pub resetting_numbers : Resetting → List ℕ
resetting_numbers resetting.Nothing = not_refused ∷ kind_unchanged ∷ []
resetting_numbers resetting.Done = not_refused ∷ kind_reset ∷ []

-- R66. The numbers of what a call answers: those of an answer that refuses nothing, or the refusal's.
abbrev pub answer_numbers : {A : Type 0} → (A → List ℕ) → Result A Refusal → List ℕ
answer_numbers numbers (Ok answer) = numbers answer
answer_numbers numbers (Err refusal) = refusal_numbers refusal

-- R66. An answer's numbers as fields.
abbrev pub numbers_with : ℕ → ℕ → ℕ → ℕ → Numbers
numbers_with number first second third = record { number = number; first = first; second = second; third = third }

-- R66. An answer's numbers, zeros behind them.
unfoldable pub numbers_of : List ℕ → Numbers
numbers_of a = numbers_with (get_or a 0 0) (get_or a 1 0) (get_or a 2 0) (get_or a 3 0)

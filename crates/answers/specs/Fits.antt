-- R66. Which of an answer's numbers fit a byte.
use Rattle.std.specs.Prelude.{◌≡◌, ◌<◌, Result}
use Rattle.numbers.specs.Kind.{kind_closed}
use Rattle.numbers.specs.declared.Refusal.{Refusal}
use Rattle.answers.specs.Numbers.{delivery_numbers, taking_numbers, answer_numbers, numbers_of}
use Rattle.answers.specs.declared.Delivery.{Delivery}
use Rattle.answers.specs.declared.Taking.{Taking}

-- R66. A closure's third number is a fault, and fits.
abbrev pub FaultFits : Result Delivery Refusal → Type 0
FaultFits answer =
    let m = numbers_of (answer_numbers delivery_numbers answer) in
    m.first ≡ kind_closed → m.third < 256

-- R66. A taking's second number is a connection's, and fits.
abbrev pub ConnectionFits : Result Taking Refusal → Type 0
ConnectionFits answer = (numbers_of (answer_numbers taking_numbers answer)).second < 256

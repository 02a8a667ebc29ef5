-- The decimal digits of a number. Assumes nothing.
use Prim.Native.Nat.{ℕ, ◌+◌, ◌≤◌, ◌<◌, ◌^◌}
use mathlib.Core.Path.{◌≡◌, sym, ◌∙◌}
use mathlib.Core.List.{List, [], ◌∷◌}
use native.Mathlib.Omega.{arith}
use lib.ListN.{length, length-append}
use Rattle.std.specs.Fmt.{decimal}
use Rattle.std.proofs.lemmas.Fmt.{AppendsLastDigit, decimal_from_appends, length-decimal-le}
use Rattle.laws.specs.Decimal.{decimal_within, decimal_of, greatest_digits}
use Rattle.laws.proofs.Decimals.{one_digit_lem, more_digits}
use Rattle.lines.specs.Text.{number_text}

appends : AppendsLastDigit decimal_within
appends = record { one = one_digit_lem; more = more_digits }

decimal_is : (n : ℕ) → n < 2 ^ 64 → decimal_of n ≡ decimal n
unfolding decimal_of
decimal_is n h = decimal_from_appends decimal_within appends greatest_digits n h (length-decimal-le 20 n (omega arith) (omega arith) h)

-- what is formatted
pub decimal_text : {t : List ℕ} (n : ℕ) → n < 2 ^ 64 → t ≡ decimal n → t ≡ decimal_of n
decimal_text n h e = e ∙ sym (decimal_is n h)

pub number_length : (n mark : ℕ) → length (number_text n mark) ≡ length (decimal_of n) + 1
unfolding number_text
number_length n mark = length-append (decimal_of n) (mark ∷ [])

-- a number below 10 to the k has at most k digits
number_short : (k n mark : ℕ) → 1 ≤ k → n < 10 ^ k → n < 2 ^ 64 → length (number_text n mark) ≤ k + 1
number_short k n mark h l f = rw (number_length, decimal_is n f) (omega (arith, length-decimal-le k n (omega arith) l f))

pub short64 : (n mark : ℕ) → n < 2 ^ 64 → length (number_text n mark) ≤ 21
short64 n mark h = number_short 20 n mark (omega arith) (omega arith) h

pub short16 : (n mark : ℕ) → n < 2 ^ 16 → length (number_text n mark) ≤ 6
short16 n mark h = number_short 5 n mark (omega arith) (omega arith) (omega arith)

pub short8 : (n mark : ℕ) → n < 2 ^ 8 → length (number_text n mark) ≤ 4
short8 n mark h = number_short 3 n mark (omega arith) (omega arith) (omega arith)

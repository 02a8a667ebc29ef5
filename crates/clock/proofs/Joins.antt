-- Masks joined, in any grouping. No rule is here. Assumes nothing.
use Prim.Native.Nat.{ℕ, zero, suc, max, ◌+◌, ◌*◌, ◌/◌, ◌%◌, ◌^◌, ◌<◌}
use mathlib.Core.Path.{◌≡◌, sym, ap, ◌∙◌}
use native.Mathlib.Omega.{arith}
use native.Mathlib.Nat.{pow-suc}
use lib.Bits.{bit_or, or_step}

-- the lowest digit of a join, and the rest
digit : (x : ℕ) → x % 2 < 2
digit x = omega arith

halves : (x m : ℕ) → m < 2 → (x * 2 + m) / 2 ≡ x
halves x m h = omega arith

digits : (x m : ℕ) → m < 2 → (x * 2 + m) % 2 ≡ m
digits x m h = omega arith

or_half : (a b : ℕ) → bit_or a b / 2 ≡ bit_or (a / 2) (b / 2)
or_half a b =
    let p = digit a in
    let q = digit b in
    ap (λ (x : ℕ). x / 2) (or_step a b) ∙ halves (bit_or (a / 2) (b / 2)) (max (a % 2) (b % 2)) (omega arith)

or_digit : (a b : ℕ) → bit_or a b % 2 ≡ max (a % 2) (b % 2)
or_digit a b =
    let p = digit a in
    let q = digit b in
    ap (λ (x : ℕ). x % 2) (or_step a b) ∙ digits (bit_or (a / 2) (b / 2)) (max (a % 2) (b % 2)) (omega arith)

max_assoc : (a b c : ℕ) → max a (max b c) ≡ max (max a b) c
max_assoc a b c = omega arith

-- at most k digits
grouped : (k a b c : ℕ) → a < 2 ^ k → b < 2 ^ k → c < 2 ^ k → bit_or a (bit_or b c) ≡ bit_or (bit_or a b) c
grouped zero a b c h i j =
    let x : a ≡ 0 = omega arith in
    let y : b ≡ 0 = omega arith in
    let z : c ≡ 0 = omega arith in
    rw (x, y, z)
grouped (suc k) a b c h i j =
    let e = pow-suc 2 k in
    or_step a (bit_or b c)
    ∙ rw (or_half b c, or_digit b c, grouped k (a / 2) (b / 2) (c / 2) (omega arith) (omega arith) (omega arith), max_assoc (a % 2) (b % 2) (c % 2), ← or_half a b, ← or_digit a b)
    (sym (or_step (bit_or a b) c))

small : (n : ℕ) → n < 2 ^ n
small zero = omega arith
small (suc n) =
    let e = pow-suc 2 n in
    let h = small n in
    omega arith

pub or_assoc : (a b c : ℕ) → bit_or a (bit_or b c) ≡ bit_or (bit_or a b) c
or_assoc a b c =
    let h = small (a + b + c) in
    grouped (a + b + c) a b c (omega arith) (omega arith) (omega arith)

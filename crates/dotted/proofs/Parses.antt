-- The library's reader of addresses takes the texts that are sound.
use Rattle.std.proofs.Common.{◌≡◌, ◌∙◌, sym, subst, refl, ℕ, ◌<◌, Bool, true, false, List, [], ◌∷◌, append_assoc, arith, Some, None, zero, suc, ◌&&◌, ◌⊎◌, inl, inr}
use Rattle.std.specs.Prelude.{decimal, bytes_eq, Result, Err}
use Rattle.std.specs.Fmt.{digits}
use Rattle.std.proofs.lemmas.Bool.{cases_lt}
use Rattle.std.proofs.lemmas.Slice.Eq.{bytes_eq-Decides}
use Rattle.std.specs.Net.Grammar.{IsDotted, IsIpv4Text, Parses}
use Rattle.std.specs.Net.Text.{dotted_text}
use Rattle.std.specs.declared.net.ipv4_addr.Ipv4Addr.{Ipv4Addr}
use Rattle.laws.specs.Decimal.{decimal_of, decimal_within}
use Rattle.dotted.specs.Text.{dotted_of, text_of, address_in}
use Rattle.dotted.specs.Exact.{Spelled}
use Rattle.dotted.proofs.Exacts.{dotted_exact}

-- every number below k is written alike
alike : ℕ → Bool
alike zero = true
alike (suc n) = bytes_eq (decimal n) (decimal_of n) && alike n

all_alike : alike 256 ≡ true
unfolding alike digits decimal_of decimal_within
all_alike = refl

same_below : (n k : ℕ) → n < suc k → (n < k) ⊎ (n ≡ k)
same_below n k h = elim (cases_lt n k) [ inl a ↦ inl a | inr b ↦ inr (omega arith) ]

alike_below : (k n : ℕ) → n < k → alike k ≡ true → bytes_eq (decimal n) (decimal_of n) ≡ true
unfolding alike
alike_below zero n h e = absurd (omega arith)
alike_below (suc k) n h e =
    let P : ℕ → Type 0 = λ (m : ℕ). bytes_eq (decimal m) (decimal_of m) ≡ true in
    let p : bytes_eq (decimal k) (decimal_of k) ≡ true = grind arith in
    let q : alike k ≡ true = grind arith in
    elim (same_below n k h) [ inl b ↦ alike_below k n b q | inr b ↦ subst P (sym b) p ]

same_decimal : (n : ℕ) → n < 256 → decimal n ≡ decimal_of n
same_decimal n h = grind (arith, bytes_eq-Decides (decimal n) (decimal_of n), alike_below 256 n h all_alike)

same_text : (a b c d : ℕ) → a < 256 → b < 256 → c < 256 → d < 256 → dotted_text a b c d ≡ text_of (a ∷ b ∷ c ∷ d ∷ [])
unfolding text_of
same_text a b c d h i j k = rw (same_decimal a h, same_decimal b i, same_decimal c j, same_decimal d k) (simp append_assoc)

pub taken : (t o : List ℕ) → IsDotted t o → address_in (dotted_of t) ≡ Some o
taken t o s =
    let f = s.fit in
    rw (s.value, s.spelled, same_text s.a s.b s.c s.d f.0 f.1 f.2 f.3, dotted_exact.accepts s.a s.b s.c s.d (omega arith) (omega arith) (omega arith) (omega arith)) refl

dotted_from : (t o : List ℕ) → Spelled t o → IsDotted t o
dotted_from t [] s = absurd (let h = s.four in omega arith)
dotted_from t (a ∷ []) s = absurd (let h = s.four in omega arith)
dotted_from t (a ∷ b ∷ []) s = absurd (let h = s.four in omega arith)
dotted_from t (a ∷ b ∷ c ∷ []) s = absurd (let h = s.four in omega arith)
dotted_from t (a ∷ b ∷ c ∷ d ∷ []) s =
    let e = s.bytes in
    let h : a < 256 = grind arith in
    let i : b < 256 = grind arith in
    let j : c < 256 = grind arith in
    let k : d < 256 = grind arith in
    record { a = a; b = b; c = c; d = d; fit = (h, i, j, k); value = refl; spelled = s.text ∙ sym (same_text a b c d h i j k) }
dotted_from t (a ∷ b ∷ c ∷ d ∷ e ∷ o) s = absurd (let h = s.four in omega arith)

pub untaken : (t : List ℕ) → ((a : Ipv4Addr) → IsDotted t a.octets → ⊥) → address_in (dotted_of t) ≡ None
untaken t n = go (dotted_of t).sound refl
  where
    go : (b : Bool) → (dotted_of t).sound ≡ b → address_in (dotted_of t) ≡ None
    go true e = absurd (n (record { octets = (dotted_of t).address }) (dotted_from t (dotted_of t).address (dotted_exact.only t e)))
    go false e = rw e refl

pub unparsed : {E : Type 0} (t : List ℕ) (r : Result Ipv4Addr E) (e : E) → r ≡ Err e → Parses IsIpv4Text t r → address_in (dotted_of t) ≡ None
unparsed {E} t r e q p = untaken t (subst (λ (r : Result Ipv4Addr E). Parses IsIpv4Text t r) q p)

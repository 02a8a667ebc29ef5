-- A context's bytes, looked at one by one. Assumes nothing.
use Rattle.std.proofs.Common.{◌≡◌, ◌∙◌, refl, ap, ℕ, zero, suc, ◌-◌, Bool, true, false, not, ◌&&◌, ◌||◌, List, [], ◌∷◌, length, drop, replicate, fold, zip, eqb, ltb, leb, nat_eq, ltb-true, ltb-false, eqb-true, arith}
use Rattle.std.proofs.lemmas.Grind.{common_steps}
use Rattle.std.proofs.Math.Bool.{beq}
use Rattle.std.proofs.Math.Seq.{drop-nil}
use Rattle.std.specs.Cmp.Lexicographic.{pointwise}
use Rattle.laws.proofs.Conds.{and_left, and_right}
use Rattle.octets.specs.Zeros.{all_zero}
use Rattle.subscription.specs.Obeys.{is_free, is_context_kept}
use Rattle.subscription.specs.Scaffold.{zero_past, places}
use Rattle.subscription.specs.declared.Subscription.{Subscription}

-- all zero, as the comparison with zeros has it
pub blank : (n : ℕ) (l : List ℕ) → length l ≡ n → pointwise nat_eq l (replicate n 0) ≡ all_zero l
unfolding all_zero
blank zero [] e = refl
blank (suc n) [] e = absurd (omega arith)
blank zero (x ∷ l) e = absurd (omega arith)
blank (suc n) (x ∷ l) e = ap (λ (b : Bool). eqb x 0 && b) (blank n l (omega arith))

-- a table that counts up from n
unfoldable counts_up : ℕ → List ℕ → Bool
counts_up n [] = true
counts_up n (x ∷ l) = eqb x n && counts_up (suc n) l

group : (a b c : Bool) → ((a && b) && c) ≡ (a && (b && c))
group true b c = refl
group false b c = refl

-- the rest of a look at a context's bytes, from place n on
rest : (count n : ℕ) (l ps : List ℕ) → counts_up n ps ≡ true → length l ≡ length ps → (kept : Bool) → fold (zero_past count) kept (zip l ps) ≡ (kept && all_zero (drop (count - n) l))
unfolding counts_up all_zero
rest count n [] [] c e true = rw drop-nil
rest count n [] [] c e false = refl
rest count n [] (p ∷ ps) c e kept = absurd (omega arith)
rest count n (x ∷ l) [] c e kept = absurd (omega arith)
rest count n (x ∷ l) (p ∷ ps) c e kept =
    let at : p ≡ n = eqb-true p n (and_left (eqb p n) _ c) in
    rest count (suc n) l ps (and_right (eqb p n) _ c) (omega arith) (kept && (ltb p count || eqb x 0))
    ∙ group kept _ _
    ∙ ap (λ (b : Bool). kept && b) (rw at (go (ltb n count) refl))
  where
    go : (b : Bool) → ltb n count ≡ b → ((b || eqb x 0) && all_zero (drop (count - suc n) l)) ≡ all_zero (drop (count - n) (x ∷ l))
    go true h =
        let k : count - n ≡ suc (count - suc n) = omega (arith, ltb-true n count h) in
        rw k
    go false h =
        let k : count - n ≡ 0 = omega (arith, ltb-false n count h) in
        let j : count - suc n ≡ 0 = omega (arith, ltb-false n count h) in
        rw (k, j)

pub kept_is : (count : ℕ) (l : List ℕ) (b : Bool) → length l ≡ 64 → b ≡ fold (zero_past count) true (zip l places) → (leb count 64 && b) ≡ is_context_kept count l
unfolding is_context_kept counts_up
kept_is count l b e q =
    let k : count - 0 ≡ count = omega arith in
    ap (λ (b : Bool). leb count 64 && b) (q ∙ rest count 0 l places refl e true ∙ rw k)

-- an entry compared with the free one, field by field in the order of the struct
pub free_same : (s : Subscription) (r : Bool) → length s.context ≡ 64 → r ≡ (beq s.used false && (beq s.waiting false && (eqb s.connection 0 && (eqb s.context_count 0 && (eqb s.emitter 0 && (eqb s.event 0 && (eqb s.object 0 && (eqb s.method 0 && pointwise nat_eq s.context (replicate 64 0))))))))) → r ≡ is_free s
unfolding is_free
free_same s r l e =
    e ∙ rw (blank 64 s.context l) (go s.used s.waiting (eqb s.connection 0) (eqb s.context_count 0) (eqb s.emitter 0) (eqb s.event 0) (eqb s.object 0) (eqb s.method 0) (all_zero s.context))
  where
    go : (u w c n e v o m z : Bool) → (beq u false && (beq w false && (c && (n && (e && (v && (o && (m && z)))))))) ≡ (not u && not w && c && e && v && o && m && n && z)
    go u w c n e v o m z = grind (arith, common_steps)

-- Two runs of bytes compared. Assumes nothing.
use Prim.Native.Nat.{ℕ}
use mathlib.Core.Path.{◌≡◌, refl, sym, ap, ◌∙◌}
use mathlib.Core.Bool.{Bool, true, false, ◌&&◌}
use mathlib.Core.List.{List, [], ◌∷◌, ◌++◌}
use native.Mathlib.Omega.{arith}
use borrow.Author.Tests.{eqb-true, eq-eqb}
use lib.Dec.{eqb}
use lib.ListN.{length}
use Rattle.std.proofs.Common.{fold, zip}
use Rattle.laws.proofs.Conds.{and_left, and_right}
use Rattle.laws.proofs.Tables.{clash}
use Rattle.octets.specs.Same.{same_bytes}
use Rattle.octets.proofs.Scans.{and_true, and_assoc}

-- ---- what it says
pub same_are : (a b : List ℕ) → same_bytes a b ≡ true → a ≡ b
unfolding same_bytes
same_are [] [] e = refl
same_are [] (y ∷ b) e = clash _ false e refl
same_are (x ∷ a) [] e = clash _ false e refl
same_are (x ∷ a) (y ∷ b) e =
    let h : x ≡ y = eqb-true x y (and_left (eqb x y) (same_bytes a b) e) in
    ap (λ (z : ℕ). z ∷ a) h ∙ ap (λ (l : List ℕ). y ∷ l) (same_are a b (and_right (eqb x y) (same_bytes a b) e))

pub same_refl : (a : List ℕ) → same_bytes a a ≡ true
unfolding same_bytes
same_refl [] = refl
same_refl (x ∷ a) = rw (eq-eqb x x refl) (same_refl a)

pub same_append : (a b c d : List ℕ) → length a ≡ length b → same_bytes (a ++ c) (b ++ d) ≡ (same_bytes a b && same_bytes c d)
unfolding same_bytes
same_append [] [] c d e = refl
same_append [] (y ∷ b) c d e = absurd (omega arith)
same_append (x ∷ a) [] c d e = absurd (omega arith)
same_append (x ∷ a) (y ∷ b) c d e =
    ap (λ (t : Bool). eqb x y && t) (same_append a b c d (omega arith)) ∙ and_assoc (eqb x y) (same_bytes a b) (same_bytes c d)

pub same_long : (a b : List ℕ) → (length a ≡ length b → ⊥) → false ≡ same_bytes a b
unfolding same_bytes
same_long a b n = go (same_bytes a b) refl
  where
    go : (t : Bool) → same_bytes a b ≡ t → false ≡ t
    go true e = absurd (n (ap length (same_are a b e)))
    go false e = refl

-- a fold over both
both_from : (t : Bool) (a b : List ℕ) → length a ≡ length b
    → fold (λ (same : Bool) (pair : ℕ × ℕ). same && eqb pair.0 pair.1) t (zip a b) ≡ (t && same_bytes a b)
unfolding same_bytes
both_from t [] [] e = sym (and_true t)
both_from t [] (y ∷ b) e = absurd (omega arith)
both_from t (x ∷ a) [] e = absurd (omega arith)
both_from t (x ∷ a) (y ∷ b) e = both_from (t && eqb x y) a b (omega arith) ∙ sym (and_assoc t (eqb x y) (same_bytes a b))

pub same_fold : (a b : List ℕ) → length a ≡ length b
    → fold (λ (same : Bool) (pair : ℕ × ℕ). same && eqb pair.0 pair.1) true (zip a b) ≡ same_bytes a b
same_fold a b e = both_from true a b e

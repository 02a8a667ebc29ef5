-- What follows from the laws of the deciding byte. Assumes nothing.
use Prim.Native.Nat.{ℕ, ◌+◌, ◌-◌, ◌≤◌, ◌<◌}
use mathlib.Core.Path.{◌≡◌, refl, sym, ap, ◌∙◌}
use mathlib.Core.Bool.{Bool, true, false, true≢false}
use mathlib.Core.List.{List, [], ◌++◌}
use native.Mathlib.Omega.{arith}
use native.Mathlib.Decide.{dec_le}
use lib.ListN.{length, take, drop, take-append-drop}
use lib.Seq.{take-append-le, take-append-add}
use Rattle.frame.specs.Decide.{decide, taken, settled}
use Rattle.frame.proofs.Ways.{deciding}

-- no byte decides nothing
pub nil_waits : settled (decide []) ≡ false
nil_waits = go (settled (decide [])) refl
  where
    go : (b : Bool) → settled (decide []) ≡ b → b ≡ false
    go true e = absurd (omega (arith, deciding.some [] e, deciding.within []))
    go false e = refl

-- the front of undecided bytes is undecided
pub part_waits : (xs ys : List ℕ) → settled (decide (xs ++ ys)) ≡ false → settled (decide xs) ≡ false
part_waits xs ys u = go (settled (decide xs)) refl
  where
    go : (b : Bool) → settled (decide xs) ≡ b → b ≡ false
    go true e = sym (sym u ∙ ap settled (deciding.lasting xs ys e) ∙ e)
    go false e = refl

-- fewer bytes than it takes are undecided
pub before_waits : (xs : List ℕ) (j : ℕ) → j < taken (decide xs) → settled (decide (take j xs)) ≡ false
unfolding settled
before_waits xs j l = ap settled (deciding.before xs j l)

-- the deciding byte of undecided bytes and a piece is in the piece
pub beyond : (h p : List ℕ) → settled (decide h) ≡ false → settled (decide (h ++ p)) ≡ true → length h < taken (decide (h ++ p))
beyond h p u e = go (dec_le (taken (decide (h ++ p))) (length h))
  where
    k : ℕ
    k = taken (decide (h ++ p))

    go : Dec (k ≤ length h) → length h < k
    go (yes l) =
        let a : settled (decide (take k h)) ≡ false = part_waits (take k h) (drop k h) (rw take-append-drop u) in
        let b : settled (decide (take k h)) ≡ true = ap settled (rw (take-append-le k h p l) at (deciding.enough (h ++ p) e)) ∙ e in
        absurd (true≢false (sym b ∙ a))
    go (no f) = omega arith

-- so the message is what is held, and the first bytes of the piece
pub glued : (h p : List ℕ) → settled (decide h) ≡ false → settled (decide (h ++ p)) ≡ true
    → take (taken (decide (h ++ p))) (h ++ p) ≡ h ++ take (taken (decide (h ++ p)) - length h) p
glued h p u e =
    let k = taken (decide (h ++ p)) in
    let l = beyond h p u e in
    let i : k ≡ length h + (k - length h) = omega arith in
    ap (λ (j : ℕ). take j (h ++ p)) i ∙ take-append-add h p (k - length h)

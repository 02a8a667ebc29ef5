-- The byte of a piece that decides, alone behind those before it. Assumes nothing.
use Prim.Native.Nat.{ℕ, suc, ◌+◌, ◌-◌, ◌≤◌, ◌<◌}
use mathlib.Core.Path.{◌≡◌, sym, ap, ◌∙◌}
use mathlib.Core.Bool.{true, false}
use mathlib.Core.List.{List, [], ◌∷◌, ◌++◌, append_assoc}
use native.Mathlib.Omega.{arith}
use lib.ListN.{length, take, get_or, length-append}
use lib.Seq.{take-append-add, take-suc, take-take, length-take-le}
use Rattle.frame.specs.Decide.{decide, taken, settled}
use Rattle.frame.proofs.Ways.{deciding}
use Rattle.frame.proofs.Bytes.{before_waits, beyond}

-- x waits, and with the piece p behind it decides
module _ (x p : List ℕ) (w : settled (decide x) ≡ false) (e : settled (decide (x ++ p)) ≡ true) where
  -- how many bytes of the piece it takes
  abbrev pub needed : ℕ
  needed = taken (decide (x ++ p)) - length x

  pub needed_some : 0 < needed
  needed_some = omega (arith, beyond x p w e)

  pub needed_within : needed ≤ length p
  needed_within = omega (arith, deciding.within (x ++ p), length-append x p)

  abbrev pub before : List ℕ
  before = take (needed - 1) p

  abbrev pub last : ℕ
  last = get_or p (needed - 1) 0

  pub length_before : length before ≡ needed - 1
  length_before = length-take-le (needed - 1) p (omega (arith, needed_within))

  pub split : take needed p ≡ before ++ (last ∷ [])
  split =
      let j = needed - 1 in
      let s : suc j ≡ needed = omega (arith, needed_some) in
      ap (λ (k : ℕ). take k p) (sym s) ∙ take-suc p j 0 (omega (arith, needed_some, needed_within))

  pub before_undecided : settled (decide (x ++ before)) ≡ false
  before_undecided = rw (take-append-add x p (needed - 1)) at (before_waits (x ++ p) (length x + (needed - 1)) (omega (arith, beyond x p w e)))

  -- all of them are the front of x and the piece
  front : (x ++ before) ++ (last ∷ []) ≡ take (taken (decide (x ++ p))) (x ++ p)
  front =
      let n : length x + needed ≡ taken (decide (x ++ p)) = omega (arith, beyond x p w e) in
      append_assoc x before (last ∷ []) ∙ ap (λ (y : List ℕ). x ++ y) (sym split) ∙ sym (take-append-add x p needed)
      ∙ ap (λ (k : ℕ). take k (x ++ p)) n

  pub last_decides : decide ((x ++ before) ++ (last ∷ [])) ≡ decide (x ++ p)
  last_decides = ap decide front ∙ deciding.enough (x ++ p) e

  pub whole_message : take (taken (decide ((x ++ before) ++ (last ∷ [])))) ((x ++ before) ++ (last ∷ [])) ≡ take (taken (decide (x ++ p))) (x ++ p)
  whole_message =
      let k = taken (decide (x ++ p)) in
      rw (last_decides, front) (take-take k k (x ++ p) (omega arith))

  pub last_needed : taken (decide ((x ++ before) ++ (last ∷ []))) - length (x ++ before) ≡ 1
  last_needed = rw last_decides (omega (arith, length-append x before, length_before, needed_some, beyond x p w e))

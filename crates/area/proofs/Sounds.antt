-- Laws of the area's check. Assumes nothing.
use Prim.Native.Nat.{ℕ, ◌<◌}
use mathlib.Core.Path.{◌≡◌, refl, sym, ap, ◌∙◌}
use mathlib.Core.List.{List, ◌∷◌, ◌++◌}
use mathlib.Core.Bool.{Bool, true, false, ◌&&◌}
use native.Mathlib.Omega.{arith}
use lib.ListN.{length, take, drop}
use lib.Seq.{take_all, take-append_seam, drop-append_seam}
use Rattle.octets.specs.Zeros.{all_zero}
use Rattle.frame.specs.Limits.{greatest_size}
use Rattle.frame.specs.Decide.{decide, settled}
use Rattle.frame.specs.declared.Decision.TheVariants.{Undecided}
use Rattle.frame.proofs.Ways.{deciding, unsettled}
use Rattle.area.specs.Area.{part_bytes, part_sound, parts_sound}

pub part_waits : (k : ℕ) (part : List ℕ) → decide (take k part) ≡ Undecided → part_sound k part ≡ all_zero (drop k part)
unfolding part_sound settled
part_waits k part e = rw e

pub part_decided : (k : ℕ) (part : List ℕ) → settled (decide (take k part)) ≡ true → part_sound k part ≡ false
unfolding part_sound
part_decided k part e = rw e

-- 2,049 bytes always decide
pub part_long : (k : ℕ) (part : List ℕ) → length part ≡ part_bytes → greatest_size < k → part_sound k part ≡ false
part_long k part l h = go (settled (decide (take k part))) refl
  where
    go : (b : Bool) → settled (decide (take k part)) ≡ b → part_sound k part ≡ false
    go true e = part_decided k part e
    go false e =
        let q : length (take k part) ≡ part_bytes = rw (take_all k part (omega arith)) l in
        absurd (omega (arith, deciding.short (take k part) (unsettled (decide (take k part)) e)))

-- the first part, and those behind it
pub parts_next : (held area part kept rest : List ℕ) {k : ℕ} {b : Bool} → held ≡ k ∷ kept → area ≡ part ++ rest
    → length part ≡ part_bytes → b ≡ part_sound k part → parts_sound held area ≡ (b && parts_sound kept rest)
unfolding parts_sound
parts_next held area part kept rest {k} {b} eh ea l eb =
    let t : take part_bytes (part ++ rest) ≡ part = ap (λ (n : ℕ). take n (part ++ rest)) (sym l) ∙ take-append_seam part rest in
    let d : drop part_bytes (part ++ rest) ≡ rest = ap (λ (n : ℕ). drop n (part ++ rest)) (sym l) ∙ drop-append_seam part rest in
    rw (eh, ea, eb, t, d) refl

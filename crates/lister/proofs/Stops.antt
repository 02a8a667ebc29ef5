-- What the fault of some bytes says of their decision. Assumes nothing.
use Prim.Native.Nat.{ℕ}
use mathlib.Core.Path.{◌≡◌, refl}
use mathlib.Core.List.{List}
use mathlib.Core.Bool.{Bool}
use native.Mathlib.Omega.{arith}
use Rattle.std.specs.Prelude.{None}
use Rattle.frame.specs.Decide.{decide}
use Rattle.frame.specs.declared.Decision.{Decision}
use Rattle.frame.specs.declared.Decision.TheVariants.{Undecided, Faulty, Sound}
use Rattle.lister.specs.Listing.{last_by}
use Rattle.lister.specs.Pieces.{over_by}
use Rattle.lister.specs.Scaffold.{fault_by, stopped_by}
use Rattle.lister.proofs.Walks.{Unsound}

module _ (s : List ℕ) where
  pub stopped_over : (end : Bool) → over_by end (stopped_by (fault_by (decide s))) ≡ over_by end (decide s)
  unfolding fault_by stopped_by over_by
  stopped_over end = go (decide s)
    where
      go : (d : Decision) → over_by end (stopped_by (fault_by d)) ≡ over_by end d
      go Undecided = refl
      go (Faulty f n) = refl
      go (Sound n) = refl

  module _ (u : Unsound s) where
    pub stopped_last : (at left : ℕ) → last_by (stopped_by (fault_by (decide s))) at left ≡ last_by (decide s) at left
    unfolding fault_by stopped_by last_by
    stopped_last at left = go (decide s) u
      where
        go : (d : Decision) → ((n : ℕ) → d ≡ Sound n → ⊥) → last_by (stopped_by (fault_by d)) at left ≡ last_by d at left
        go Undecided x = refl
        go (Faulty f n) x = refl
        go (Sound n) x = absurd (x n refl)

    -- without a fault they are undecided
    pub stopped_short : fault_by (decide s) ≡ None → decide s ≡ Undecided
    unfolding fault_by
    stopped_short = go (decide s) u
      where
        go : (d : Decision) → ((n : ℕ) → d ≡ Sound n → ⊥) → fault_by d ≡ None → d ≡ Undecided
        go Undecided x e = refl
        go (Faulty f n) x e = absurd (let z : ◌≡◌ {A = ℕ} 0 1 = cc in omega arith)
        go (Sound n) x e = absurd (x n refl)

-- Each entry compared with those before it, from the last down. Assumes nothing.
use Rattle.std.proofs.Common.{◌≡◌, ◌∙◌, refl, sym, Bool, true, false, ◌&&◌, List, [], ◌∷◌, ◌++◌}
use Rattle.laws.specs.Lists.{all, all_pairs}
use Rattle.laws.proofs.Loops.{pairs_last}
use Rattle.subscription.specs.State.{is_twin}
use Rattle.subscription.specs.Obeys.{apart}
use Rattle.subscription.specs.Scaffold.{is_apart_of}
use Rattle.subscription.specs.declared.Subscription.{Subscription}

unused : (s x : Subscription) → s.used ≡ false → apart x s ≡ true
unfolding apart is_twin
unused s x u = go x.used refl
  where
    go : (a : Bool) → x.used ≡ a → apart x s ≡ true
    go true e = rw (e, u)
    go false e = rw e

pub apart_unused : (s : Subscription) (l : List Subscription) → s.used ≡ false → true ≡ all (is_apart_of s) l
apart_unused s [] u = refl
apart_unused s (x ∷ l) u = rw (unused s x u, ← apart_unused s l u)

module _ (l rest before : List Subscription) (s : Subscription) (m : all_pairs apart l ≡ all_pairs apart rest) (e : rest ≡ before ++ (s ∷ [])) (b : Bool) (q : b ≡ all (is_apart_of s) before) where
  split : all_pairs apart l ≡ (all_pairs apart before && b)
  split = m ∙ rw e (pairs_last apart before s ∙ rw (← q))

  pub last_apart : b ≡ true → all_pairs apart l ≡ all_pairs apart before
  last_apart t = split ∙ rw t (both (all_pairs apart before))
    where
      both : (a : Bool) → (a && true) ≡ a
      both true = refl
      both false = refl

  pub last_twin : b ≡ false → false ≡ all_pairs apart l
  last_twin t = sym (split ∙ rw t (none (all_pairs apart before)))
    where
      none : (a : Bool) → (a && false) ≡ false
      none true = refl
      none false = refl

-- Closed connections' counts and parts cleared again, and where there is nothing to clear. No code is named. Assumes nothing.
use Prim.Native.Nat.{ℕ, zero, suc, ◌+◌, ◌<◌}
use mathlib.Core.Path.{◌≡◌, refl, sym, ap, ◌∙◌}
use mathlib.Core.Bool.{Bool, cond, true, false, true≢false}
use mathlib.Core.List.{List, [], ◌∷◌, map}
use native.Mathlib.Omega.{arith}
use native.Mathlib.Nat.{le_of_suc-le-suc}
use lib.ListN.{length, set, get_or}
use lib.Seq.{sets, set-set}
use borrow.Author.Tests.{eqb-true}
use Rattle.laws.proofs.Conds.{and_left, and_right}
use Rattle.laws.proofs.Stores.{sets_comm}
use Rattle.octets.specs.Zeros.{zeros}
use Rattle.octets.proofs.Scans.{length_zeros}
use Rattle.area.specs.Area.{part_bytes, part_at, area_sound, part_cleared, cleared_from, closed_cleared, held_kept, count_obeys, held_obeys}
use Rattle.area.proofs.Clears.{used_cleared}
use Rattle.area.proofs.Lies.{lies}

-- a run of stores made again
sets_again : (vs l : List ℕ) (i : ℕ) → sets (sets l i vs) i vs ≡ sets l i vs
sets_again [] l i = refl
sets_again (v ∷ vs) l i =
    let m = set l i v in
    let e : set (sets m (suc i) vs) i v ≡ sets m (suc i) vs =
    sym (sets_comm (v ∷ []) vs m i (suc i) (omega arith)) ∙ ap (λ (x : List ℕ). sets x (suc i) vs) (set-set l i v v) in
    ap (λ (x : List ℕ). sets x (suc i) vs) e ∙ sets_again vs m (suc i)

part_again : (area : List ℕ) (n : ℕ) → part_cleared (part_cleared area n) n ≡ part_cleared area n
unfolding part_cleared
part_again area n = sets_again (zeros part_bytes) area (part_at n)

part_swap : (area : List ℕ) (n m : ℕ) → n < m → part_cleared (part_cleared area m) n ≡ part_cleared (part_cleared area n) m
unfolding part_cleared
part_swap area n m h =
    sym (sets_comm (zeros part_bytes) (zeros part_bytes) area (part_at n) (part_at m) (omega (arith, length_zeros part_bytes)))

-- a part in front of those that are gone through
part_past : (lives : List Bool) (area : List ℕ) (n m : ℕ) → n < m → part_cleared (cleared_from m lives area) n ≡ cleared_from m lives (part_cleared area n)
unfolding cleared_from
part_past [] area n m h = refl
part_past (true ∷ lives) area n m h = part_past lives area n (suc m) (omega arith)
part_past (false ∷ lives) area n m h =
    part_past lives (part_cleared area m) n (suc m) (omega arith) ∙ ap (cleared_from (suc m) lives) (part_swap area n m h)

-- ---- who is open by q is open by p: what p leaves, and q of that, is what q leaves
module _ {A : Type 0} (p q : A → Bool) (fewer : (x : A) → q x ≡ true → p x ≡ true) where
  pub held_again : (l : List A) (held : List ℕ) → held_kept (map q l) (held_kept (map p l) held) ≡ held_kept (map q l) held
  unfolding held_kept
  held_again [] held = refl
  held_again (x ∷ l) [] = refl
  held_again (x ∷ l) (k ∷ held) = rw (held_again l held) (go (p x) refl (q x) refl)
    where
      go : (a : Bool) → p x ≡ a → (b : Bool) → q x ≡ b
          → cond (q x) (cond (p x) k 0) 0 ∷ held_kept (map q l) held ≡ cond (q x) k 0 ∷ held_kept (map q l) held
      go true e b f = rw e
      go false e true f = absurd (true≢false (sym (fewer x f) ∙ e))
      go false e false f = rw (e, f)

  cleared_from_lem : (l : List A) (area : List ℕ) (n : ℕ) → cleared_from n (map q l) (cleared_from n (map p l) area) ≡ cleared_from n (map q l) area
  unfolding cleared_from
  cleared_from_lem [] area n = refl
  cleared_from_lem (x ∷ l) area n = go (p x) refl (q x) refl (λ a. cleared_from_lem l a (suc n))
    where
      go : (a : Bool) → p x ≡ a → (b : Bool) → q x ≡ b
          → ((a : List ℕ) → cleared_from (suc n) (map q l) (cleared_from (suc n) (map p l) a) ≡ cleared_from (suc n) (map q l) a)
          → cleared_from n (map q (x ∷ l)) (cleared_from n (map p (x ∷ l)) area) ≡ cleared_from n (map q (x ∷ l)) area
      go true e true f more = rw (e, f) (more area)
      go true e false f more =
          rw (e, f) (ap (cleared_from (suc n) (map q l)) (part_past (map p l) area n (suc n) (omega arith)) ∙ more (part_cleared area n))
      go false e true f more = absurd (true≢false (sym (fewer x f) ∙ e))
      go false e false f more =
          rw (e, f)
          (ap (cleared_from (suc n) (map q l))
          (part_past (map p l) (part_cleared area n) n (suc n) (omega arith) ∙ ap (cleared_from (suc n) (map p l)) (part_again area n))
          ∙ more (part_cleared area n))

  pub cleared_again : (l : List A) (area : List ℕ) → closed_cleared (map q l) (closed_cleared (map p l) area) ≡ closed_cleared (map q l) area
  unfolding closed_cleared
  cleared_again l area = cleared_from_lem l area 0

-- ---- counts that obey, and an area that refusal 2 lets pass
pub held_same : (lives : List Bool) (held : List ℕ) → held_obeys lives held ≡ true → held_kept lives held ≡ held
unfolding held_kept held_obeys count_obeys
held_same [] held o = refl
held_same (b ∷ lives) [] o = refl
held_same (true ∷ lives) (k ∷ held) o =
    ap (λ (l : List ℕ). k ∷ l) (held_same lives held (and_right (count_obeys true k) (held_obeys lives held) o))
held_same (false ∷ lives) (k ∷ held) o =
    rw (held_same lives held (and_right (count_obeys false k) (held_obeys lives held) o))
    (ap (λ (j : ℕ). j ∷ held) (sym (eqb-true k 0 (and_left (count_obeys false k) (held_obeys lives held) o))))

-- a connection that is not open has no count
none_held : (lives : List Bool) (held : List ℕ) (n : ℕ) → held_obeys lives held ≡ true → n < length lives → get_or lives n false ≡ false → get_or held n 0 ≡ 0
unfolding held_obeys count_obeys
none_held [] held n o h e = absurd (omega arith)
none_held (b ∷ lives) [] n o h e = refl
none_held (true ∷ lives) (k ∷ held) zero o h e = absurd (true≢false e)
none_held (false ∷ lives) (k ∷ held) zero o h e = eqb-true k 0 (and_left (count_obeys false k) (held_obeys lives held) o)
none_held (b ∷ lives) (k ∷ held) (suc n) o h e = none_held lives held n (and_right (count_obeys b k) (held_obeys lives held) o) (le_of_suc-le-suc h) e

-- parts that are all zeros where they are cleared
from_same : (lives : List Bool) (area : List ℕ) (n : ℕ) → ((i : ℕ) → i < length lives → get_or lives i false ≡ false → part_cleared area (n + i) ≡ area)
    → cleared_from n lives area ≡ area
unfolding cleared_from
from_same [] area n f = refl
from_same (b ∷ lives) area n f = ap (cleared_from (suc n) lives) (go b refl) ∙ from_same lives area (suc n) rest
  where
    go : (t : Bool) → b ≡ t → cond b area (part_cleared area n) ≡ area
    go true e = rw e
    go false e =
        let z : n + 0 ≡ n = omega arith in
        rw e (rw z at (f 0 (omega arith) e))

    rest : (i : ℕ) → i < length lives → get_or lives i false ≡ false → part_cleared area (suc n + i) ≡ area
    rest i h e =
        let z : n + suc i ≡ suc n + i = omega arith in
        rw z at (f (suc i) (omega arith) e)

module _ (lives : List Bool) (held area : List ℕ) (o : held_obeys lives held ≡ true) (s : area_sound held area ≡ true) (l : length lives ≡ 8) (m : length held ≡ 8) where
  -- its part is all zeros already
  part_same : (n : ℕ) → n < 8 → get_or lives n false ≡ false → part_cleared area n ≡ area
  unfolding zeros
  part_same n h e =
      let y = lies lives held area n o s h l m in
      let z : get_or held n 0 ≡ 0 = none_held lives held n o (omega arith) e in
      sym (used_cleared area n 0 (omega (arith, y.long)) (omega arith) (rw z at y.zeroed))

  pub cleared_same : closed_cleared lives area ≡ area
  unfolding closed_cleared
  cleared_same = from_same lives area 0 (λ i h e. let z : 0 + i ≡ i = omega arith in rw z (part_same i (omega arith) e))

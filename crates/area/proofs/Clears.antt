-- Laws of clearing the parts of closed connections. Assumes nothing.
use Prim.Native.Nat.{ℕ, suc, ◌+◌, ◌-◌, ◌≤◌, ◌<◌}
use mathlib.Core.Path.{◌≡◌, refl, sym, ap, ◌∙◌}
use mathlib.Core.List.{List, ◌++◌}
use mathlib.Core.Bool.{Bool, cond, true, false}
use native.Mathlib.Omega.{arith}
use native.Mathlib.Numerals.{add-one}
use lib.ListN.{length, take, drop, get_or, drop_of_length-le}
use lib.Seq.{sets, drop-cons, drop-drop, length-sets}
use Rattle.laws.proofs.Parts.{drop_take}
use Rattle.laws.proofs.Stores.{drop_sets, sets_append, sets_same}
use Rattle.octets.proofs.Scans.{length_zeros, zeros_append, drop_zeros}
use Rattle.octets.specs.Zeros.{zeros}
use Rattle.area.specs.Area.{part_bytes, area_bytes, part_at, part_cleared, cleared_from, closed_cleared}
use Rattle.area.specs.Scaffold.{ZerosBehind}

pub length_cleared : (area : List ℕ) (n : ℕ) → length (part_cleared area n) ≡ length area
unfolding part_cleared
length_cleared area n = length-sets area (part_at n) (zeros part_bytes)

-- zeros in front of zeros clear the part
pub used_cleared : (area : List ℕ) (n u : ℕ) → part_at n + part_bytes ≤ length area → u ≤ part_bytes → ZerosBehind area n u
    → sets area (part_at n) (zeros u) ≡ part_cleared area n
unfolding part_cleared
used_cleared area n u h f z =
    let b = part_at n in
    let c = sets area b (zeros u) in
    let l : length (zeros u) ≡ u = length_zeros u in
    let lc : length c ≡ length area = length-sets area b (zeros u) in
    let e : zeros part_bytes ≡ zeros u ++ zeros (part_bytes - u) =
    let q : part_bytes ≡ u + (part_bytes - u) = omega arith in
    ap zeros q ∙ sym (zeros_append u (part_bytes - u)) in
    let d : drop (b + u) c ≡ drop (b + u) area = drop_sets (zeros u) area b (b + u) (omega arith) in
    let y : zeros (part_bytes - u) ≡ take (part_bytes - u) (drop (b + u) c) = sym (ap (take (part_bytes - u)) d ∙ z) in
    sym (ap (sets area b) e ∙ sets_append (zeros u) (zeros (part_bytes - u)) area b ∙ rw l (ap (sets c (b + u)) y ∙ sets_same c (b + u) (part_bytes - u) (omega arith)))

-- further back they are zeros too
pub zeros_further : (area : List ℕ) (n k u : ℕ) → k ≤ u → u ≤ part_bytes → ZerosBehind area n k → ZerosBehind area n u
zeros_further area n k u h f z =
    let b = part_at n in
    let m = u - k in
    let p : part_bytes - k - m ≡ part_bytes - u = omega arith in
    let q : b + k + m ≡ b + u = omega arith in
    let x : drop m (take (part_bytes - k) (drop (b + k) area)) ≡ take (part_bytes - u) (drop (b + u) area) =
    drop_take m (part_bytes - k) (drop (b + k) area) ∙ rw (p, drop-drop m (b + k) area, q) refl in
    sym x ∙ ap (drop m) z ∙ drop_zeros m (part_bytes - k) ∙ ap zeros p

pub length_unless : (live : Bool) (area : List ℕ) (n : ℕ) → length (cond live area (part_cleared area n)) ≡ length area
length_unless true area n = refl
length_unless false area n = length_cleared area n

-- the loop: n parts are done
pub record Clearing (n : ℕ) (lives : List Bool) (first area : List ℕ) : Type 0 where
  pub low : n ≤ 8
  pub size : length lives ≡ 8
  pub long : length area ≡ area_bytes
  pub is : closed_cleared lives first ≡ cleared_from n (drop n lives) area

pub clearing_none : (lives : List Bool) (area : List ℕ) → length lives ≡ 8 → length area ≡ area_bytes → Clearing 0 lives area area
unfolding closed_cleared
clearing_none lives area h l = record { low = omega arith; size = h; long = l; is = refl }

clearing_more : (n : ℕ) (lives : List Bool) (d : Bool) (first area next : List ℕ) → Clearing n lives first area → n < 8
    → next ≡ cond (get_or lives n d) area (part_cleared area n) → Clearing (n + 1) lives first next
unfolding cleared_from
clearing_more n lives d first area next w h q =
    let l : n < length lives = omega (arith, w.size) in
    let e : n + 1 ≡ suc n = add-one n in
    let s : cleared_from n (drop n lives) area ≡ cleared_from (suc n) (drop (suc n) lives) next = rw (drop-cons lives n d l, q) in
    record {
      low = omega arith;
      size = w.size;
      long = ap length q ∙ length_unless (get_or lives n d) area n ∙ w.long;
      is = w.is ∙ s ∙ ap (λ (k : ℕ). cleared_from k (drop k lives) next) (sym e);
    }

-- its connection is open, and not
pub clearing_open : (n : ℕ) (lives : List Bool) (d : Bool) (first area : List ℕ) → Clearing n lives first area → n < 8
    → get_or lives n d ≡ true → Clearing (n + 1) lives first area
clearing_open n lives d first area w h e = clearing_more n lives d first area area w h (rw e refl)

pub clearing_closed : (n : ℕ) (lives : List Bool) (d : Bool) (first area next : List ℕ) → Clearing n lives first area → n < 8
    → get_or lives n d ≡ false → next ≡ part_cleared area n → Clearing (n + 1) lives first next
clearing_closed n lives d first area next w h e q = clearing_more n lives d first area next w h (rw e q)

pub clearing_all : (n : ℕ) (lives : List Bool) (first area : List ℕ) → Clearing n lives first area → 8 ≤ n → area ≡ closed_cleared lives first
unfolding cleared_from
clearing_all n lives first area w h =
    let l : length lives ≤ n = omega (arith, w.size) in
    sym (w.is ∙ rw (drop_of_length-le lives l))

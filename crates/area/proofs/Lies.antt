-- What counts that obey and an area that refusal 2 lets pass say of one connection. Assumes nothing.
use Prim.Native.Nat.{ℕ, zero, suc, ◌+◌, ◌-◌, ◌≤◌, ◌<◌}
use mathlib.Core.Path.{◌≡◌, sym, ap, ◌∙◌}
use mathlib.Core.Bool.{Bool, cond, true, false, not, true≢false}
use mathlib.Core.List.{List, [], ◌∷◌}
use native.Mathlib.Omega.{arith}
use native.Mathlib.Nat.{not-suc-le-zero, le_of_suc-le-suc}
use lib.Dec.{eqb}
use lib.ListN.{length, take, drop, get_or, length-drop}
use lib.Seq.{take-take, drop-drop, length-take-le}
use borrow.Author.Tests.{leb-true, eqb-true, not-true}
use Rattle.laws.proofs.Conds.{and_left, and_right, cond_left}
use Rattle.laws.proofs.Parts.{drop_take}
use Rattle.octets.specs.Zeros.{zeros, all_zero}
use Rattle.octets.proofs.Scans.{zeros_of_all}
use Rattle.frame.specs.Limits.{greatest_size}
use Rattle.frame.specs.Decide.{decide, settled}
use Rattle.area.specs.Area.{part_bytes, area_bytes, part_at, part_sound, parts_sound, area_sound, undecided_of, count_obeys, held_obeys}
use Rattle.area.specs.Scaffold.{ZerosBehind, Lying}

-- an area that refusal 2 lets pass is as long as it is to be
pub area_long : (held area : List ℕ) → area_sound held area ≡ true → length area ≡ area_bytes
unfolding area_sound
area_long held area e =
    eqb-true (length area) area_bytes
    (cond_left (eqb (length area) area_bytes) (parts_sound held area) false true e (λ q. true≢false (sym q))).0

count_few : (live : Bool) (k : ℕ) → count_obeys live k ≡ true → k ≤ greatest_size
unfolding count_obeys
count_few true k e = leb-true k greatest_size e
count_few false k e = omega (arith, eqb-true k 0 e)

held_few : (lives : List Bool) (held : List ℕ) (n : ℕ) → held_obeys lives held ≡ true → n < length lives → get_or held n 0 ≤ greatest_size
unfolding held_obeys
held_few [] held n e h = absurd (not-suc-le-zero h)
held_few (b ∷ lives) [] n e h = omega arith
held_few (b ∷ lives) (k ∷ held) zero e h = count_few b k (and_left (count_obeys b k) (held_obeys lives held) e)
held_few (b ∷ lives) (k ∷ held) (suc n) e h = held_few lives held n (and_right (count_obeys b k) (held_obeys lives held) e) (le_of_suc-le-suc h)

pub part_at_lem : (held area : List ℕ) (n : ℕ) → parts_sound held area ≡ true → n < length held
    → part_sound (get_or held n 0) (take part_bytes (drop (part_at n) area)) ≡ true
unfolding parts_sound
part_at_lem [] area n e h = absurd (not-suc-le-zero h)
part_at_lem (k ∷ held) area zero e h = and_left (part_sound k (take part_bytes area)) (parts_sound held (drop part_bytes area)) e
part_at_lem (k ∷ held) area (suc n) e h =
    let p : part_bytes + part_at n ≡ part_at (suc n) = omega arith in
    let r = part_at_lem held (drop part_bytes area) n (and_right (part_sound k (take part_bytes area)) (parts_sound held (drop part_bytes area)) e) (le_of_suc-le-suc h) in
    rw (drop-drop (part_at n) part_bytes area, p) at r

sounds : (b p : Bool) → cond b p false ≡ true → p ≡ true
sounds true p e = e
sounds false p e = absurd (true≢false (sym e))

waits_at : (held area : List ℕ) (n : ℕ) → area_sound held area ≡ true → n < length held → get_or held n 0 ≤ greatest_size
    → settled (decide (undecided_of area n (get_or held n 0))) ≡ false
unfolding area_sound undecided_of part_sound
waits_at held area n e h f =
    let k = get_or held n 0 in
    let x = drop (part_at n) area in
    let s = sounds (eqb (length area) area_bytes) (parts_sound held area) e in
    let t : take k (take part_bytes x) ≡ take k x = take-take k part_bytes x (omega arith) in
    not-true (settled (decide (take k x)))
    (rw t at (and_left (not (settled (decide (take k (take part_bytes x))))) (all_zero (drop k (take part_bytes x))) (part_at_lem held area n s h)))

zeroed_at : (held area : List ℕ) (n : ℕ) → area_sound held area ≡ true → n < length held → n < 8 → length area ≡ area_bytes → get_or held n 0 ≤ greatest_size
    → ZerosBehind area n (get_or held n 0)
unfolding area_sound part_sound
zeroed_at held area n e h n8 l f =
    let k = get_or held n 0 in
    let x = drop (part_at n) area in
    let s = sounds (eqb (length area) area_bytes) (parts_sound held area) e in
    let z = and_right (not (settled (decide (take k (take part_bytes x))))) (all_zero (drop k (take part_bytes x))) (part_at_lem held area n s h) in
    let q : drop k (take part_bytes x) ≡ take (part_bytes - k) (drop (part_at n + k) area) =
    drop_take k part_bytes x ∙ ap (take (part_bytes - k)) (drop-drop k (part_at n) area) in
    let m : length (take (part_bytes - k) (drop (part_at n + k) area)) ≡ part_bytes - k =
    length-take-le (part_bytes - k) (drop (part_at n + k) area) (rw length-drop (omega arith)) in
    sym q ∙ zeros_of_all (drop k (take part_bytes x)) z ∙ ap zeros (ap length q ∙ m)

pub lies : (lives : List Bool) (held area : List ℕ) (n : ℕ) → held_obeys lives held ≡ true → area_sound held area ≡ true → n < 8
    → length lives ≡ 8 → length held ≡ 8 → Lying area n (get_or held n 0)
lies lives held area n o a h l m =
    let f = held_few lives held n o (omega arith) in
    let g = area_long held area a in
    record {
      number = h;
      long = g;
      few = f;
      waiting = waits_at held area n a (omega arith) f;
      zeroed = zeroed_at held area n a (omega arith) h g f;
    }

-- Laws of gathering a piece behind undecided bytes. Assumes nothing.
use Prim.Native.Nat.{ℕ, ◌+◌, ◌-◌, ◌≤◌, ◌<◌, min}
use mathlib.Core.Path.{◌≡◌, refl, sym, ap, ◌∙◌}
use mathlib.Core.Bool.{Bool, true, false}
use mathlib.Core.List.{List, ◌++◌, append_assoc}
use native.Mathlib.Omega.{arith}
use native.Mathlib.Decide.{dec_le}
use lib.ListN.{length, take, drop, length-append, length-take, length-drop, take-append-drop}
use lib.Seq.{sets, sets-eq, length-sets, take_all, take_at, take-take, take-append-le, drop-append-le, length-take-le, take-length}
use Rattle.laws.proofs.Parts.{drop_take}
use Rattle.laws.proofs.Stores.{take_sets, drop_sets}
use Rattle.octets.specs.Zeros.{zeros}
use Rattle.octets.proofs.Scans.{length_zeros}
use Rattle.frame.specs.Limits.{greatest_size}
use Rattle.frame.specs.Decide.{decide, taken, settled}
use Rattle.frame.specs.declared.Decision.TheVariants.{Undecided, Sound}
use Rattle.frame.proofs.Ways.{deciding, unsettled}
use Rattle.frame.proofs.Sounds.{sound_at}
use Rattle.frame.proofs.Bytes.{beyond}
use Rattle.area.specs.Area.{part_bytes, part_at, undecided_of, part_cleared}
use Rattle.area.specs.Scaffold.{ZerosBehind, Lying, MessageLies, gathered}
use Rattle.area.proofs.Clears.{zeros_further}

take_min : (a : ℕ) (l : List ℕ) → take (min a (length l)) l ≡ take a l
take_min a l = go (dec_le (length l) a)
  where
    go : Dec (length l ≤ a) → take (min a (length l)) l ≡ take a l
    go (yes h) =
        let e : min a (length l) ≡ length l = omega arith in
        rw (e, take-length, take_all a l h)
    go (no h) = let e : min a (length l) ≡ a = omega arith in rw e

-- the front of what lies from b on, where p was stored behind its first k
front_sets : (a p : List ℕ) (b k : ℕ) → b + k + length p ≤ length a → take (k + length p) (drop b (sets a (b + k) p)) ≡ take k (drop b a) ++ p
front_sets a p b k h =
    let f : length (take (b + k) a) ≡ b + k = length-take-le (b + k) a (omega arith) in
    let z : b + k - b ≡ k = omega arith in
    let g : drop b (take (b + k) a) ≡ take k (drop b a) = drop_take b (b + k) a ∙ ap (λ (j : ℕ). take j (drop b a)) z in
    let r = drop (b + k + length p) a in
    let e : sets a (b + k) p ≡ take (b + k) a ++ (p ++ r) = sets-eq p a (b + k) h ∙ append_assoc (take (b + k) a) p r in
    let d : drop b (sets a (b + k) p) ≡ (take k (drop b a) ++ p) ++ r =
    ap (drop b) e ∙ drop-append-le b (take (b + k) a) (p ++ r) (omega arith) ∙ ap (λ (l : List ℕ). l ++ (p ++ r)) g
    ∙ sym (append_assoc (take k (drop b a)) p r) in
    let m : length (take k (drop b a) ++ p) ≡ k + length p =
    length-append (take k (drop b a)) p ∙ ap (λ (j : ℕ). j + length p) (length-take-le k (drop b a) (rw length-drop (omega arith))) in
    ap (take (k + length p)) d ∙ take_at (take k (drop b a) ++ p) r (k + length p) m

-- the copy of what fits
pub copied : (area : List ℕ) (n k : ℕ) (piece a : List ℕ) → a ≡ sets area (part_at n + k) (take (min (part_bytes - k) (length piece)) piece)
    → a ≡ gathered area n k piece
unfolding gathered
copied area n k piece a e = e ∙ rw (take_min (part_bytes - k) piece)

module _ (area : List ℕ) (n k : ℕ) (w : Lying area n k) where
  pub room : part_at n + part_bytes ≤ length area
  room = omega (arith, w.number, w.long)

  x : List ℕ
  x = undecided_of area n k

  pub length_undecided : length (undecided_of area n k) ≡ k
  unfolding undecided_of
  length_undecided = length-take-le k (drop (part_at n) area) (rw length-drop (omega (arith, room, w.few)))

  module _ (piece : List ℕ) where
    p : List ℕ
    p = take (part_bytes - k) piece

    length_p : length p ≡ min (part_bytes - k) (length piece)
    unfolding p
    length_p = length-take (part_bytes - k) piece

    -- what is looked at after the copy
    pub looked : take (k + min (part_bytes - k) (length piece)) (drop (part_at n) (gathered area n k piece)) ≡ undecided_of area n k ++ take (part_bytes - k) piece
    unfolding gathered undecided_of p
    looked =
        rw (← length_p) (front_sets area (take (part_bytes - k) piece) (part_at n) k (omega (arith, length_p, room, w.few)))

    long_p : length (x ++ p) ≡ k + length p
    unfolding x
    long_p = omega (arith, length-append x p, length_undecided)

    -- where the gathered bytes wait, the piece was taken whole
    pub whole_piece : settled (decide (undecided_of area n k ++ take (part_bytes - k) piece)) ≡ false → take (part_bytes - k) piece ≡ piece
    unfolding x p
    whole_piece u =
        let s = deciding.short (x ++ p) (unsettled (decide (x ++ p)) u) in
        let m : length piece ≤ part_bytes - k = omega (arith, long_p, length_p, w.few) in
        take_all (part_bytes - k) piece m

    -- bytes that do not fit decide nothing more
    pub same_decision : decide (undecided_of area n k ++ take (part_bytes - k) piece) ≡ decide (undecided_of area n k ++ piece)
    unfolding x p
    same_decision = go (settled (decide (x ++ p))) refl
      where
        go : (b : Bool) → settled (decide (x ++ p)) ≡ b → decide (x ++ p) ≡ decide (x ++ piece)
        go true e =
            sym (deciding.lasting (x ++ p) (drop (part_bytes - k) piece) e)
            ∙ ap decide (append_assoc x p (drop (part_bytes - k) piece) ∙ ap (λ (l : List ℕ). x ++ l) (take-append-drop (part_bytes - k) piece))
        go false e = ap (λ (l : List ℕ). decide (x ++ l)) (whole_piece e)

    -- undecided bytes, with a piece, are at most 2,048
    pub waits_few : decide (undecided_of area n k ++ piece) ≡ Undecided → k + length piece ≤ greatest_size
    unfolding x
    waits_few e = omega (arith, deciding.short (x ++ piece) e, length-append x piece, length_undecided)

    pub waits_gathered : decide (undecided_of area n k ++ piece) ≡ Undecided → gathered area n k piece ≡ sets area (part_at n + k) piece
    unfolding gathered
    waits_gathered e =
        let m : length piece ≤ part_bytes - k = omega (arith, waits_few e) in
        rw (take_all (part_bytes - k) piece m)

    pub length_gathered : length (gathered area n k piece) ≡ length area
    unfolding gathered
    length_gathered = length-sets area (part_at n + k) (take (part_bytes - k) piece)

    -- clearing the part takes the piece away too
    pub cleared_gathered : part_cleared (gathered area n k piece) n ≡ part_cleared area n
    unfolding part_cleared gathered p
    cleared_gathered =
        let g = sets area (part_at n + k) p in
        let z = zeros part_bytes in
        let l : length z ≡ part_bytes = length_zeros part_bytes in
        let lg : length g ≡ length area = length-sets area (part_at n + k) p in
        let h : part_at n + length z ≤ length area = omega (arith, room) in
        let i : part_at n + k + length p ≤ part_at n + length z = omega (arith, length_p, w.few) in
        let mid : take (part_at n) g ++ z ++ drop (part_at n + length z) g ≡ take (part_at n) area ++ z ++ drop (part_at n + length z) area =
        rw (take_sets p area (part_at n + k) (part_at n) (omega arith), drop_sets p area (part_at n + k) (part_at n + length z) i) in
        sets-eq z g (part_at n) (omega arith) ∙ mid ∙ sym (sets-eq z area (part_at n) h)

    -- a decision takes more than was there, and no more than fits
    pub decided_behind : settled (decide (undecided_of area n k ++ piece)) ≡ true → k < taken (decide (undecided_of area n k ++ piece))
    decided_behind e = omega (arith, beyond (undecided_of area n k) piece w.waiting e, length_undecided)

    taken_fits : taken (decide (undecided_of area n k ++ piece)) ≤ k + length p
    unfolding x p
    taken_fits = omega (arith, ap taken same_decision, deciding.within (x ++ p), long_p)

    -- the message is what lies at the front of the part
    pub message_lies : undecided_of (gathered area n k piece) n (taken (decide (undecided_of area n k ++ piece)))
        ≡ take (taken (decide (undecided_of area n k ++ piece))) (undecided_of area n k ++ piece)
    unfolding undecided_of x p
    message_lies =
        let t = taken (decide (x ++ piece)) in
        let g = drop (part_at n) (gathered area n k piece) in
        let j = k + min (part_bytes - k) (length piece) in
        let f : t ≤ j = omega (arith, taken_fits, length_p) in
        let y : x ++ piece ≡ (x ++ p) ++ drop (part_bytes - k) piece =
        ap (λ (l : List ℕ). x ++ l) (sym (take-append-drop (part_bytes - k) piece)) ∙ sym (append_assoc x p (drop (part_bytes - k) piece)) in
        sym (take-take t j g f) ∙ ap (take t) looked
        ∙ sym (take-append-le t (x ++ p) (drop (part_bytes - k) piece) (omega (arith, taken_fits, long_p)))
        ∙ ap (take t) (sym y)

    -- behind what was gathered all is as it was
    zeroed_behind : ZerosBehind (gathered area n k piece) n (k + min (part_bytes - k) (length piece))
    unfolding gathered p
    zeroed_behind =
        let u = k + min (part_bytes - k) (length piece) in
        ap (take (part_bytes - u)) (drop_sets p area (part_at n + k) (part_at n + u) (omega (arith, length_p)))
        ∙ zeros_further area n k u (omega arith) (omega (arith, w.few)) w.zeroed

    pub message_whole : (t : ℕ) → decide (undecided_of area n k ++ piece) ≡ Sound t
        → MessageLies (gathered area n k piece) n k t (k + min (part_bytes - k) (length piece))
    unfolding settled taken x p
    message_whole t e =
        let s : settled (decide (x ++ piece)) ≡ true = rw e in
        let q : taken (decide (x ++ piece)) ≡ t = rw e in
        let m : undecided_of (gathered area n k piece) n t ≡ take t (x ++ piece) = rw q at message_lies in
        let d : decide (take t (x ++ piece)) ≡ Sound t = (rw q at (deciding.enough (x ++ piece) s)) ∙ e in
        record {
          number = w.number;
          long = length_gathered ∙ w.long;
          behind = omega (arith, decided_behind s);
          fits = omega (arith, taken_fits, length_p, w.few);
          sound = rw m (sound_at (take t (x ++ piece)) t d);
          reach = omega (arith, w.few);
          zeroed = zeroed_behind;
        }

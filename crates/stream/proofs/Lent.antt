-- How undecided bytes lie in the lent area: what the calls of an endpoint do to the area and the counts is what the machine over
-- pieces does to the bytes held. Assumes nothing.
use Prim.Native.Nat.{ℕ, zero, suc, ◌+◌, ◌-◌, ◌≤◌, ◌<◌}
use mathlib.Core.Path.{◌≡◌, refl, sym, ap, ◌∙◌, fun_ext}
use mathlib.Core.Logic.{◌≢◌}
use mathlib.Core.Bool.{Bool, true, false, cond}
use mathlib.Core.List.{List, [], ◌∷◌, ◌++◌, append-nil, append_assoc}
use native.Mathlib.Omega.{arith}
use native.Mathlib.Decide.{ℕ_discrete}
use native.Mathlib.Numerals.{add-one}
use native.Mathlib.Nat.{not-suc-le-zero, add-zero, zero-add, suc-add, add-suc}
use lib.ListN.{length, take, drop, set, get_or, length-append, length-drop, get_or-append, drop_of_length-le, take-append-drop, replicate}
use lib.Seq.{take_at, drop_at, take-append-le, drop-append-le, take-append_seam, set-append_left, set_at, get_or_at, take-take, take_all, drop-drop, drop-append_seam, take-add, sets, sets-eq}
use lib.Dec.{eqb}
use borrow.Author.Tests.{eq-eqb, ne_eqb}
use Rattle.octets.specs.Zeros.{zeros}
use Rattle.octets.proofs.Scans.{drop_zeros, length_zeros, zeros_append, all_zero_zeros}
use Rattle.frame.specs.Decide.{decide, settled}
use Rattle.area.specs.Area.{part_bytes, area_bytes, part_at, part_sound, parts_sound, area_sound, undecided_of, part_cleared, cleared_from, closed_cleared, held_kept}
use Rattle.stream.specs.Calls.{Held, none_held, put, only}
use Rattle.stream.specs.Scaffold.{lives_of}
use Rattle.stream.specs.Lent.{part_holding, flat, counts_of}
use Rattle.stream.proofs.Stream.{put_elim}

-- ---- a put, at its place and at another

pub put_same : (h : Held) (c : ℕ) (x : List ℕ) → put h c x c ≡ x
unfolding put
put_same h c x = rw (eq-eqb c c refl)

pub put_other : (h : Held) (c : ℕ) (x : List ℕ) (n : ℕ) → n ≢ c → put h c x n ≡ h n
unfolding put
put_other h c x n d = rw (ne_eqb n c d)

pub put_self : (h : Held) (c : ℕ) → put h c (h c) ≡ h
put_self h c = fun_ext λ n. put_elim h c (h c) n (λ x. x ≡ h n) (λ e. ap h (sym e)) refl

pub put_put : (h : Held) (c : ℕ) (x y : List ℕ) → put (put h c x) c y ≡ put h c y
unfolding put
put_put h c x y = fun_ext λ n. go n (eqb n c)
  where
    go : (n : ℕ) (t : Bool) → cond t y (cond t x (h n)) ≡ cond t y (h n)
    go n true = refl
    go n false = refl

-- ---- counts

counted_ext : (h k : Held) (n : ℕ) → ((m : ℕ) → m < n → h m ≡ k m) → counts_of h n ≡ counts_of k n
unfolding counts_of
counted_ext h k zero e = refl
counted_ext h k (suc n) e = rw (counted_ext h k n (λ m l. e m (omega arith)), e n (omega arith))

pub length_counted : (h : Held) (n : ℕ) → length (counts_of h n) ≡ n
unfolding counts_of
length_counted h zero = refl
length_counted h (suc n) = rw (length-append, length_counted h n) (omega arith)

pub get_d_counted : (h : Held) (n c : ℕ) → c < n → get_or (counts_of h n) c 0 ≡ length (h c)
unfolding counts_of
get_d_counted h zero c l = absurd (not-suc-le-zero l)
get_d_counted h (suc n) c l = go (ℕ_discrete c n) (get_d_counted h n c)
  where
    go : Dec (c ≡ n) → (c < n → get_or (counts_of h n) c 0 ≡ length (h c)) → get_or (counts_of h n ++ (length (h n) ∷ [])) c 0 ≡ length (h c)
    go (yes e) ih = rw e (get_or_at (counts_of h n) (length (h n)) [] 0 n (length_counted h n))
    go (no d) ih = get_or-append (counts_of h n) (length (h n) ∷ []) 0 c (rw (length_counted h n) (omega arith)) ∙ ih (omega arith)

pub set_counted : (h : Held) (n c : ℕ) (x : List ℕ) → c < n → set (counts_of h n) c (length x) ≡ counts_of (put h c x) n
unfolding counts_of
set_counted h zero c x l = absurd (not-suc-le-zero l)
set_counted h (suc n) c x l = go (ℕ_discrete n c) (set_counted h n c x)
  where
    go : Dec (n ≡ c) → (c < n → set (counts_of h n) c (length x) ≡ counts_of (put h c x) n)
        → set (counts_of h n ++ (length (h n) ∷ [])) c (length x) ≡ counts_of (put h c x) n ++ (length (put h c x n) ∷ [])
    go (yes e) ih =
        rw (← e, put_same h n x, counted_ext (put h n x) h n (λ m k. put_other h n x m (omega arith)))
        (set_at (counts_of h n) (length (h n)) [] (length x) n (length_counted h n))
    go (no d) ih =
        rw (put_other h c x n d, ← (ih (omega arith)))
        (set-append_left (counts_of h n) (length (h n) ∷ []) c (length x) (rw (length_counted h n) (omega arith)))

pub length_lives_of : (t : ℕ → Bool) (n : ℕ) → length (lives_of t n) ≡ n
unfolding lives_of
length_lives_of t zero = refl
length_lives_of t (suc n) = rw (length-append, length_lives_of t n) (omega arith)

pub get_d_lives_of : (t : ℕ → Bool) (n i : ℕ) → i < n → get_or (lives_of t n) i false ≡ t i
unfolding lives_of
get_d_lives_of t zero i l = absurd (not-suc-le-zero l)
get_d_lives_of t (suc n) i l = go (ℕ_discrete i n) (get_d_lives_of t n i)
  where
    go : Dec (i ≡ n) → (i < n → get_or (lives_of t n) i false ≡ t i) → get_or (lives_of t n ++ (t n ∷ [])) i false ≡ t i
    go (yes e) ih = rw e (get_or_at (lives_of t n) (t n) [] false n (length_lives_of t n))
    go (no d) ih = get_or-append (lives_of t n) (t n ∷ []) false i (rw (length_lives_of t n) (omega arith)) ∙ ih (omega arith)

held_snoc : (bs : List Bool) (b : Bool) (ks : List ℕ) (k : ℕ) → length bs ≡ length ks
    → held_kept (bs ++ (b ∷ [])) (ks ++ (k ∷ [])) ≡ held_kept bs ks ++ (cond b k 0 ∷ [])
unfolding held_kept
held_snoc [] b [] k e = refl
held_snoc [] b (x ∷ ks) k e = absurd (omega arith)
held_snoc (x ∷ bs) b [] k e = absurd (omega arith)
held_snoc (x ∷ bs) b (y ∷ ks) k e = ap (λ (l : List ℕ). cond x y 0 ∷ l) (held_snoc bs b ks k (omega arith))

pub held_counted : (t : ℕ → Bool) (h : Held) (n : ℕ) → held_kept (lives_of t n) (counts_of h n) ≡ counts_of (only t h) n
unfolding lives_of counts_of held_kept only
held_counted t h zero = refl
held_counted t h (suc n) =
    held_snoc (lives_of t n) (t n) (counts_of h n) (length (h n)) (length_lives_of t n ∙ sym (length_counted h n))
    ∙ rw (held_counted t h n) (ap (λ (k : ℕ). counts_of (only t h) n ++ (k ∷ [])) (len (t n)))
  where
    len : (b : Bool) → cond b (length (h n)) 0 ≡ length (cond b (h n) [])
    len true = refl
    len false = refl

-- ---- parts

-- no connection holds more than a part
abbrev pub Small : Held → Type 0
Small h = (n : ℕ) → length (h n) ≤ part_bytes

pub length_part : (x : List ℕ) → length x ≤ part_bytes → length (part_holding x) ≡ part_bytes
unfolding part_holding
length_part x l = rw (length-append, length_zeros) (omega arith)

flat_ext : (h k : Held) (n : ℕ) → ((m : ℕ) → m < n → h m ≡ k m) → flat h n ≡ flat k n
unfolding flat
flat_ext h k zero e = refl
flat_ext h k (suc n) e = rw (flat_ext h k n (λ m l. e m (omega arith)), e n (omega arith))

pub length_flat : (h : Held) (n : ℕ) → Small h → length (flat h n) ≡ part_at n
unfolding flat
length_flat h zero s = refl
length_flat h (suc n) s = length-append (flat h n) (part_holding (h n)) ∙ omega (arith, length_flat h n s, length_part (h n) (s n))

-- connection c's part
pub part_flat : (h : Held) (n c : ℕ) → Small h → c < n → take part_bytes (drop (part_at c) (flat h n)) ≡ part_holding (h c)
unfolding flat
part_flat h zero c s l = absurd (not-suc-le-zero l)
part_flat h (suc n) c s l = go (ℕ_discrete c n) (part_flat h n c s)
  where
    go : Dec (c ≡ n) → (c < n → take part_bytes (drop (part_at c) (flat h n)) ≡ part_holding (h c))
        → take part_bytes (drop (part_at c) (flat h n ++ part_holding (h n))) ≡ part_holding (h c)
    go (yes e) ih =
        rw (e, drop_at (flat h n) (part_holding (h n)) (part_at n) (length_flat h n s)) (take_all part_bytes (part_holding (h n)) (omega (arith, length_part (h n) (s n))))
    go (no d) ih =
        let f = length_flat h n s in
        let k : part_at c ≤ length (flat h n) = omega arith in
        rw (drop-append-le (part_at c) (flat h n) (part_holding (h n)) k)
        (take-append-le part_bytes (drop (part_at c) (flat h n)) (part_holding (h n)) (rw length-drop (omega arith)) ∙ ih (omega arith))

-- the undecided bytes of connection c
pub undecided_flat : (h : Held) (n c : ℕ) → Small h → c < n → undecided_of (flat h n) c (length (h c)) ≡ h c
unfolding undecided_of part_holding
undecided_flat h n c s l =
    let x = drop (part_at c) (flat h n) in
    sym (take-take (length (h c)) part_bytes x (s c)) ∙ ap (take (length (h c))) (part_flat h n c s l) ∙ take-append_seam (h c) (zeros (part_bytes - length (h c)))

-- another part in the place of connection c's
write_flat : (h : Held) (n c : ℕ) (x : List ℕ) → Small h → c < n
    → take (part_at c) (flat h n) ++ part_holding x ++ drop (part_at c + part_bytes) (flat h n) ≡ flat (put h c x) n
unfolding flat
write_flat h zero c x s l = absurd (not-suc-le-zero l)
write_flat h (suc n) c x s l = go (ℕ_discrete n c) (write_flat h n c x s)
  where
    go : Dec (n ≡ c) → (c < n → take (part_at c) (flat h n) ++ part_holding x ++ drop (part_at c + part_bytes) (flat h n) ≡ flat (put h c x) n)
        → take (part_at c) (flat h n ++ part_holding (h n)) ++ part_holding x ++ drop (part_at c + part_bytes) (flat h n ++ part_holding (h n))
        ≡ flat (put h c x) n ++ part_holding (put h c x n)
    go (yes e) ih =
        let f = length_flat h n s in
        let z : length (flat h n ++ part_holding (h n)) ≤ part_at n + part_bytes = rw (length-append, f, length_part (h n) (s n)) (omega arith) in
        rw (
          ← e,
          take_at (flat h n) (part_holding (h n)) (part_at n) f,
          drop_of_length-le (flat h n ++ part_holding (h n)) z,
          append-nil,
          put_same h n x,
          flat_ext (put h n x) h n (λ m k. put_other h n x m (omega arith)),
        )
    go (no d) ih =
        let f = length_flat h n s in
        let m : part_at c + part_bytes ≤ length (flat h n) = omega arith in
        rw (
          take-append-le (part_at c) (flat h n) (part_holding (h n)) (omega arith),
          drop-append-le (part_at c + part_bytes) (flat h n) (part_holding (h n)) m,
          put_other h c x n d,
          ← (ih (omega arith)),
        )
        (sym (append_assoc (take (part_at c) (flat h n) ++ part_holding x) (drop (part_at c + part_bytes) (flat h n)) (part_holding (h n))))

-- a part cleared
pub clear_flat : (h : Held) (n c : ℕ) → Small h → c < n → part_cleared (flat h n) c ≡ flat (put h c []) n
unfolding part_cleared part_holding
clear_flat h n c s l =
    let a = flat h n in
    let f : part_at c + length (zeros part_bytes) ≤ length a = rw (length_zeros part_bytes) (omega (arith, length_flat h n s)) in
    sets-eq (zeros part_bytes) a (part_at c) f ∙ rw (length_zeros part_bytes) (write_flat h n c [] s l)

-- a piece behind the bytes of connection c
pub put_flat : (h : Held) (n c : ℕ) (p : List ℕ) → Small h → c < n → length (h c ++ p) ≤ part_bytes
    → sets (flat h n) (part_at c + length (h c)) p ≡ flat (put h c (h c ++ p)) n
unfolding part_holding undecided_of
put_flat h n c p s l f =
    let a = flat h n in
    let x = h c in
    let k = length x in
    let g : k + length p ≤ part_bytes = rw length-append at f in
    let z = zeros (part_bytes - k) in
    let r = drop (part_at c + part_bytes) a in
    let w : part_at c + k + length p ≤ length a = omega (arith, length_flat h n s) in
    let front : take (part_at c + k) a ≡ take (part_at c) a ++ x = take-add (part_at c) k a ∙ ap (λ (y : List ℕ). take (part_at c) a ++ y) (undecided_flat h n c s l) in
    let rest : drop (part_at c) a ≡ x ++ (z ++ r) =
    sym (take-append-drop part_bytes (drop (part_at c) a)) ∙ rw (part_flat h n c s l, drop-drop part_bytes (part_at c) a) (append_assoc x z r) in
    let m : length p ≤ length z = rw (length_zeros (part_bytes - k)) (omega arith) in
    let back : drop (part_at c + k + length p) a ≡ zeros (part_bytes - length (x ++ p)) ++ r =
    sym (drop-drop (length p) (part_at c + k) a) ∙ ap (drop (length p)) (sym (drop-drop k (part_at c) a) ∙ ap (drop k) rest ∙ drop-append_seam x (z ++ r))
    ∙ drop-append-le (length p) z r m
    ∙ ap (λ (y : List ℕ). y ++ r) (drop_zeros (length p) (part_bytes - k) ∙ ap zeros (rw length-append (omega arith))) in
    let mid : take (part_at c + k) a ++ p ++ drop (part_at c + k + length p) a ≡ take (part_at c) a ++ part_holding (x ++ p) ++ r =
    rw (front, back) (regroup (take (part_at c) a) x p (zeros (part_bytes - length (x ++ p))) r) in
    sets-eq p a (part_at c + k) w ∙ mid ∙ write_flat h n c (x ++ p) s l
  where
    regroup : (a b c d e : List ℕ) → ((a ++ b) ++ c) ++ (d ++ e) ≡ (a ++ ((b ++ c) ++ d)) ++ e
    regroup a b c d e = simp append_assoc

-- ---- closures: the connections below n that fail the test hold nothing any more

cleared : (ℕ → Bool) → ℕ → Held → Held
cleared t zero h = h
cleared t (suc n) h = cond (t n) (cleared t n h) (put (cleared t n h) n [])

cleared_from_lem : (t : ℕ → Bool) (n : ℕ) (h : Held) (m : ℕ) → n ≤ m → cleared t n h m ≡ h m
unfolding cleared
cleared_from_lem t zero h m l = refl
cleared_from_lem t (suc n) h m l = go (t n) (cleared_from_lem t n h m (omega arith))
  where
    go : (b : Bool) → cleared t n h m ≡ h m → cond b (cleared t n h) (put (cleared t n h) n []) m ≡ h m
    go true ih = ih
    go false ih = put_other (cleared t n h) n [] m (omega arith) ∙ ih

cleared_below : (t : ℕ → Bool) (n : ℕ) (h : Held) (m : ℕ) → m < n → cleared t n h m ≡ only t h m
unfolding cleared only
cleared_below t zero h m l = absurd (not-suc-le-zero l)
cleared_below t (suc n) h m l = go (t n) refl (ℕ_discrete m n) (cleared_below t n h m)
  where
    go : (b : Bool) → t n ≡ b → Dec (m ≡ n) → (m < n → cleared t n h m ≡ cond (t m) (h m) [])
        → cond b (cleared t n h) (put (cleared t n h) n []) m ≡ cond (t m) (h m) []
    go true e (yes q) ih = rw (q, e) (cleared_from_lem t n h n (omega arith))
    go false e (yes q) ih = rw (q, e) (put_same (cleared t n h) n [])
    go true e (no d) ih = ih (omega arith)
    go false e (no d) ih = put_other (cleared t n h) n [] m d ∙ ih (omega arith)

cleared_small : (t : ℕ → Bool) (n : ℕ) (h : Held) → Small h → Small (cleared t n h)
unfolding cleared
cleared_small t zero h s = s
cleared_small t (suc n) h s = go (t n) (cleared_small t n h s)
  where
    go : (b : Bool) → Small (cleared t n h) → Small (cond b (cleared t n h) (put (cleared t n h) n []))
    go true ih = ih
    go false ih = λ m. put_elim (cleared t n h) n [] m (λ x. length x ≤ part_bytes) (λ q. omega arith) (ih m)

clears_snoc : (k : ℕ) (bs : List Bool) (b : Bool) (a : List ℕ)
    → cleared_from k (bs ++ (b ∷ [])) a ≡ cond b (cleared_from k bs a) (part_cleared (cleared_from k bs a) (k + length bs))
unfolding cleared_from
clears_snoc k [] b a = rw add-zero
clears_snoc k (x ∷ bs) b a =
    clears_snoc (suc k) bs b (cond x a (part_cleared a k)) ∙ rw (suc-add, add-suc)

clears_flat : (t : ℕ → Bool) (h : Held) (n m : ℕ) → Small h → n ≤ m → cleared_from 0 (lives_of t n) (flat h m) ≡ flat (cleared t n h) m
unfolding lives_of cleared cleared_from
clears_flat t h zero m s l = refl
clears_flat t h (suc n) m s l =
    clears_snoc 0 (lives_of t n) (t n) (flat h m) ∙ rw (clears_flat t h n m s (omega arith), length_lives_of t n, zero-add) (go (t n))
  where
    go : (b : Bool) → cond b (flat (cleared t n h) m) (part_cleared (flat (cleared t n h) m) n) ≡ flat (cond b (cleared t n h) (put (cleared t n h) n [])) m
    go true = refl
    go false = clear_flat (cleared t n h) m n (cleared_small t n h s) l

-- the parts of the connections that fail the test cleared
pub closed_flat : (t : ℕ → Bool) (h : Held) (n : ℕ) → Small h → closed_cleared (lives_of t n) (flat h n) ≡ flat (only t h) n
unfolding closed_cleared
closed_flat t h n s = clears_flat t h n n s (omega arith) ∙ flat_ext (cleared t n h) (only t h) n (cleared_below t n h)

-- an area of zeros, and counts of zero, hold nothing
pub flat_none : (n : ℕ) → flat none_held n ≡ zeros (part_at n)
unfolding flat part_holding
flat_none zero = unfold zeros in refl
flat_none (suc n) =
    let e : part_at n + part_bytes ≡ part_at (suc n) = omega arith in
    rw (flat_none n, zeros_append) (ap zeros e)

pub counted_none : (n : ℕ) → counts_of none_held n ≡ zeros n
unfolding counts_of zeros
counted_none zero = refl
counted_none (suc n) = rw (counted_none n) (zeros_append n 1 ∙ ap (λ (k : ℕ). replicate k 0) (add-one n))

-- ---- refusal 2 does not apply

part_sound_lem : (x : List ℕ) → settled (decide x) ≡ false → part_sound (length x) (part_holding x) ≡ true
unfolding part_sound part_holding
part_sound_lem x w =
    let z = zeros (part_bytes - length x) in
    rw (take-append_seam x z, drop-append_seam x z, w, all_zero_zeros (part_bytes - length x))

-- every part is sound, so the parts are
parts_sound_lem : (held a : List ℕ) → ((c : ℕ) → c < length held → part_sound (get_or held c 0) (take part_bytes (drop (part_at c) a)) ≡ true) → parts_sound held a ≡ true
unfolding parts_sound
parts_sound_lem [] a f = refl
parts_sound_lem (k ∷ held) a f =
    rw (f 0 (omega arith))
    (parts_sound_lem held (drop part_bytes a)
    (λ c l.
    let e : part_bytes + part_at c ≡ part_at (suc c) = omega arith in
    rw (drop-drop (part_at c) part_bytes a, e) (f (suc c) (omega arith))))

pub area_flat : (h : Held) → Small h → ((n : ℕ) → settled (decide (h n)) ≡ false) → area_sound (counts_of h 8) (flat h 8) ≡ true
unfolding area_sound
area_flat h s w =
    rw (eq-eqb (length (flat h 8)) area_bytes (length_flat h 8 s))
    (parts_sound_lem (counts_of h 8) (flat h 8)
    (λ c l.
    let m : c < 8 = omega (arith, length_counted h 8) in
    rw (get_d_counted h 8 c m, part_flat h 8 c s m) (part_sound_lem (h c) (w c))))

-- Numbers of the wire in parts of a list, read back after a store, and written again as they were read. Assumes nothing.
use Prim.Native.Nat.{ℕ, zero, suc, ◌+◌, ◌*◌, ◌/◌, ◌%◌, ◌≤◌, ◌<◌}
use mathlib.Core.Path.{◌≡◌, refl, sym, ◌∙◌}
use mathlib.Core.List.{List, [], ◌∷◌, ◌++◌}
use native.Mathlib.Omega.{arith}
use native.Mathlib.Nat.{add-zero, add_assoc, div-div-eq-div-mul, div-add-mod', mod-eq_of_lt}
use lib.ListN.{length, take, drop, get_or, get_or-append}
use lib.Seq.{sets, get_or-take, get_or-drop, drop-cons}
use Rattle.laws.proofs.Stores.{get_d_sets, get_d_sets_before, get_d_sets_after}
use Rattle.octets.specs.Numbers.{be16_at, be32_at, bytes16, bytes32, Octets}

-- w bytes of s from i on are those of t from j on
abbrev pub Same : ℕ → List ℕ → ℕ → List ℕ → ℕ → Type 0
Same w s i t j = (k : ℕ) → k < w → get_or s (i + k) 0 ≡ get_or t (j + k) 0

-- of any width: with more behind, in a front, in the rest, and before, in and after a run of stores
pub same_append : (w : ℕ) (s t : List ℕ) (at : ℕ) → at + w ≤ length s → Same w (s ++ t) at s at
same_append w s t at h k l = get_or-append s t 0 (at + k) (omega arith)

pub same_take : (w n : ℕ) (s : List ℕ) (at : ℕ) → at + w ≤ n → Same w (take n s) at s at
same_take w n s at h k l = get_or-take n s (at + k) 0 (omega arith)

pub same_drop : (w n : ℕ) (s : List ℕ) (at : ℕ) → Same w (drop n s) at s (n + at)
same_drop w n s at k l = get_or-drop n s (at + k) 0 ∙ rw add_assoc

pub same_before : (w : ℕ) (s : List ℕ) (i : ℕ) (vs : List ℕ) (at : ℕ) → at + w ≤ i → Same w (sets s i vs) at s at
same_before w s i vs at h k l = get_d_sets_before vs s i (at + k) 0 (omega arith)

pub same_stored : (s : List ℕ) (at : ℕ) (vs : List ℕ) → at + length vs ≤ length s → Same (length vs) (sets s at vs) at vs 0
same_stored s at vs h k l =
    let z : 0 + k ≡ k = omega arith in
    rw z (get_d_sets vs s at k 0 l h)

pub same_after : (w : ℕ) (s : List ℕ) (i : ℕ) (vs : List ℕ) (at : ℕ) → i + length vs ≤ at → Same w (sets s i vs) at s at
same_after w s i vs at h k l = get_d_sets_after vs s i (at + k) 0 (omega arith)

-- equal bytes are equal numbers
pub be16_same : (s : List ℕ) (i : ℕ) (t : List ℕ) (j : ℕ) → Same 2 s i t j → be16_at s i ≡ be16_at t j
unfolding be16_at
be16_same s i t j e =
    let e0 : get_or s i 0 ≡ get_or t j 0 = rw (add-zero i, add-zero j) at (e 0 (omega arith)) in
    omega (arith, e 1 (omega arith))

pub be32_same : (s : List ℕ) (i : ℕ) (t : List ℕ) (j : ℕ) → Same 4 s i t j → be32_at s i ≡ be32_at t j
unfolding be32_at
be32_same s i t j e =
    let e0 : get_or s i 0 ≡ get_or t j 0 = rw (add-zero i, add-zero j) at (e 0 (omega arith)) in
    omega (arith, e 1 (omega arith), e 2 (omega arith), e 3 (omega arith))

module _ (s : List ℕ) (at : ℕ) where
  pub be16_append : (t : List ℕ) → at + 2 ≤ length s → be16_at (s ++ t) at ≡ be16_at s at
  be16_append t h = be16_same (s ++ t) at s at (same_append 2 s t at h)

  pub be32_append : (t : List ℕ) → at + 4 ≤ length s → be32_at (s ++ t) at ≡ be32_at s at
  be32_append t h = be32_same (s ++ t) at s at (same_append 4 s t at h)

  pub be16_take : (n : ℕ) → at + 2 ≤ n → be16_at (take n s) at ≡ be16_at s at
  be16_take n h = be16_same (take n s) at s at (same_take 2 n s at h)

  pub be32_take : (n : ℕ) → at + 4 ≤ n → be32_at (take n s) at ≡ be32_at s at
  be32_take n h = be32_same (take n s) at s at (same_take 4 n s at h)

  pub be16_drop : (n : ℕ) → be16_at (drop n s) at ≡ be16_at s (n + at)
  be16_drop n = be16_same (drop n s) at s (n + at) (same_drop 2 n s at)

  pub be32_drop : (n : ℕ) → be32_at (drop n s) at ≡ be32_at s (n + at)
  be32_drop n = be32_same (drop n s) at s (n + at) (same_drop 4 n s at)

pub length_bytes16 : (v : ℕ) → length (bytes16 v) ≡ 2
unfolding bytes16
length_bytes16 v = refl

pub length_bytes32 : (v : ℕ) → length (bytes32 v) ≡ 4
unfolding bytes32
length_bytes32 v = refl

-- the bytes of a number make the number
pub be16_bytes : (v : ℕ) → v < 65536 → be16_at (bytes16 v) 0 ≡ v
unfolding be16_at bytes16
be16_bytes v h = omega (arith, div-add-mod' v 256, mod-eq_of_lt {n = v / 256} {m = 256} (omega arith))

digits : (n a b c : ℕ) → n / 256 ≡ a → a / 256 ≡ b → b / 256 ≡ c → c < 256
    → c % 256 * 16777216 + b % 256 * 65536 + a % 256 * 256 + n % 256 ≡ n
digits n a b c ha hb hc h = omega (arith, div-add-mod' n 256, div-add-mod' a 256, div-add-mod' b 256, mod-eq_of_lt h)

pub be32_bytes : (v : ℕ) → v < 4294967296 → be32_at (bytes32 v) 0 ≡ v
unfolding be32_at bytes32
be32_bytes v h =
    digits v (v / 256) (v / 65536) (v / 16777216) refl (div-div-eq-div-mul v 256 256) (div-div-eq-div-mul v 65536 256) (omega arith)

-- read after write
pub be16_put : (s : List ℕ) (at v : ℕ) → at + 2 ≤ length s → v < 65536 → be16_at (sets s at (bytes16 v)) at ≡ v
be16_put s at v h l =
    be16_same (sets s at (bytes16 v)) at (bytes16 v) 0
    (rw (length_bytes16 v) at (same_stored s at (bytes16 v) (rw length_bytes16 h)))
    ∙ be16_bytes v l

pub be32_put : (s : List ℕ) (at v : ℕ) → at + 4 ≤ length s → v < 4294967296 → be32_at (sets s at (bytes32 v)) at ≡ v
be32_put s at v h l =
    be32_same (sets s at (bytes32 v)) at (bytes32 v) 0
    (rw (length_bytes32 v) at (same_stored s at (bytes32 v) (rw length_bytes32 h)))
    ∙ be32_bytes v l

-- the bytes from at on, written out
byte_at : (s : List ℕ) (at i : ℕ) → at + i < length s → drop (at + i) s ≡ get_or s (at + i) 0 ∷ drop (at + (i + 1)) s
byte_at s at i h =
    let g : at + (i + 1) ≡ suc (at + i) = omega arith in
    rw g (drop-cons s (at + i) 0 h)

pub two_at : (s : List ℕ) (at : ℕ) → at + 2 ≤ length s → take 2 (drop at s) ≡ get_or s at 0 ∷ get_or s (at + 1) 0 ∷ []
two_at s at h =
    let a : drop at s ≡ get_or s at 0 ∷ drop (at + 1) s = rw add-zero at (byte_at s at 0 (omega arith)) in
    rw (a, byte_at s at 1 (omega arith))

pub four_at : (s : List ℕ) (at : ℕ) → at + 4 ≤ length s
    → take 4 (drop at s) ≡ get_or s at 0 ∷ get_or s (at + 1) 0 ∷ get_or s (at + 2) 0 ∷ get_or s (at + 3) 0 ∷ []
four_at s at h =
    let a : drop at s ≡ get_or s at 0 ∷ drop (at + 1) s = rw add-zero at (byte_at s at 0 (omega arith)) in
    rw (a, byte_at s at 1 (omega arith), byte_at s at 2 (omega arith), byte_at s at 3 (omega arith))

pub be16_small : (s : List ℕ) (at : ℕ) → Octets s → be16_at s at < 65536
unfolding be16_at
be16_small s at o = omega (arith, o at, o (at + 1))

-- write after read
pub bytes16_be16 : (s : List ℕ) (at : ℕ) → Octets s → at + 2 ≤ length s → bytes16 (be16_at s at) ≡ take 2 (drop at s)
unfolding bytes16 be16_at
bytes16_be16 s at o h =
    let a = o at in
    let b = o (at + 1) in
    let q : (get_or s at 0 * 256 + get_or s (at + 1) 0) / 256 % 256 ≡ get_or s at 0 = omega arith in
    let r : (get_or s at 0 * 256 + get_or s (at + 1) 0) % 256 ≡ get_or s (at + 1) 0 = omega arith in
    rw (q, r) (sym (two_at s at h))

pub bytes32_be32 : (s : List ℕ) (at : ℕ) → Octets s → at + 4 ≤ length s → bytes32 (be32_at s at) ≡ take 4 (drop at s)
unfolding bytes32 be32_at
bytes32_be32 s at o h =
    let go = four (get_or s at 0) (get_or s (at + 1) 0) (get_or s (at + 2) 0) (get_or s (at + 3) 0) (o at) (o (at + 1)) (o (at + 2)) (o (at + 3)) in
    go ∙ sym (four_at s at h)
  where
    four : (a b c d : ℕ) → a < 256 → b < 256 → c < 256 → d < 256 → bytes32 (a * 16777216 + b * 65536 + c * 256 + d) ≡ a ∷ b ∷ c ∷ d ∷ []
    four a b c d ha hb hc hd =
        let n = a * 16777216 + b * 65536 + c * 256 + d in
        let p : n / 16777216 % 256 ≡ a = omega arith in
        let q : n / 65536 % 256 ≡ b = omega arith in
        let r : n / 256 % 256 ≡ c = omega arith in
        let t : n % 256 ≡ d = omega arith in
        rw (p, q, r, t)

-- parts of bytes are bytes
pub octets_drop : (n : ℕ) (s : List ℕ) → Octets s → Octets (drop n s)
octets_drop n s o i = rw get_or-drop (o (n + i))

pub octets_take : (n : ℕ) (s : List ℕ) → Octets s → Octets (take n s)
octets_take zero s o i = omega arith
octets_take (suc n) [] o i = omega arith
octets_take (suc n) (x ∷ s) o zero = o 0
octets_take (suc n) (x ∷ s) o (suc i) = octets_take n s (λ j. o (suc j)) i

-- Laws of the walk over a message's entries, and of what stands behind some of them. Assumes nothing.
use Prim.Native.Nat.{ℕ, zero, suc, ◌+◌, ◌-◌, ◌≤◌, ◌<◌}
use mathlib.Core.Path.{◌≡◌, refl, sym, ap, ◌∙◌}
use mathlib.Core.List.{List}
use mathlib.Core.Bool.{Bool, cond, true, false, false≢true, ◌&&◌}
use native.Mathlib.Omega.{arith}
use native.Mathlib.Numerals.{sub-one}
use native.Mathlib.Nat.{not-suc-le-zero, sub-zero}
use lib.Dec.{eqb}
use lib.ListN.{length, take, drop, length-drop}
use lib.Seq.{drop-drop, take_all, length-take-le}
use borrow.Author.Tests.{eq-eqb, ne_eqb, lt-ltb, le-ltb, eqb-true, eqb-false}
use Rattle.std.specs.Prelude.{Option, Some, None, is_some}
use Rattle.std.specs.Option.{option_eq}
use Rattle.laws.proofs.Conds.{cond_right}
use Rattle.numbers.specs.declared.Fault.TheVariants as fault
use Rattle.frame.specs.Limits.{header_end, keep_alive}
use Rattle.frame.specs.Header.{pdu_type, message_count}
use Rattle.frame.specs.Entry.{entry_size, entries_fill}
use Rattle.frame.specs.Decide.{data_sound, decide_data}
use Rattle.frame.specs.Scaffold.{nonzero, walked, entries_stand, rest_from, data_rest, message_rest, rest_by}
use Rattle.frame.specs.declared.Decision.TheVariants.{Faulty, Sound}
use Rattle.frame.proofs.Entries.{entry_at_lem, entries_first}

-- a size, if it is not 0
counted_none : (n : ℕ) → None ≡ nonzero n → n ≡ 0
unfolding nonzero
counted_none n e = go (eqb n 0) refl e
  where
    go : (b : Bool) → eqb n 0 ≡ b → None ≡ cond b None (Some n) → n ≡ 0
    go true q e = eqb-true n 0 q
    go false q e = absurd (let z : ◌≡◌ {A = ℕ} 0 1 = cc in omega arith)

counted_some : (n m : ℕ) → Some m ≡ nonzero n → (n ≡ m) × (n ≡ 0 → ⊥)
unfolding nonzero
counted_some n m e = go (eqb n 0) refl e
  where
    go : (b : Bool) → eqb n 0 ≡ b → Some m ≡ cond b None (Some n) → (n ≡ m) × (n ≡ 0 → ⊥)
    go true q e = absurd (let z : ◌≡◌ {A = ℕ} 0 1 = cc in omega arith)
    go false q e = (cc, eqb-false n 0 q)

-- the walk, one entry at a time
pub walked_end : (n k : ℕ) (t : List ℕ) → n ≡ 0 → walked n k t ≡ Some (length t)
unfolding walked entries_stand rest_from
walked_end n k t e = rw e

pub walked_bad : (n k : ℕ) (t : List ℕ) → 0 < n → None ≡ nonzero (entry_size k t) → walked n k t ≡ None
unfolding walked entries_stand
walked_bad zero k t h e = absurd (not-suc-le-zero h)
walked_bad (suc n) k t h e = simp (eq-eqb (entry_size k t) 0 (counted_none _ e))

pub walked_step : (n k m : ℕ) (t : List ℕ) → 0 < n → Some m ≡ nonzero (entry_size k t) → walked n k t ≡ walked (n - 1) k (drop m t)
unfolding walked entries_stand rest_from
walked_step zero k m t h e = absurd (not-suc-le-zero h)
walked_step (suc n) k m t h e =
    let q = counted_some _ m e in
    rw (← q.0) (simp (ne_eqb (entry_size k t) 0 q.1, sub-one))

-- the same at one entry more of n
pub walked_next : (n j k m : ℕ) (t : List ℕ) → j < n → Some m ≡ nonzero (entry_size k t) → walked (n - j) k t ≡ walked (n - (j + 1)) k (drop m t)
walked_next n j k m t h e =
    let z : n - (j + 1) ≡ (n - j) - 1 = omega arith in
    rw z (walked_step (n - j) k m t (omega arith) e)

pub rest_within : (i k : ℕ) (t : List ℕ) → rest_from i k t ≤ length t
unfolding rest_from
rest_within zero k t = omega arith
rest_within (suc i) k t = omega (arith, rest_within i k (drop (entry_size k t) t), length-drop (entry_size k t) t)

-- entries fill some data: each is well formed, and nothing stands behind them
pub fill_all : (n k : ℕ) (t : List ℕ) → (entries_stand n k t && eqb (rest_from n k t) 0) ≡ entries_fill n k t
unfolding entries_stand rest_from entries_fill
fill_all zero k t = refl
fill_all (suc n) k t = go (eqb (entry_size k t) 0) (fill_all n k (drop (entry_size k t) t))
  where
    u : List ℕ
    u = drop (entry_size k t) t

    go : (b : Bool) → (entries_stand n k u && eqb (rest_from n k u) 0) ≡ entries_fill n k u
        → (cond b false (entries_stand n k u) && eqb (rest_from n k u) 0) ≡ cond b false (entries_fill n k u)
    go true h = refl
    go false h = h

pub fill_walked : (n k : ℕ) (t : List ℕ) → option_eq eqb (walked n k t) (Some 0) ≡ entries_fill n k t
unfolding walked
fill_walked n k t = go (entries_stand n k t) ∙ fill_all n k t
  where
    go : (b : Bool) → option_eq eqb (cond b (Some (rest_from n k t)) None) (Some 0) ≡ (b && eqb (rest_from n k t) 0)
    go true = refl
    go false = refl

-- the same in two parts of the walk: the first i entries, and those behind them
pub fill_found : (i n k : ℕ) (t : List ℕ) → i < n → entries_stand i k t ≡ true
    → entries_fill (n - i) k (drop (length t - rest_from i k t) t) ≡ entries_fill n k t
unfolding entries_stand rest_from entries_fill
fill_found zero n k t h e =
    let z : length t - length t ≡ 0 = omega arith in
    rw (z, sub-zero)
fill_found (suc i) zero k t h e = absurd (not-suc-le-zero h)
fill_found (suc i) (suc n) k t h e =
    let p = cond_right (eqb (entry_size k t) 0) false _ true e false≢true in
    let w = entry_at_lem k t (eqb-false (entry_size k t) 0 p.0) in
    let u = drop (entry_size k t) t in
    let r = rest_from i k u in
    let g : length t - r ≡ entry_size k t + (length u - r) = omega (arith, length-drop (entry_size k t) t, rest_within i k u, w.size, w.high) in
    let d : drop (length t - r) t ≡ drop (length u - r) u = ap (λ (m : ℕ). drop m t) g ∙ sym (drop-drop (length u - r) (entry_size k t) t) in
    let m : suc n - suc i ≡ n - i = omega arith in
    rw (d, m, p.0) (fill_found i n k u (omega arith) p.1)

pub fill_broken : (i n k : ℕ) (t : List ℕ) → i < n → entries_stand i k t ≡ false → entries_fill n k t ≡ false
unfolding entries_stand entries_fill
fill_broken zero n k t h e = absurd (false≢true (sym e))
fill_broken (suc i) zero k t h e = absurd (not-suc-le-zero h)
fill_broken (suc i) (suc n) k t h e = go (eqb (entry_size k t) 0) (fill_broken i n k (drop (entry_size k t) t) (omega arith)) e
  where
    u : List ℕ
    u = drop (entry_size k t) t

    go : (b : Bool) → (entries_stand i k u ≡ false → entries_fill n k u ≡ false) → cond b false (entries_stand i k u) ≡ false
        → cond b false (entries_fill n k u) ≡ false
    go true f e = refl
    go false f e = f e

-- what the walk up to entry i tells of n entries
pub found_none : (i n k : ℕ) (t : List ℕ) → i < n → None ≡ walked i k t → entries_fill n k t ≡ false
unfolding walked
found_none i n k t h e = go (entries_stand i k t) refl e
  where
    go : (b : Bool) → entries_stand i k t ≡ b → None ≡ cond b (Some (rest_from i k t)) None → entries_fill n k t ≡ false
    go true q z = absurd (let y : ◌≡◌ {A = ℕ} 0 1 = cc in omega arith)
    go false q z = fill_broken i n k t h q

pub found_some : (i n k m : ℕ) (t : List ℕ) → i < n → Some m ≡ walked i k t
    → (m ≡ rest_from i k t) × (m ≤ length t) × (entries_fill (n - i) k (drop (length t - m) t) ≡ entries_fill n k t)
unfolding walked
found_some i n k m t h e = go (entries_stand i k t) refl e
  where
    go : (b : Bool) → entries_stand i k t ≡ b → Some m ≡ cond b (Some (rest_from i k t)) None
        → (m ≡ rest_from i k t) × (m ≤ length t) × (entries_fill (n - i) k (drop (length t - m) t) ≡ entries_fill n k t)
    go true q z = let y : m ≡ rest_from i k t = cc in (y, rw y (rest_within i k t), rw y (fill_found i n k t h q))
    go false q z = absurd (let y : ◌≡◌ {A = ℕ} 0 1 = cc in omega arith)

pub found_within : (i k m : ℕ) (t : List ℕ) → Some m ≡ walked i k t → m ≤ length t
found_within i k m t e = (found_some i (suc i) k m t (omega arith) e).1

-- from an entry on that is there some bytes stand
pub rest_some : (i n k : ℕ) (t : List ℕ) → i < n → entries_fill n k t ≡ true → rest_from i k t ≡ 0 → ⊥
unfolding rest_from
rest_some i zero k t h e z = absurd (not-suc-le-zero h)
rest_some zero (suc n) k t h e z = let p = entries_first n k t e in let w = entry_at_lem k t p.0 in p.0 (omega (arith, w.size, w.high))
rest_some (suc i) (suc n) k t h e z = rest_some i n k (drop (entry_size k t) t) (omega arith) (entries_first n k t e).1 z

-- of entries that fill some data, and of what does not
rest_counted : (i n k : ℕ) (t : List ℕ) → i < n
    → cond {A = Option ℕ} (entries_fill n k t) (Some (rest_from i k t)) None ≡ cond (entries_fill n k t) (nonzero (rest_from i k t)) None
unfolding nonzero
rest_counted i n k t h = go (entries_fill n k t) refl
  where
    go : (b : Bool) → entries_fill n k t ≡ b
        → cond {A = Option ℕ} b (Some (rest_from i k t)) None ≡ cond b (cond (eqb (rest_from i k t) 0) None (Some (rest_from i k t))) None
    go true e = rw (ne_eqb (rest_from i k t) 0 (rest_some i n k t h e))
    go false e = refl

-- what is found of a whole message, by what its data is
pub rest_sound : (m : List ℕ) (i : ℕ) → data_sound (pdu_type m) (message_count m) (drop header_end m) ≡ true → rest_by (decide_data m) m i ≡ message_rest m i
unfolding rest_by decide_data
rest_sound m i e = simp e (ap (λ (l : List ℕ). message_rest l i) (take_all (length m) m (omega arith)))

pub rest_faulty : (m : List ℕ) (i : ℕ) → data_sound (pdu_type m) (message_count m) (drop header_end m) ≡ false → rest_by (decide_data m) m i ≡ 0
unfolding rest_by decide_data
rest_faulty m i e = simp e

pub data_whole : (m u : List ℕ) (n : ℕ) (b : Bool) → n ≡ message_count m → u ≡ drop header_end m → b ≡ data_sound (pdu_type m) n u
    → cond b (Sound (length m)) (Faulty fault.Data (length m)) ≡ decide_data m
unfolding decide_data
data_whole m u n b en eu eb = rw (eb, eu, en)

-- no entry is found in a keep-alive, or past the last
rest_not : (m : List ℕ) (i : ℕ) → message_rest m i ≡ 0 → rest_by (decide_data m) m i ≡ 0
rest_not m i z = go (data_sound (pdu_type m) (message_count m) (drop header_end m)) refl
  where
    go : (b : Bool) → data_sound (pdu_type m) (message_count m) (drop header_end m) ≡ b → rest_by (decide_data m) m i ≡ 0
    go true e = rest_sound m i e ∙ z
    go false e = rest_faulty m i e

pub rest_keep : (m : List ℕ) (i : ℕ) → pdu_type m ≡ keep_alive → rest_by (decide_data m) m i ≡ 0
unfolding message_rest data_rest
rest_keep m i h = rest_not m i (rw (eq-eqb (pdu_type m) keep_alive h))

pub rest_past : (m : List ℕ) (i : ℕ) → message_count m ≤ i → rest_by (decide_data m) m i ≡ 0
unfolding message_rest data_rest
rest_past m i h = rest_not m i (rw (le-ltb i (message_count m) h) (go (eqb (pdu_type m) keep_alive)))
  where
    go : (b : Bool) → cond {A = ℕ} b 0 0 ≡ 0
    go true = refl
    go false = refl

-- else the walk finds it where the data is sound
pub found_whole : (m u : List ℕ) (i n : ℕ) (r : Option ℕ) → (pdu_type m ≡ keep_alive → ⊥) → i < n → n ≡ message_count m → u ≡ drop header_end m
    → r ≡ cond {A = Option ℕ} (entries_fill n (pdu_type m) u) (Some (rest_from i (pdu_type m) u)) None
    → (cond (is_some r) (Sound (length m)) (Faulty fault.Data (length m)) ≡ decide_data m) × (r ≡ nonzero (rest_by (decide_data m) m i))
unfolding decide_data data_sound rest_by message_rest data_rest nonzero
found_whole m u i n r k l en eu er =
    rw (er, eu, en, ne_eqb (pdu_type m) keep_alive k) (go (entries_fill (message_count m) (pdu_type m) (drop header_end m)) refl)
  where
    h : i < message_count m
    h = omega arith

    go : (b : Bool) → entries_fill (message_count m) (pdu_type m) (drop header_end m) ≡ b
        → (cond (is_some (cond {A = Option ℕ} b (Some (rest_from i (pdu_type m) (drop header_end m))) None)) (Sound (length m)) (Faulty fault.Data (length m))
        ≡ cond b (Sound (length m)) (Faulty fault.Data (length m)))
        × (cond {A = Option ℕ} b (Some (rest_from i (pdu_type m) (drop header_end m))) None ≡ nonzero (rest_by (cond b (Sound (length m)) (Faulty fault.Data (length m))) m i))
    go true e = (refl, sym (rw (take_all (length m) m (omega arith), ne_eqb (pdu_type m) keep_alive k, lt-ltb i (message_count m) h, ne_eqb (rest_from i (pdu_type m) (drop header_end m)) 0 (rest_some i (message_count m) (pdu_type m) (drop header_end m) h e)) refl))
    go false e = (refl, refl)

-- it is found of the bytes that the message is at the front of
pub rest_front : (n : ℕ) (s : List ℕ) (i : ℕ) → n ≤ length s → rest_by (decide_data (take n s)) (take n s) i ≡ rest_by (decide_data (take n s)) s i
unfolding rest_by decide_data
rest_front n s i h = go (data_sound (pdu_type m) (message_count m) (drop header_end m))
  where
    m : List ℕ
    m = take n s

    go : (b : Bool) → rest_by (cond b (Sound (length m)) (Faulty fault.Data (length m))) m i ≡ rest_by (cond b (Sound (length m)) (Faulty fault.Data (length m))) s i
    go true =
        ap (λ (l : List ℕ). message_rest l i) (take_all (length m) m (omega arith))
        ∙ ap (λ (j : ℕ). message_rest (take j s) i) (sym (length-take-le n s h))
    go false = refl

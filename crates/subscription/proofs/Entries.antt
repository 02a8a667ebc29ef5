-- An entry tested, marked, swept or compared. Assumes nothing.
use Rattle.std.proofs.Common.{ℕ, ◌+◌, ◌-◌, ◌<◌, ◌≤◌, ◌≡◌, refl, sym, ap, ◌∙◌, Bool, true, false, not, ◌&&◌, List, ◌++◌, arith, ne_eqb, le-leb, leb-true, eqb-true, leb, eqb, length, set, get_or, take, drop, replicate, length-take, length-drop}
use mathlib.Core.Bool.{and-false}
use Rattle.std.proofs.Math.Seq.{sets, drop-append-add}
use Rattle.std.specs.Prelude.{Option, Some, None, IfSome, position}
use Rattle.std.proofs.lemmas.List.Quantifiers.{position-Some}
use Rattle.laws.proofs.Conds.{and_left}
use Rattle.laws.proofs.Tables.{get_d_any}
use Rattle.laws.proofs.Stores.{sets_front}
use Rattle.octets.specs.Zeros.{zeros, all_zero}
use Rattle.octets.proofs.Scans.{drop_zeros, all_zero_zeros}
use Rattle.objects.specs.Tests.{context_given}
use Rattle.connection.specs.State.{live_at}
use Rattle.connection.specs.declared.Connection.{Connection}
use Rattle.subscription.specs.Setters.{with_waiting}
use Rattle.subscription.specs.State.{free, is_waiting, is_twin, marked_of, told_of, swept_of}
use Rattle.subscription.specs.Arguments.{context_held}
use Rattle.subscription.specs.Obeys.{is_free, is_context_kept}
use Rattle.subscription.specs.Scaffold.{free_by}
use Rattle.subscription.specs.declared.Subscription.{Subscription}

-- at the place that the search finds
pub waits_here : (l : List Subscription) (r : Option ℕ) → r ≡ position is_waiting l → IfSome r (λ n. is_waiting (get_or l n free) ≡ true)
waits_here l r e = go r e
  where
    go : (r : Option ℕ) → r ≡ position is_waiting l → IfSome r (λ n. is_waiting (get_or l n free) ≡ true)
    go None e = tt
    go (Some n) e = (position-Some is_waiting l n free (sym e)).1

module _ (emitter : ℕ) (s : Subscription) where
  pub marked_now : s.used && eqb s.emitter emitter ≡ true → with_waiting s true ≡ marked_of emitter s
  unfolding marked_of
  marked_now e = rw e

  pub marked_not : s.used && eqb s.emitter emitter ≡ false → s ≡ marked_of emitter s
  unfolding marked_of
  marked_not e = rw e

pub told_in : (l : List Subscription) (at : ℕ) (d : Subscription) → length l ≡ 32 → at < 32 → set l at (with_waiting (get_or l at d) false) ≡ set l at (told_of (get_or l at free))
unfolding told_of
told_in l at d e h = let k : at < length l = omega arith in ap (λ (s : Subscription). set l at (with_waiting s false)) (get_d_any l at d free k)

module _ (cs : List Connection) (s : Subscription) (live : Bool) (q : live ≡ live_at cs s.connection) where
  pub swept_gone : s.used && not live ≡ true → free ≡ swept_of cs s
  unfolding swept_of
  swept_gone t = rw (← q, t)

  pub swept_kept : s.used && not live ≡ false → s ≡ swept_of cs s
  unfolding swept_of
  swept_kept t = rw (← q, t)

-- ---- entries compared
pub twin_not : (s t : Subscription) → (s.emitter ≡ t.emitter → ⊥) → false ≡ is_twin s t
unfolding is_twin
twin_not s t h =
    rw (ne_eqb s.emitter t.emitter h) (go (s.used && t.used && eqb s.connection t.connection) (eqb s.event t.event) (eqb s.object t.object) (eqb s.method t.method))
  where
    go : (a b c d : Bool) → false ≡ (a && false && b && c && d)
    go true b c d = refl
    go false b c d = refl

-- ---- a free entry
-- with count 0 a context is kept where all is zero
pub kept_blank : (x : Bool) (count : ℕ) (l : List ℕ) (b : Bool) → b ≡ is_context_kept count l → (x && eqb count 0 && b) ≡ (x && eqb count 0 && all_zero l)
unfolding is_context_kept
kept_blank x count l b q = go (eqb count 0) refl
  where
    go : (e : Bool) → eqb count 0 ≡ e → (x && e && b) ≡ (x && e && all_zero l)
    go true e = ap (λ (c : Bool). x && true && c) (q ∙ rw (eqb-true count 0 e))
    go false e = rw (and-false x)

-- so both ways to tell one come to the same
pub free_is : (s : Subscription) (kept : Bool) → kept ≡ is_context_kept s.context_count s.context → free_by kept s ≡ is_free s
unfolding is_free
free_is s kept k =
    let x = not s.used && not s.waiting && eqb s.connection 0 && eqb s.emitter 0 && eqb s.event 0 && eqb s.object 0 && eqb s.method 0 in
    kept_blank x s.context_count s.context kept k

-- ---- contexts
pub kept_low : (count : ℕ) (l : List ℕ) → is_context_kept count l ≡ true → count ≤ 64
unfolding is_context_kept
kept_low count l k = leb-true count 64 (and_left (leb count 64) _ k)

-- the context that add gives fills the front of the 64 bytes
pub context_copied : (part context : List ℕ) (n : ℕ) → n ≡ context_given part → context_given part ≤ 64 → 21 + context_given part ≤ length part → context ≡ sets (replicate 64 0) 0 (take (18 + n - 18) (drop 18 part)) → context ≡ context_held part
unfolding context_held zeros
context_copied part context n g h l e =
    let c = take n (drop 18 part) in
    let k : 18 + n - 18 ≡ n = omega arith in
    let w : length c ≡ n = simp (length-take, length-drop) (omega arith) in
    let f : sets (replicate 64 0) 0 c ≡ c ++ drop (length c) (replicate 64 0) = sets_front c (replicate 64 0) (omega arith) in
    e ∙ rw (k, ← g) (f ∙ ap (λ (z : List ℕ). c ++ z) (rw w (drop_zeros n 64)))

-- and is kept, whatever the arguments' length
pub held_kept : (part : List ℕ) → context_given part ≤ 64 → is_context_kept (context_given part) (context_held part) ≡ true
unfolding is_context_kept context_held
held_kept part h =
    let n = context_given part in
    let c = take n (drop 18 part) in
    let low : length c ≤ n = simp length-take (omega arith) in
    let j : n ≡ length c + (n - length c) = omega arith in
    rw (le-leb n 64 h)
    (ap (λ (k : ℕ). all_zero (drop k (c ++ zeros (64 - n)))) j
    ∙ ap all_zero (drop-append-add c (zeros (64 - n)) (n - length c) ∙ drop_zeros (n - length c) (64 - n))
    ∙ all_zero_zeros (64 - n - (n - length c)))

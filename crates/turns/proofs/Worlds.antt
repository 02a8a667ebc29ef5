-- What is handed over in several writes, or in parts. Assumes nothing.
use Rattle.std.proofs.Common.{ℕ, ◌+◌, ◌-◌, ◌≤◌, ◌<◌, ◌≡◌, ap, ◌∙◌, subst, Bool, true, false, List, [], arith, length, take, drop, length-take, length-drop, length-append, Ok, Err, Some, None, Result, IsOk, IsErr}
use lib.Seq.{take_all, take-take, take-add, length-take-le}
use Rattle.std.specs.Prelude.{IfSome}
use Rattle.std.specs.Io.KnownBytes.{Appends}
use Rattle.std.specs.declared.option.Option.{Option}
use Rattle.std.proofs.KnownBytes.{Appends-nil, Appends-trans}
use Rattle.std.proofs.lemmas.Result.{on_ok_weaker, on_err_weaker}
use Rattle.turns.proofs.Outcomes.{on_ok}
use Rattle.turns.specs.Scaffold.{HandsOver, HandsWhole, OfWhole}

-- a write more, of the front of what is left
pub writes_more : (a b c : Option (List ℕ)) (s : List ℕ) (done n : ℕ) → done ≤ length s → Appends a b (take done s)
    → n ≤ length (take (length s - done) (drop done s)) → Appends b c (take n (take (length s - done) (drop done s)))
    → (done + n ≤ length s) × Appends a c (take (done + n) s)
writes_more a b c s done n h p l q =
    let d : take (length s - done) (drop done s) ≡ drop done s = take_all (length s - done) (drop done s) (omega (arith, length-drop done s)) in
    let l₁ : n ≤ length (drop done s) = rw d at l in
    let q₁ : Appends b c (take n (drop done s)) = rw d at q in
    (omega (arith, length-drop done s), rw (take-add done n s) (Appends-trans a b c (take done s) (take n (drop done s)) p q₁))

-- text for which there was no room behind some that was kept
pub no_room : (room : Option ℕ) (text₀ text : Option (List ℕ)) (said a : List ℕ) (m : ℕ) → Appends text₀ text said → length said + length a ≤ m
    → IfSome room (λ n. IfSome text (λ t. n < length t + length a)) → IfSome room (λ n. IfSome text₀ (λ k. n < length k + m))
no_room None text₀ text said a m k l h = tt
no_room (Some n) None text said a m k l h = tt
no_room (Some n) (Some x) None said a m k l h = absurd k
no_room (Some n) (Some x) (Some y) said a m k l h = omega (arith, h, l, ap length k, length-append x said)

-- a front was taken whole, and then the rest or a front of it: for whoever hands over in two parts, as two edits do
pub hands_two : {E F : Type 0} (a b d : Option (List ℕ)) (m m₁ m₂ : Option ℕ) (f : ℕ) (s : List ℕ) (q : Result (Unit {0}) E) (r : Result (Unit {0}) F)
    → f ≤ length s → IsOk q → HandsOver a b m m₁ (take f s) q → HandsOver b d m₁ m₂ (take (length s - f) (drop f s)) r → HandsOver a d m m₂ s r
hands_two a b d m m₁ m₂ f s q r h o p k =
    let n = length-take-le f s h in
    let t : p.taken ≡ f = on_ok q o p.all ∙ n in
    let x : Appends a b (take f s) = subst (λ z. Appends a b z) (ap (λ i. take i (take f s)) t ∙ take_all f (take f s) (omega (arith, n))) p.takes in
    let w = writes_more a b d s f k.taken h x k.within k.takes in
    let l : length (take (length s - f) (drop f s)) ≡ length s - f = length-take-le (length s - f) (drop f s) (omega (arith, length-drop f s)) in
    record {
      taken = f + k.taken;
      within = w.0;
      takes = w.1;
      same = k.same ∙ p.same;
      all = on_ok_weaker r (λ e. omega (arith, e, l, h)) k.all;
      full = on_err_weaker r (λ e. no_room m a b (take f s) (take (length s - f) (drop f s)) (length s) x (omega (arith, l, n, h)) (subst (λ m. IfSome m (λ i. IfSome b (λ t. i < length t + length (take (length s - f) (drop f s))))) p.same e)) k.full;
    }

-- ---- a sink that is whole
-- what follows of it
pub of_whole : (b : Bool) {P Q : Type 0} → (P → Q) → OfWhole b P → OfWhole b Q
of_whole true f p = f p
of_whole false f p = p

-- as of any sink: a front of the text was taken, or none of it
abbrev pub fronts : {E : Type 0} {text text' : Option (List ℕ)} {room room' : Option ℕ} {s : List ℕ} {r : Result (Unit {0}) E}
    → HandsWhole text text' room room' s r → HandsOver text text' room room' s r
fronts h = record { taken = h.taken; within = h.within; takes = h.takes; same = h.same; all = h.all; full = h.full }

-- a text of which a front was refused, for the same
pub whole_front : {E F : Type 0} (b : Bool) (a c : Option (List ℕ)) (m m₁ : Option ℕ) (f : ℕ) (s : List ℕ) (e : E) (q : Result (Unit {0}) E) (r : Result (Unit {0}) F)
    → q ≡ Err e → IsErr r → OfWhole b (HandsWhole a c m m₁ (take f s) q) → OfWhole b (HandsWhole a c m m₁ s r)
whole_front b a c m m₁ f s e q (Ok x) u v k = cc
whole_front b a c m m₁ f s e (Ok x) (Err z) u v k = cc
whole_front b a c m m₁ f s e (Err y) (Err z) u v k =
    of_whole b (λ h. let n = length-take f s in
    record {
      taken = h.taken;
      within = omega (arith, n, h.within);
      takes = subst (λ z. Appends a c z) (take-take h.taken f s (omega (arith, n, h.within))) h.takes;
      same = h.same;
      all = tt;
      none = h.none;
      full = no_room m a a [] (take f s) (length s) (Appends-nil a) (omega (arith, n)) h.full;
    }) k

-- Arguments' counts and lengths, and a mute's place. Assumes nothing.
use Prim.Native.Nat.{ℕ, ◌+◌, ◌-◌, ◌<◌, ◌≤◌}
use mathlib.Core.Path.{◌≡◌, refl, sym, ap, ◌∙◌}
use mathlib.Core.Bool.{Bool, true, false, not, ◌&&◌, ◌||◌, or-false}
use mathlib.Core.List.{List}
use native.Mathlib.Omega.{arith}
use borrow.Author.Tests.{leb-true, ltb-false, eq-eqb, ne_eqb, eqb-true, not-false}
use lib.Dec.{leb, eqb}
use lib.ListN.{length, get_or}
use Rattle.laws.proofs.Conds.{cond_right, and_left, and_right}
use Rattle.laws.proofs.Tables.{or_neither}
use Rattle.mechanism.specs.Arguments.{is_misfit}
use Rattle.numbers.specs.Status.{no_object, no_method, forbidden, malformed, carried_out, status_number}
use Rattle.numbers.specs.declared.Status.{Status}
use Rattle.std.proofs.Common.{◌≢◌, Result, Ok, Err}
use Rattle.std.specs.Result.{IsErrAnd}
use Rattle.objects.specs.declared.Method.{Method}
use Rattle.objects.specs.declared.Method.TheVariants as method
use Rattle.objects.specs.Methods.{method_of, is_mute, add_method, reset_key_method, place_of, is_object, is_telling, is_locking, is_muting, is_subscribing, has_method}
use Rattle.objects.specs.Tests.{is_forbidden, count_of, context_given, mode_given, length_of, is_length_bad, is_pair_bad, is_malformed, is_add_bad, first_status, FirstStatus}
use Rattle.octets.specs.Numbers.{bytes16}
use Rattle.objects.specs.Answers.{identification_of, class_fields}
use Rattle.objects.specs.declared.Class.{Class}
use Rattle.objects.specs.declared.Class.TheVariants as class
use Rattle.objects.specs.Scaffold.{Allowed}

-- ---- a mute
pub record MuteAt (target : ℕ) : Type 0 where
  pub low : 4097 ≤ target
  pub high : target ≤ 4104

pub mute_at_lem : (target : ℕ) → is_mute target ≡ true → MuteAt target
unfolding is_mute
mute_at_lem target h =
    record { low = leb-true 4097 target (and_left _ _ h); high = leb-true target 4104 (and_right (leb 4097 target) _ h) }

pub place_is : (target : ℕ) → is_mute target ≡ true → (target - 4097 ≡ place_of target) × (target - 4097 < 8)
unfolding place_of
place_is target h = (refl, omega (arith, mute_at_lem target h))

-- ---- the shape of the arguments
module _ (part : List ℕ) where
  -- 3.1: shorter than any context leaves it, or not as long as its context tells, or the last pair
  pub add_short : length part < 21 → true ≡ (is_length_bad add_method part || is_pair_bad add_method part)
  unfolding is_length_bad length_of
  add_short h = rw (ne_eqb (length part) (21 + context_given part) (λ e. omega (arith, e, h)))

  module _ (n : ℕ) (c : n ≡ context_given part) where
    pub add_misfit : (length part ≡ 21 + n → ⊥) → true ≡ (is_length_bad add_method part || is_pair_bad add_method part)
    unfolding is_length_bad length_of
    add_misfit f = rw (← c, ne_eqb (length part) (21 + n) f)

    pub add_pair : length part ≡ 21 + n → not (eqb (get_or part (19 + n) 0) 0 && eqb (get_or part (20 + n) 0) 0) ≡ (is_length_bad add_method part || is_pair_bad add_method part)
    unfolding is_length_bad length_of is_pair_bad
    add_pair e = rw (← c, eq-eqb (length part) (21 + n) e)

  -- a context that is not refused
  pub add_held : is_add_bad part ≡ false → context_given part ≤ 64
  unfolding is_add_bad
  add_held f = ltb-false 64 (context_given part) (or_neither (not (eqb (mode_given part) 1)) _ f).1

module _ (m count : ℕ) (part : List ℕ) (k : ℕ) (q : k ≡ count_of m) where
  pub count_bad : (count ≡ k → ⊥) → true ≡ is_malformed m count part
  unfolding is_malformed
  count_bad n = rw (← q, ne_eqb count k n)

  pub misfit_is : count ≡ k → m ≡ 196622 → (b : Bool) → b ≡ is_misfit part → b ≡ is_malformed m count part
  unfolding is_malformed is_length_bad is_pair_bad
  misfit_is e r b f = rw (← q, eq-eqb count k e, r, ← f, or-false)

  pub add_is : count ≡ k → m ≡ 196609 → (b : Bool) → b ≡ (is_length_bad add_method part || is_pair_bad add_method part) → b ≡ is_malformed m count part
  unfolding is_malformed
  add_is e r b f = rw (← q, eq-eqb count k e, r, f)

  pub length_is : count ≡ k → (m ≡ 196622 → ⊥) → (m ≡ 196609 → ⊥) → (l : ℕ) → ((p : List ℕ) → l ≡ length_of m p) → not (eqb (length part) l) ≡ is_malformed m count part
  unfolding is_malformed is_length_bad is_pair_bad
  length_is e r n l p = rw (← q, eq-eqb count k e, ne_eqb m 196622 r, ← p part, ne_eqb m 196609 n, or-false)

-- what a command that is not malformed has: 3.14 tells its own length
pub record Formed (m count : ℕ) (part : List ℕ) : Type 0 where
  pub number : count ≡ count_of m
  pub size : eqb m reset_key_method ≡ false → length part ≡ length_of m part
  pub fit : eqb m reset_key_method ≡ true → is_misfit part ≡ false

pub formed_are : (m count : ℕ) (part : List ℕ) → is_malformed m count part ≡ false → Formed m count part
unfolding is_malformed is_length_bad
formed_are m count part h =
    let e = or_neither (not (eqb count (count_of m)) || is_length_bad m part) (is_pair_bad m part) h in
    let f = or_neither (not (eqb count (count_of m))) (is_length_bad m part) e.0 in
    record {
      number = eqb-true _ _ (not-false _ f.0);
      size = λ (z : eqb m reset_key_method ≡ false). eqb-true _ _ (not-false _ (rw z at f.1));
      fit = λ (z : eqb m reset_key_method ≡ true). rw z at f.1;
    }

-- ---- a number that no method has
module _ (m : ℕ) (n : (x : Method) → method_of x ≢ m) where
  is_none : (x : Method) → eqb m (method_of x) ≡ false
  is_none x = ne_eqb m (method_of x) (λ e. n x (sym e))

  -- no object has it
  pub unnamed_not : (t : ℕ) → false ≡ has_method t m
  unfolding has_method is_telling is_locking is_muting is_subscribing
  unnamed_not t =
      rw (is_none method.Class, is_none method.Lockable, is_none method.Lock, is_none method.Unlock, is_none method.Get, is_none method.Set, is_none method.Add, is_none method.Remove, is_none method.ResetKey)

  -- and it takes no parameter and no byte
  pub unnamed_malformed : (count : ℕ) (part : List ℕ) (b : Bool) → b ≡ eqb (length part) 0 → (not (eqb count 0) || not b) ≡ is_malformed m count part
  unfolding is_malformed is_length_bad is_pair_bad count_of length_of
  unnamed_malformed count part b q =
      rw (q, is_none method.Set, is_none method.Add, is_none method.Remove, is_none method.ResetKey) (sym (or-false _))

-- ---- the first that applies of 5, 11, 8, 4
module _ (t m count : ℕ) (part : List ℕ) where
  pub first_object : false ≡ is_object t → no_object ≡ first_status t m count part
  unfolding first_status
  first_object o = rw (← o)

  -- no method has that number
  pub first_unnamed : true ≡ is_object t → ((x : Method) → method_of x ≢ m) → no_method ≡ first_status t m count part
  unfolding first_status
  first_unnamed o n = rw (← o, ← unnamed_not m n t)

  -- a status that a call handed up
  pub first_err : (r : Result Method Status) (s : Status) → IsErrAnd r (λ e. e ≡ s) → status_number s ≡ first_status t m count part → FirstStatus t m count part r
  first_err (Ok x) s i e = absurd i
  first_err (Err y) s i e = rw i e

module _ (t : ℕ) (x : Method) (m count : ℕ) (part : List ℕ) (e : method_of x ≡ m) (o : true ≡ is_object t) where
  pub first_method : false ≡ has_method t (method_of x) → no_method ≡ first_status t m count part
  unfolding first_status
  first_method h = rw (← e, ← o, ← h)

  pub first_forbidden : true ≡ has_method t (method_of x) → true ≡ is_forbidden t (method_of x) → forbidden ≡ first_status t m count part
  unfolding first_status
  first_forbidden h f = rw (← e, ← o, ← h, ← f)

  pub first_malformed : true ≡ has_method t (method_of x) → false ≡ is_forbidden t (method_of x) → true ≡ is_malformed (method_of x) count part → malformed ≡ first_status t m count part
  unfolding first_status
  first_malformed h f l = rw (← e, ← o, ← h, ← f, ← l)

  pub first_none : true ≡ has_method t (method_of x) → false ≡ is_forbidden t (method_of x) → false ≡ is_malformed (method_of x) count part → first_status t m count part ≡ carried_out
  unfolding first_status
  first_none h f l = rw (← e, ← o, ← h, ← f, ← l)

-- none of them applies
pub first_allowed : (t m count : ℕ) (part : List ℕ) → first_status t m count part ≡ 0 → Allowed t m part × (count ≡ count_of m)
unfolding first_status
first_allowed t m count part e =
    let o = cond_right (not (is_object t)) 5 _ 0 e (λ k. omega arith) in
    let h = cond_right (not (has_method t m)) 11 _ 0 o.1 (λ k. omega arith) in
    let f = cond_right (is_forbidden t m) 8 _ 0 h.1 (λ k. omega arith) in
    let l = cond_right (is_malformed m count part) 4 0 0 f.1 (λ k. omega arith) in
    let c = (formed_are m count part l.0).number in (
      record {
        object = not-false (is_object t) o.0;
        method = not-false (has_method t m) h.0;
        allowed = f.0;
        formed = ap (λ (j : ℕ). is_malformed m j part) (sym c) ∙ l.0;
      },
      c,
    )

-- ---- what a reply carries
pub class_fits : (c : Class) → length (identification_of (class_fields c)) ≤ 12
unfolding identification_of bytes16
class_fits class.Mute = omega arith
class_fits class.DeviceManager = omega arith
class_fits class.SubscriptionManager = omega arith

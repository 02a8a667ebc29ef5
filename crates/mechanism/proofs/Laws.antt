-- The mechanism's tests, case by case. Assumes nothing.
use Prim.Native.Nat.{ℕ, ◌+◌, ◌-◌, ◌<◌}
use mathlib.Core.Path.{◌≡◌, refl, sym, ap, ◌∙◌}
use mathlib.Core.Bool.{Bool, true, false, cond, not, ◌&&◌, ◌||◌}
use mathlib.Core.List.{List, ◌++◌}
use native.Mathlib.Omega.{arith}
use borrow.Author.Tests.{ne_eqb, eqb-true, not-false}
use lib.Dec.{eqb}
use lib.ListN.{length, take, drop, length-take, take-append-drop}
use Rattle.octets.specs.Numbers.{be16_at}
use Rattle.octets.specs.Zeros.{all_zero}
use Rattle.octets.specs.Same.{same_bytes}
use Rattle.octets.proofs.Scans.{and_false, and_assoc}
use Rattle.octets.proofs.Sames.{same_append, same_long}
use Rattle.std.proofs.Common.{Some, None}
use Rattle.mechanism.specs.Arguments.{address_taken, mechanism_in, key_in, text_in, port_in, is_misfit, is_multicast, is_text_taken, address_of, is_untaken, armed_by, arming_of}
use Rattle.mechanism.specs.Obeys.{is_address_taken, mechanism_obeys}
use Rattle.mechanism.specs.Datagram.{sentinel, resets}
use Rattle.mechanism.specs.declared.Mechanism.{Mechanism}

-- ---- the length of the arguments
pub misfit_short : (part : List ℕ) → length part < 20 → true ≡ is_misfit part
unfolding is_misfit
misfit_short part h = rw (ne_eqb (length part) (20 + be16_at part 16) (λ e. omega arith))

pub misfit_told : (part : List ℕ) (k : ℕ) → k ≡ be16_at part 16 → not (eqb (length part) (20 + k)) ≡ is_misfit part
unfolding is_misfit
misfit_told part k e = rw e

pub fitting : (part : List ℕ) → is_misfit part ≡ false → length part ≡ 20 + be16_at part 16
unfolding is_misfit
fitting part f = eqb-true _ _ (not-false _ f)

-- ---- what they arm
module _ (part : List ℕ) (f : is_misfit part ≡ false) where
  -- the text stands before the last two bytes, and they are the port
  pub text_is : take (length part - 2 - 18) (drop 18 part) ≡ text_in part
  unfolding text_in
  text_is = let q : length part - 2 - 18 ≡ be16_at part 16 = omega (arith, fitting part f) in rw q

  pub port_is : be16_at part (length part - 2) ≡ port_in part
  unfolding port_in
  port_is = let q : length part - 2 ≡ 18 + be16_at part 16 = omega (arith, fitting part f) in rw q

  pub text_untaken : None ≡ address_taken (take (length part - 2 - 18) (drop 18 part)) → None ≡ mechanism_in (arming_of part)
  unfolding arming_of is_untaken
  text_untaken n = go (is_text_taken (text_in part)) refl (n ∙ ap address_taken text_is)
    where
      go : (b : Bool) → is_text_taken (text_in part) ≡ b → None ≡ cond b (Some (address_of (text_in part))) None → None ≡ mechanism_in (arming_of part)
      go true e n = cc
      go false e n = rw e

  pub arms : (address : List ℕ) (port : ℕ) → Some address ≡ address_taken (take (length part - 2 - 18) (drop 18 part)) → port ≡ be16_at part (length part - 2)
      → mechanism_in (arming_of part) ≡ cond (eqb port 0) None (Some (record { armed = true; key = key_in part; address = address; port = port }))
  unfolding arming_of is_untaken armed_by
  arms address port n p = go (is_text_taken (text_in part)) refl (n ∙ ap address_taken text_is) (eqb port 0) refl
    where
      go : (b : Bool) → is_text_taken (text_in part) ≡ b → Some address ≡ cond b (Some (address_of (text_in part))) None
          → (z : Bool) → eqb port 0 ≡ z → mechanism_in (arming_of part) ≡ cond z None (Some (record { armed = true; key = key_in part; address = address; port = port }))
      go true e n true q = let w : port_in part ≡ port = sym port_is ∙ sym p in rw (w, e, q)
      go true e n false q =
          let w : port_in part ≡ port = sym port_is ∙ sym p in
          let v : address_of (text_in part) ≡ address = cc in rw (w, e, q, v)
      go false e n z q = cc

  -- what the port and the text decide, with no name for either
  pub portless : be16_at part (length part - 2) ≡ 0 → None ≡ mechanism_in (arming_of part)
  unfolding arming_of is_untaken
  portless z =
      let w : port_in part ≡ 0 = sym port_is ∙ z in
      let b : (not (is_text_taken (text_in part)) || true) ≡ true = grind arith in
      rw (w, b)

  pub armed : is_text_taken (take (length part - 2 - 18) (drop 18 part)) ≡ true → (be16_at part (length part - 2) ≡ 0 → ⊥)
      → mechanism_in (arming_of part) ≡ Some (record { armed = true; key = key_in part; address = address_of (take (length part - 2 - 18) (drop 18 part)); port = be16_at part (length part - 2) })
  armed t n = arms (address_of (take (length part - 2 - 18) (drop 18 part))) (be16_at part (length part - 2)) (rw t) refl ∙ rw (ne_eqb (be16_at part (length part - 2)) 0 n)

-- ---- the rules
module _ (m : Mechanism) (none : Bool) (en : none ≡ all_zero m.address) where
  pub armed_obeys : m.armed ≡ true → (multicast : Bool) → multicast ≡ is_multicast m.address → ((none || multicast) && not (eqb m.port 0)) ≡ mechanism_obeys m
  unfolding mechanism_obeys is_address_taken
  armed_obeys t multicast em = rw (t, en, em)

  pub disarmed_obeys : m.armed ≡ false → (blank : Bool) → blank ≡ all_zero m.key → (blank && none && eqb m.port 0) ≡ mechanism_obeys m
  unfolding mechanism_obeys
  disarmed_obeys t blank eb = rw (t, en, eb)

-- ---- the datagram
module _ (m : Mechanism) (datagram : List ℕ) (l : length m.key ≡ 16) where
  pub other_length : (length datagram ≡ 24 → ⊥) → false ≡ resets m datagram
  unfolding resets
  other_length n =
      let k : (length datagram ≡ length (sentinel ++ m.key) → ⊥) = λ e. n (e ∙ rw l) in
      rw (← same_long datagram (sentinel ++ m.key) k) (sym (and_false m.armed))

  pub resets_is : length datagram ≡ 24 → (f k : List ℕ) → f ≡ take 8 datagram → k ≡ drop 8 datagram → (a b : Bool) → a ≡ same_bytes f sentinel → b ≡ same_bytes k m.key → (m.armed && a && b) ≡ resets m datagram
  unfolding resets
  resets_is h f k ef ek a b ea eb =
      let front : length (take 8 datagram) ≡ 8 = simp length-take (omega arith) in
      let joined : same_bytes datagram (sentinel ++ m.key) ≡ (same_bytes (take 8 datagram) sentinel && same_bytes (drop 8 datagram) m.key) =
      ap (λ (x : List ℕ). same_bytes x (sentinel ++ m.key)) (sym (take-append-drop 8 datagram)) ∙ same_append (take 8 datagram) sentinel (drop 8 datagram) m.key front in
      sym (and_assoc m.armed a b) ∙ ap (λ (t : Bool). m.armed && t) (rw (ea, eb, ef, ek) (sym joined))

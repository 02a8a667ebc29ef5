-- The theorems of the mechanism. Assumes nothing.
use Prim.Native.Nat.{ℕ, ◌≤◌}
use mathlib.Core.Path.{◌≡◌, refl, sym, ap, ◌∙◌}
use mathlib.Core.Bool.{Bool, true, false, cond, not, ◌&&◌}
use mathlib.Core.List.{List, [], ◌∷◌, ◌++◌}
use mathlib.Core.Logic.{◌⊎◌, inl, inr}
use native.Mathlib.Omega.{arith}
use borrow.Author.Tests.{ne_eqb, not-false}
use lib.Dec.{eqb}
use lib.ListN.{length, drop, length-append}
use Rattle.laws.specs.Decimal.{decimal_of}
use Rattle.laws.proofs.Conds.{and_left, and_right}
use Rattle.laws.proofs.Tables.{or_cases, or_neither, or_right}
use Rattle.octets.specs.Zeros.{zeros, all_zero}
use Rattle.octets.proofs.Scans.{zeros_of_all}
use Rattle.octets.proofs.Sames.{same_are, same_refl}
use Rattle.dotted.specs.Text.{dotted_of, text_of, dotted_as}
use Rattle.dotted.proofs.Exacts.{dotted_exact}
use Rattle.mechanism.specs.State.{no_address, disarmed, with_key}
use Rattle.mechanism.specs.Arguments.{text_in, port_in, is_multicast, is_group, is_text_taken, address_of, is_untaken, armed_by}
use Rattle.mechanism.specs.Obeys.{is_address_taken, mechanism_obeys}
use Rattle.mechanism.specs.Datagram.{sentinel, resets}
use Rattle.mechanism.specs.Kept.{MechanismKept, ResetsExactly, AddressesTaken}
use Rattle.mechanism.specs.declared.Mechanism.{Mechanism}

-- ---- the rules
rest : mechanism_obeys disarmed ≡ true
unfolding mechanism_obeys all_zero
rest = refl

text_taken : (text : List ℕ) → is_text_taken text ≡ true → is_address_taken (address_of text) ≡ true
unfolding is_text_taken address_of is_address_taken is_group all_zero
text_taken text h = go (eqb (length text) 0) refl
  where
    go : (t : Bool) → eqb (length text) 0 ≡ t → is_address_taken (cond t no_address (dotted_of text).address) ≡ true
    go true e = refl
    go false e =
        let g : (dotted_of text).sound && is_multicast (dotted_of text).address ≡ true = rw e at h in
        or_right (all_zero (dotted_of text).address) _ (and_right (dotted_of text).sound _ g)

arming : (part : List ℕ) → is_untaken part ≡ false → mechanism_obeys (armed_by part) ≡ true
unfolding mechanism_obeys armed_by is_untaken
arming part h =
    let k = or_neither (not (is_text_taken (text_in part))) (eqb (port_in part) 0) h in
    rw (text_taken (text_in part) (not-false _ k.0), k.1)

rekeying : (m : Mechanism) (key : List ℕ) → m.armed ≡ true → mechanism_obeys (with_key m key) ≡ mechanism_obeys m
unfolding mechanism_obeys
rekeying m key t = rw t

pub mechanism_kept : MechanismKept
mechanism_kept = record { rest = rest; arming = arming; rekeying = rekeying }

-- ---- the datagram
only : (m : Mechanism) (datagram : List ℕ) → resets m datagram ≡ true → (m.armed ≡ true) × (datagram ≡ sentinel ++ m.key)
unfolding resets
only m datagram h = (and_left m.armed _ h, same_are datagram (sentinel ++ m.key) (and_right m.armed _ h))

always : (m : Mechanism) → m.armed ≡ true → resets m (sentinel ++ m.key) ≡ true
unfolding resets
always m t = rw t (same_refl (sentinel ++ m.key))

never : (m : Mechanism) (datagram : List ℕ) → m.armed ≡ false → resets m datagram ≡ false
unfolding resets
never m datagram t = rw t

long : (m : Mechanism) (datagram : List ℕ) → length m.key ≡ 16 → resets m datagram ≡ true → length datagram ≡ 24
long m datagram l h = ap length (only m datagram h).1 ∙ rw l

one : (m : Mechanism) (key datagram : List ℕ) → resets m datagram ≡ true → resets (with_key m key) datagram ≡ true → key ≡ m.key
one m key datagram h k =
    let e : sentinel ++ key ≡ sentinel ++ m.key = sym (only (with_key m key) datagram k).1 ∙ (only m datagram h).1 in
    ap (drop 8) e

pub resets_exactly : ResetsExactly
resets_exactly = record { only = only; always = always; never = never; long = long; one = one }

-- ---- addresses
zeros_four : (a b c d : ℕ) → all_zero (a ∷ b ∷ c ∷ d ∷ []) ≡ true → no_address ≡ a ∷ b ∷ c ∷ d ∷ []
unfolding zeros
zeros_four a b c d e = sym (zeros_of_all (a ∷ b ∷ c ∷ d ∷ []) e)

-- the text of an address is not empty
text_some : (a b : ℕ) (more : List ℕ) → eqb (length (text_of (a ∷ b ∷ more))) 0 ≡ false
unfolding text_of
text_some a b more =
    let l = length-append (decimal_of a) (46 ∷ text_of (b ∷ more)) in
    ne_eqb (length (text_of (a ∷ b ∷ more))) 0 (λ (e : length (text_of (a ∷ b ∷ more)) ≡ 0). omega (arith, l, e))

addresses : (a b c d : ℕ) → a ≤ 255 → b ≤ 255 → c ≤ 255 → d ≤ 255 → is_address_taken (a ∷ b ∷ c ∷ d ∷ []) ≡ true
    → (text : List ℕ) × ((is_text_taken text ≡ true) × (address_of text ≡ a ∷ b ∷ c ∷ d ∷ []))
unfolding is_address_taken is_text_taken address_of is_group
addresses a b c d ha hb hc hd e = go (or_cases (all_zero address) (is_multicast address) e)
  where
    address : List ℕ
    address = a ∷ b ∷ c ∷ d ∷ []

    read : dotted_of (text_of (a ∷ b ∷ c ∷ d ∷ [])) ≡ dotted_as a b c d
    read = dotted_exact.accepts a b c d ha hb hc hd

    some : eqb (length (text_of (a ∷ b ∷ c ∷ d ∷ []))) 0 ≡ false
    some = text_some a b (c ∷ d ∷ [])

    go : (all_zero address ≡ true) ⊎ (is_multicast address ≡ true) → (text : List ℕ) × ((is_text_taken text ≡ true) × (address_of text ≡ address))
    go (inl z) = ([], (refl, zeros_four a b c d z))
    go (inr m) = (text_of (a ∷ b ∷ c ∷ d ∷ []), (rw (some, read) m, rw (some, read) refl))

pub addresses_taken : AddressesTaken
addresses_taken = record { texts = text_taken; addresses = addresses }

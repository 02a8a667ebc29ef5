-- What the mechanism keeps: all that those above it use.
use Rattle.std.specs.Prelude.{ℕ, ◌≤◌, ◌≡◌, true, false, List, [], ◌∷◌, ◌++◌, length}
use Rattle.mechanism.specs.State.{disarmed, with_key}
use Rattle.mechanism.specs.Arguments.{is_untaken, armed_by, is_text_taken, address_of}
use Rattle.mechanism.specs.Obeys.{is_address_taken, mechanism_obeys}
use Rattle.mechanism.specs.Datagram.{sentinel, resets}
use Rattle.mechanism.specs.declared.Mechanism.{Mechanism}

-- Theorem. Disarmed, and armed by arguments that are taken, the mechanism keeps R61k and R61l.
pub record MechanismKept : Type 0 where
  -- disarmed, and armed by arguments that are taken, it obeys
  pub rest : mechanism_obeys disarmed ≡ true
  pub arming : (part : List ℕ) → is_untaken part ≡ false → mechanism_obeys (armed_by part) ≡ true
  -- the rules do not look at the key of an armed one
  pub rekeying : (m : Mechanism) (key : List ℕ) → m.armed ≡ true → mechanism_obeys (with_key m key) ≡ mechanism_obeys m

-- Theorem. A datagram resets exactly where R75 says so, and fits no two keys.
pub record ResetsExactly : Type 0 where
  pub only : (m : Mechanism) (datagram : List ℕ) → resets m datagram ≡ true → (m.armed ≡ true) × (datagram ≡ sentinel ++ m.key)
  pub always : (m : Mechanism) → m.armed ≡ true → resets m (sentinel ++ m.key) ≡ true
  pub never : (m : Mechanism) (datagram : List ℕ) → m.armed ≡ false → resets m datagram ≡ false
  -- with a key of 16 bytes it has 24
  pub long : (m : Mechanism) (datagram : List ℕ) → length m.key ≡ 16 → resets m datagram ≡ true → length datagram ≡ 24
  -- two keys that one datagram fits are one key
  pub one : (m : Mechanism) (key datagram : List ℕ) → resets m datagram ≡ true → resets (with_key m key) datagram ≡ true → key ≡ m.key

-- Theorem. The addresses that R61l lets stand are those of the texts that 3.14 takes.
pub record AddressesTaken : Type 0 where
  pub texts : (text : List ℕ) → is_text_taken text ≡ true → is_address_taken (address_of text) ≡ true
  pub addresses : (a b c d : ℕ) → a ≤ 255 → b ≤ 255 → c ≤ 255 → d ≤ 255 → is_address_taken (a ∷ b ∷ c ∷ d ∷ []) ≡ true
      → (text : List ℕ) × ((is_text_taken text ≡ true) × (address_of text ≡ a ∷ b ∷ c ∷ d ∷ []))

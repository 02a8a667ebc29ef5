-- A message is decided by its last byte; lists of bytes. Assumes nothing.
use Prim.Native.Nat.{ℕ, zero, suc}
use mathlib.Core.Path.{◌≡◌, sym, ap, ◌∙◌}
use mathlib.Core.Bool.{true}
use mathlib.Core.List.{List, [], ◌∷◌, ◌++◌}
use native.Mathlib.Omega.{arith}
use Rattle.octets.specs.Numbers.{Octets}
use lib.ListN.{take}
use lib.Seq.{length-take-le}
use Rattle.frame.specs.Decide.{decide, taken, settled}
use Rattle.frame.proofs.Ways.{deciding}
use Rattle.stream.specs.Scaffold.{Decides}

pub decides : (xs : List ℕ) → settled (decide xs) ≡ true → Decides (take (taken (decide xs)) xs)
decides xs e =
    let q = deciding.enough xs e in
    record { settles = ap settled q ∙ e; exactly = ap taken q ∙ sym (length-take-le (taken (decide xs)) xs (deciding.within xs)) }

pub octets_nil : Octets []
octets_nil i = omega arith

pub octets_append : (a b : List ℕ) → Octets a → Octets b → Octets (a ++ b)
octets_append [] b p q i = q i
octets_append (x ∷ a) b p q zero = p zero
octets_append (x ∷ a) b p q (suc i) = octets_append a b (λ j. p (suc j)) q i

-- The subscription entries of the code have numbers of 32 bits, as their declaration says. Assumes nothing.
use Prim.Native.Nat.{ℕ, zero, suc}
use mathlib.Core.List.{List, [], ◌∷◌}
use native.Mathlib.Omega.{arith}
use lib.ListN.{get_or}
use mir.Val.{Val}
use denote.Shadow.{shadow}
use denote.Array.{each}
use Rattle.octets.proofs.Scans.{length_zeros}
use Rattle.subscription.specs.State.{free}
use Rattle.subscription.specs.declared.Subscription.{Subscription}
use Rattle.subscription.specs.contracts.Subscription.{the_row}
use Rattle.sent.proofs.Notifications.{Words}

-- what the entries are, as values of the code
abbrev pub Entries : List Subscription → List Val → Type 0
Entries xs us = shadow (each the_row.Denot the_row.own_val xs us)

free_words : Words free
free_words = record { object = omega arith; method = omega arith; held = length_zeros 64 }

pub entries_words : (xs : List Subscription) (us : List Val) → Entries xs us → (i : ℕ) → Words (get_or xs i free)
entries_words [] us e i = free_words
entries_words (x ∷ xs) [] e i = absurd e
entries_words (x ∷ xs) (u ∷ us) e zero =
    let f = e.0.1.1.1.1.1.1.1.1 in
    record { object = f.0.1; method = f.1.0.1; held = f.1.1.0.1.0.1 }
entries_words (x ∷ xs) (u ∷ us) e (suc i) = entries_words xs us e.1 i

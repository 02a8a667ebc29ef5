-- Locking and sweeping keep the rule of the holders. No code is named. Assumes nothing.
use Rattle.std.proofs.Common.{ℕ, ◌+◌, ◌-◌, ◌≡◌, refl, ⊎_elim, Bool, true, false, cond, List, arith, ne_eqb, eqb, ltb}
use Rattle.laws.proofs.Tables.{or_cases, or_right}
use Rattle.connection.specs.State.{live_at}
use Rattle.connection.specs.declared.Connection.{Connection}
use Rattle.holders.specs.Holders.{owner_of, holder_obeys, swept_holder}
use Rattle.holders.specs.Kept.{HoldersKept}

unheld : (cs : List Connection) → holder_obeys cs 0 ≡ true
unfolding holder_obeys
unheld cs = refl

owning : (cs : List Connection) (n : ℕ) → live_at cs n ≡ true → holder_obeys cs (owner_of n) ≡ true
unfolding owner_of holder_obeys
owning cs n l = go (ltb n 8)
  where
    go : (t : Bool) → holder_obeys cs (cond t (n + 1) 0) ≡ true
    go true = let e : n + 1 - 1 ≡ n = omega arith in rw (ne_eqb (n + 1) 0 (λ z. omega arith), e) l
    go false = refl

sweeping : (ds : List Connection) (h : ℕ) → holder_obeys ds (swept_holder ds h) ≡ true
unfolding swept_holder
sweeping ds h = go (holder_obeys ds h) refl
  where
    go : (t : Bool) → holder_obeys ds h ≡ t → holder_obeys ds (cond t h 0) ≡ true
    go true e = e
    go false e = unheld ds

standing : (cs ds : List Connection) → ((n : ℕ) → live_at cs n ≡ true → live_at ds n ≡ true) → (h : ℕ) → holder_obeys cs h ≡ true → holder_obeys ds h ≡ true
unfolding holder_obeys
standing cs ds k h o =
    ⊎_elim (λ (z : eqb h 0 ≡ true). rw z) (λ l. or_right (eqb h 0) _ (k (h - 1) l)) (or_cases (eqb h 0) _ o)

pub holders_kept : HoldersKept
holders_kept = record { unheld = unheld; owning = owning; sweeping = sweeping; standing = standing }

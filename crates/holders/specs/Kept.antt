-- What locking and sweeping keep, for every holder.
use Rattle.std.specs.Prelude.{ℕ, ◌≡◌, true, List}
use Rattle.connection.specs.State.{live_at}
use Rattle.connection.specs.declared.Connection.{Connection}
use Rattle.holders.specs.Holders.{owner_of, holder_obeys, swept_holder}

-- Theorem. Locking, sweeping and opening keep rule R61f.
pub record HoldersKept : Type 0 where
  pub unheld : (cs : List Connection) → holder_obeys cs 0 ≡ true
  pub owning : (cs : List Connection) (n : ℕ) → live_at cs n ≡ true → holder_obeys cs (owner_of n) ≡ true
  -- whatever connections come, a sweep restores the rule
  pub sweeping : (ds : List Connection) (holder : ℕ) → holder_obeys ds (swept_holder ds holder) ≡ true
  -- where every connection that was open still is, the rule stands
  pub standing : (cs ds : List Connection) → ((n : ℕ) → live_at cs n ≡ true → live_at ds n ≡ true)
      → (holder : ℕ) → holder_obeys cs holder ≡ true → holder_obeys ds holder ≡ true

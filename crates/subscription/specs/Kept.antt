-- What marking and sweeping keep, for every subscription entry.
use Rattle.std.specs.Prelude.{◌≡◌, ℕ, true, List}
use Rattle.connection.specs.State.{live_at}
use Rattle.connection.specs.declared.Connection.{Connection}
use Rattle.subscription.specs.State.{free, marked_of, told_of, swept_of}
use Rattle.subscription.specs.Obeys.{entry_obeys, apart}
use Rattle.subscription.specs.declared.Subscription.{Subscription}

-- Theorem. Marking, telling, sweeping and opening keep rules R61g to R61i and R61m.
pub record EntriesKept : Type 0 where
  pub freed : (cs : List Connection) → entry_obeys cs free ≡ true
  pub freed_apart : (s : Subscription) → apart free s ≡ true
  pub even : (s t : Subscription) → apart s t ≡ true → apart t s ≡ true
  pub marking : (cs : List Connection) (emitter : ℕ) (s : Subscription)
      → entry_obeys cs s ≡ true → entry_obeys cs (marked_of emitter s) ≡ true
  pub marking_apart : (emitter : ℕ) (s t : Subscription) → apart s t ≡ true → apart (marked_of emitter s) (marked_of emitter t) ≡ true
  pub telling : (cs : List Connection) (s : Subscription) → entry_obeys cs s ≡ true → entry_obeys cs (told_of s) ≡ true
  pub telling_left : (s t : Subscription) → apart (told_of s) t ≡ apart s t
  pub telling_right : (s t : Subscription) → apart s (told_of t) ≡ apart s t
  -- whatever connections come, a sweep restores the rules
  pub sweeping : (cs ds : List Connection) (s : Subscription) → entry_obeys cs s ≡ true → entry_obeys ds (swept_of ds s) ≡ true
  pub sweeping_apart : (ds : List Connection) (s t : Subscription) → apart s t ≡ true → apart (swept_of ds s) (swept_of ds t) ≡ true
  -- where every connection that was open still is, the rules stand
  pub standing : (cs ds : List Connection) → ((n : ℕ) → live_at cs n ≡ true → live_at ds n ≡ true)
      → (s : Subscription) → entry_obeys cs s ≡ true → entry_obeys ds s ≡ true

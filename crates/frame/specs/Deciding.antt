-- R18. What a stream of messages needs of the deciding byte.
use Rattle.std.specs.Prelude.{ℕ, ◌≤◌, ◌<◌, ◌≡◌, true, List, ◌++◌, length, take}
use Rattle.frame.specs.Limits.{greatest_size}
use Rattle.frame.specs.Decide.{decide, taken, settled}
use Rattle.frame.specs.declared.Decision.TheVariants.{Undecided}

-- Theorem. A deciding byte is one byte, the same whatever follows, and comes by the 2,049th.
pub record Deciding : Type 0 where
  -- a decision takes at least one byte, and at most those there
  pub some : (s : List ℕ) → settled (decide s) ≡ true → 0 < taken (decide s)
  pub within : (s : List ℕ) → taken (decide s) ≤ length s
  -- more bytes do not change it
  pub lasting : (s t : List ℕ) → settled (decide s) ≡ true → decide (s ++ t) ≡ decide s
  -- the bytes up to the deciding byte give the same decision
  pub enough : (s : List ℕ) → settled (decide s) ≡ true → decide (take (taken (decide s)) s) ≡ decide s
  -- every shorter prefix is undecided
  pub before : (s : List ℕ) (n : ℕ) → n < taken (decide s) → decide (take n s) ≡ Undecided
  -- undecided bytes are at most 2,048
  pub short : (s : List ℕ) → decide s ≡ Undecided → length s ≤ greatest_size

use Rattle.std.proofs.Common.{◌≡◌, ◌<◌, ◌≤◌, ℕ, length, get_or}
use Rattle.subscription.specs.State.{swept_of}
use Rattle.subscription.specs.declared.Subscription.{Subscription}
use Rattle.subscription.proofs.all_swept.Given as goal

abbrev pub invariant-loop-s : goal.invariant-loop-s
invariant-loop-s l = record {
  long : length l.s-items ≡ length l.fn.entries;
  left : (k : ℕ) (d : Subscription) → l.s-index ≤ k → get_or l.s-items k d ≡ get_or l.fn.entries k d;
  done : (k : ℕ) (d : Subscription) → k < l.s-index → get_or l.s-items k d ≡ swept_of l.fn.connections (get_or l.fn.entries k d);
}

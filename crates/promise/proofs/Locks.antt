-- Another's lock of what a connection holds: for Reset, and for the technician. Assumes nothing.
use Prim.Native.Nat.{ℕ, ◌+◌, ◌<◌}
use mathlib.Core.Path.{◌≡◌, refl, sym, ap}
use mathlib.Core.Bool.{Bool, cond, true, false, not, ◌&&◌}
use native.Mathlib.Omega.{arith}
use lib.Dec.{eqb, ltb}
use lib.ListN.{get_or}
use borrow.Author.Tests.{eqb-false, ne_eqb}
use Rattle.objects.specs.Answers.{failed_of}
use Rattle.holders.specs.Holders.{owner_of, is_other}
use Rattle.device.specs.declared.Device.{Device}
use Rattle.device.specs.Run.{Ran}
use Rattle.device.proofs.Commands.{lock_other}
use Rattle.promise.specs.Locks.{lock_status}

pub other_holds : (n k : ℕ) → eqb k n ≡ false → is_other (n + 1) k ≡ true
unfolding is_other owner_of
other_holds n k e = go (ltb k 8) refl
  where
    go : (b : Bool) → ltb k 8 ≡ b → not (eqb (n + 1) 0) && not (eqb (n + 1) (cond b (k + 1) 0)) ≡ true
    go true b = rw (ne_eqb (n + 1) 0 (λ z. omega arith), ne_eqb (n + 1) (k + 1) (λ z. eqb-false k n e (omega arith)))
    go false b = rw (ne_eqb (n + 1) 0 (λ z. omega arith))

pub locked_out_lem : (d : Device) (n k at : ℕ) → eqb k n ≡ false → at < 8 → get_or d.holders at 0 ≡ n + 1 → lock_status d k at ≡ 3
unfolding failed_of
locked_out_lem d n k at e h q =
    ap (λ (x : Ran). x.answer.status)
    (sym (lock_other d k at h (is_other (get_or d.holders at 0) k) refl (rw q (other_holds n k e)) (failed_of 3) refl))

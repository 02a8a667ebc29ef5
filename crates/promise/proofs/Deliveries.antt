-- A delivery, on a lent state, is the step of the machine over pieces: for Calls, Kept and Closure. Assumes nothing.
use Prim.Native.Nat.{ℕ, zero, ◌+◌, ◌≤◌, ◌<◌}
use mathlib.Core.Path.{◌≡◌, refl, sym, ap, ◌∙◌}
use mathlib.Core.Bool.{Bool, true, false}
use mathlib.Core.List.{List, [], ◌++◌}
use native.Mathlib.Omega.{arith}
use lib.Dec.{eqb}
use lib.ListN.{length, get_or, set, take, length-append}
use borrow.Author.Tests.{eqb-true, eqb-false}
use Rattle.frame.specs.Decide.{decide, taken, settled}
use Rattle.frame.specs.declared.Decision.{Decision}
use Rattle.frame.specs.declared.Decision.TheVariants.{Undecided, Faulty, Sound}
use Rattle.frame.proofs.Ways.{deciding, unsettled}
use Rattle.area.specs.Area.{part_bytes, area_sound, undecided_of, part_cleared}
use Rattle.connection.specs.State.{live_at}
use Rattle.device.specs.State.{close_of}
use Rattle.device.specs.declared.Device.{Device}
use Rattle.serve.specs.Sound.{sound_of}
use Rattle.stream.specs.Calls.{deliver, Held, put, only}
use Rattle.stream.specs.Scaffold.{whole, delivered}
use Rattle.stream.specs.Lent.{flat, counts_of}
use Rattle.stream.proofs.Lent.{Small, put_same, put_other, get_d_counted, set_counted, undecided_flat, clear_flat, put_flat, area_flat}
use Rattle.endpoint.specs.Deliver.{with_intake}
use Rattle.delivery.specs.Intake.{messaged, delivered_by, taken_in}
use Rattle.endpoint.specs.declared.Record.{Record}
use Rattle.endpoint.proofs.States.{live_low}
use Rattle.promise.specs.Rulebook.{message_by, rule, open?, admit}
use Rattle.promise.specs.Calls.{record_with, area_with, with_taken}
use Rattle.promise.specs.Scaffold.{outcome_of}
use Rattle.promise.proofs.OpenConnections.{GoodAt, only_same, live_closed, live_sound}

pub small : (d : Device) (h : Held) → GoodAt d h → Small h
small d h good n = omega (arith, deciding.short (h n) (unsettled (decide (h n)) (good.waiting n)))

pub area_sound_lem : (d : Device) (h : Held) → GoodAt d h → area_sound (counts_of h 8) (area_with h) ≡ true
area_sound_lem d h good = area_flat h (small d h good) good.waiting

module _ (d : Device) (h : Held) (good : GoodAt d h) (n : ℕ) (live : live_at d.connections n ≡ true) where
  low : n < 8
  low = live_low d.connections n 8 live good.fine.eight

  -- the bytes of connection n, and their count
  held_is : get_or (counts_of h 8) n 0 ≡ length (h n)
  held_is = get_d_counted h 8 n low

  bytes_are : undecided_of (area_with h) n (length (h n)) ≡ h n
  bytes_are = undecided_flat h 8 n (small d h good) low

  emptied_counts : set (counts_of h 8) n 0 ≡ counts_of (put h n []) 8
  emptied_counts = set_counted h 8 n [] low

  emptied_area : part_cleared (area_with h) n ≡ flat (put h n []) 8
  emptied_area = clear_flat h 8 n (small d h good) low

  -- the machine's last step, where the rules come to device e: closed connections hold nothing
  module _ (e : Device) (kept : (k : ℕ) → eqb k n ≡ false → live_at e.connections k ≡ false → live_at d.connections k ≡ false) where
    emptied_none : only (open? e) (put h n []) ≡ put h n []
    emptied_none = only_same (open? e) (put h n []) (λ k z. none k z (eqb k n) refl)
      where
        none : (k : ℕ) → live_at e.connections k ≡ false → (b : Bool) → eqb k n ≡ b → put h n [] k ≡ []
        none k z true q = rw (eqb-true k n q) (put_same h n [])
        none k z false q = put_other h n [] k (eqb-false k n q) ∙ good.empty k (kept k q z)

  closed_kept : (k : ℕ) → eqb k n ≡ false → live_at (close_of d n).connections k ≡ false → live_at d.connections k ≡ false
  closed_kept k q z = sym (live_closed d n k q) ∙ z

  sound_kept : (m : List ℕ) (k : ℕ) → eqb k n ≡ false → live_at (sound_of d n m).device.connections k ≡ false → live_at d.connections k ≡ false
  sound_kept m k q z = sym (live_sound d n m k) ∙ z

  -- what a delivery comes to, by what the bytes decide
  module _ (p out : List ℕ) where
    xs : List ℕ
    xs = h n ++ p

    state : Record
    state = record_with d h

    decided : (x : Decision) → decide (h n ++ p) ≡ x → settled x ≡ true → decide (take (taken x) (h n ++ p)) ≡ x
    decided x e s = ap (λ (y : Decision). decide (take (taken y) (h n ++ p))) (sym e) ∙ deciding.enough (h n ++ p) (ap settled e ∙ s) ∙ e

    by_decision : (x : Decision) → decide (h n ++ p) ≡ x
        → let s = delivered rule open? admit zero (settled x) d h n p out in
        with_intake (record_with d h) n (delivered_by x d (area_with h) n (length (h n)) p (h n ++ p) out)
        ≡ outcome_of (deliver n p out) s.0.0 s.0.1 s.1
    unfolding delivered_by settled delivered outcome_of whole rule messaged with_taken taken message_by
    by_decision Undecided e =
        let l : length (h n) + length p ≡ length (h n ++ p) = sym (length-append (h n) p) in
        let f : length (h n ++ p) ≤ part_bytes = omega (arith, deciding.short (h n ++ p) e) in
        rw (l, set_counted h 8 n (h n ++ p) low, put_flat h 8 n p (small d h good) low f)
    by_decision (Faulty f t) e =
        rw (e, decided (Faulty f t) e refl, emptied_counts, emptied_area, emptied_none (close_of d n) closed_kept)
    by_decision (Sound t) e =
        rw (e, decided (Sound t) e refl, emptied_counts, emptied_area, emptied_none (sound_of d n (take t (h n ++ p))).device (sound_kept (take t (h n ++ p))))

    pub taken_told : with_intake (record_with d h) n (taken_in d (area_with h) n (get_or (counts_of h 8) n 0) p out)
        ≡ (let s = delivered rule open? admit zero (settled (decide (h n ++ p))) d h n p out in outcome_of (deliver n p out) s.0.0 s.0.1 s.1)
    unfolding taken_in
    taken_told = rw (held_is, bytes_are) (by_decision (decide (h n ++ p)) refl)

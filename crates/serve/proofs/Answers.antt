-- A command's answer has at most 12 bytes of parameters. Assumes nothing.
use Prim.Native.Nat.{ℕ, ◌≤◌}
use mathlib.Core.Path.{◌≡◌, refl}
use mathlib.Core.Bool.{Bool, cond, true, false}
use mathlib.Core.List.{List, [], ◌∷◌}
use native.Mathlib.Omega.{arith}
use lib.Dec.{eqb}
use lib.ListN.{length, replicate}
use lib.Seq.{length-sets}
use Rattle.octets.specs.Numbers.{bytes16}
use Rattle.objects.specs.Methods.{is_mute, device_manager, class_method, lockable_method, get_method}
use Rattle.objects.specs.Answers.{reply_room, class_of, identification_of, reply_of, failed_of, answer_with}
use Rattle.objects.specs.Answers.{Carried}
use Rattle.device.specs.Run.{mute_at, status_of, done_of, answer_of, ran_by, run_of}
use Rattle.device.specs.declared.Device.{Device}
use Rattle.device.specs.Run.{Ran}

-- the parameters fit their room
pub record Fitting (a : Carried) : Type 0 where
  pub low : a.length ≤ 12
  pub room : length a.bytes ≡ 12

failed_fits : (status : ℕ) → Fitting (failed_of status)
unfolding failed_of
failed_fits status = record { low = omega arith; room = refl }

told_fits : (bytes : List ℕ) → length bytes ≤ 12 → Fitting (answer_with bytes)
unfolding answer_with
told_fits bytes h = record { low = h; room = length-sets (replicate reply_room 0) 0 bytes }

class_fits : (target : ℕ) → length (identification_of (class_of target)) ≤ 12
unfolding identification_of class_of bytes16
class_fits target = go (is_mute target) (eqb target device_manager)
  where
    go : (a b : Bool) → length (identification_of (cond a (1 ∷ 1 ∷ 1 ∷ 2 ∷ []) (cond b (1 ∷ 3 ∷ 1 ∷ []) (1 ∷ 3 ∷ 4 ∷ [])))) ≤ 12
    go true b = omega arith
    go false true = omega arith
    go false false = omega arith

reply_fits : (target m value : ℕ) → length (reply_of target m value) ≤ 12
unfolding reply_of
reply_fits target m value = go (eqb m class_method) (eqb m lockable_method) (eqb m get_method)
  where
    go : (a b c : Bool) → length (cond a (identification_of (class_of target)) (cond b (cond (is_mute target) 1 0 ∷ []) (cond c (value ∷ []) []))) ≤ 12
    go true b c = class_fits target
    go false true c = omega arith
    go false false true = omega arith
    go false false false = omega arith

pub run_fits : (d : Device) (n target m count : ℕ) (part : List ℕ) → Fitting (run_of d n target m count part).answer
unfolding run_of ran_by answer_of
run_fits d n target m count part = go (eqb (status_of d n target m count part) 0)
  where
    go : (b : Bool)
        → Fitting
        (cond {A = Ran} b (record { device = done_of d n target m part; answer = answer_with (reply_of target m (mute_at d target)) })
        (record { device = d; answer = failed_of (status_of d n target m count part) })).answer
    go true = told_fits (reply_of target m (mute_at d target)) (reply_fits target m (mute_at d target))
    go false = failed_fits (status_of d n target m count part)

use native.Mathlib.Omega.{arith}
use Prim.Native.Nat.{ℕ}
use mathlib.Core.Path.{◌≡◌, sym, ap, ◌∙◌}
use mathlib.Core.List.{List, ◌++◌}
use lib.ListN.{take}
use Rattle.frame.specs.Decide.{decide, taken, settled}
use Rattle.frame.specs.declared.Decision.TheVariants.{Undecided, Faulty, Sound}
use Rattle.area.specs.Area.{undecided_of, part_cleared}
use Rattle.area.specs.Scaffold.{gathered}
use Rattle.area.proofs.Gathers.{waits_gathered, cleared_gathered, decided_behind, message_lies, message_whole}
use Rattle.device.proofs.Times.{close_device}
use Rattle.delivery.proofs.Delivers.{taken_waits, taken_closed, taken_runs}
use Rattle.delivery.proofs.take_in.Goals as goal

pub overflow_sub-result : goal.overflow_sub-result
unfolding settled taken
overflow_sub-result c =
    let a = c.args in
    let e : decide (undecided_of a.area.now a.n a.held.now ++ a.piece.now) ≡ Faulty c.in-Faulty.f c.in-Faulty.t = sym c.gather.ensures.0 ∙ c.in-Faulty.is in
    omega (arith, rw e at (decided_behind a.area.now a.n a.held.now c.requires.0 a.piece.now (rw e)))

pub run-requires : goal.run-requires
run-requires c =
    let a = c.args in
    let e : decide (undecided_of a.area.now a.n a.held.now ++ a.piece.now) ≡ Sound c.in-Sound.t = sym c.gather.ensures.0 ∙ c.in-Sound.is in
    (rw (c.gather.ensures.1, c.fitting.ensures) (message_whole a.area.now a.n a.held.now c.requires.0 a.piece.now c.in-Sound.t e), omega arith)

pub returns-in-Undecided : goal.returns-in-Undecided
returns-in-Undecided c =
    let a = c.args in
    let e : decide (undecided_of a.area.now a.n a.held.now ++ a.piece.now) ≡ Undecided = sym c.gather.ensures.0 ∙ c.in-Undecided.is in
    taken_waits a.device.now a.area.now a.n a.held.now a.piece.now a.output.now c.gather.new.area e
    (c.gather.ensures.1 ∙ waits_gathered a.area.now a.n a.held.now c.requires.0 a.piece.now e)

pub returns-in-Faulty : goal.returns-in-Faulty
returns-in-Faulty c =
    let a = c.args in
    let f = c.in-Faulty in
    let e : decide (undecided_of a.area.now a.n a.held.now ++ a.piece.now) ≡ Faulty f.f f.t = sym c.gather.ensures.0 ∙ f.is in
    taken_closed a.device.now a.area.now a.n a.held.now a.piece.now a.output.now f.f f.t c.close.new.self c.clear_part.new.area e
    (close_device a.device.now a.n _ c.close.ensures.device)
    (c.clear_part.ensures ∙ ap (λ (l : List ℕ). part_cleared l a.n) c.gather.ensures.1 ∙ cleared_gathered a.area.now a.n a.held.now c.requires.0 a.piece.now)

pub returns-in-Sound : goal.returns-in-Sound
unfolding taken
returns-in-Sound c =
    let a = c.args in
    let t = c.in-Sound.t in
    let g = c.gather.new.area in
    let w = c.requires.0 in
    let e : decide (undecided_of a.area.now a.n a.held.now ++ a.piece.now) ≡ Sound t = sym c.gather.ensures.0 ∙ c.in-Sound.is in
    let ge : g ≡ gathered a.area.now a.n a.held.now a.piece.now = c.gather.ensures.1 in
    let m : undecided_of g a.n t ≡ take t (undecided_of a.area.now a.n a.held.now ++ a.piece.now) =
    ap (λ (l : List ℕ). undecided_of l a.n t) ge ∙ (rw e at (message_lies a.area.now a.n a.held.now w a.piece.now)) in
    taken_runs a.device.now a.area.now a.n a.held.now a.piece.now a.output.now t g _ e m (rw ge (cleared_gathered a.area.now a.n a.held.now w a.piece.now)) c.run.ensures

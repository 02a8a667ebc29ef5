use mathlib.Core.Path.{sym, ◌∙◌}
use native.Mathlib.Omega.{arith}
use Rattle.frame.proofs.Entries.{well_kind}
use Rattle.writer.proofs.Outcomes.{sound_bounds, sound_few, append_done}
use Rattle.writer.proofs.append_sound.Goals as goal

pub put_more-requires : goal.put_more-requires
put_more-requires c =
    let s = c in
    let a = s.args in
    let w = c.well_formed-well in
    let k = well_kind a.kind a.e.now (sym w.ensures ∙ (cc)) in
    let b = sound_bounds a.buf.now a.n s.requires.1 in
    let h = c.if-kind-buf.false in
    let few = sound_few a.buf.now a.n s.requires.1 (omega arith) in
    omega arith

pub returns : goal.returns
returns c =
    let s = c in
    let a = s.args in
    let w = c.well_formed-well in
    let b = sound_bounds a.buf.now a.n s.requires.1 in
    append_done a.buf.now a.kind a.e.now a.n c.if-kind-buf.false (sym w.ensures ∙ (cc)) s.requires.1 (omega arith) c.put_more.new.buf c.put_more.ensures

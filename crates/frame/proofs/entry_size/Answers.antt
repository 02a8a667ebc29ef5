use Rattle.std.proofs.Common.{◌≡◌, ◌∙◌, sym, false, length, take, drop, ◌-◌, arith}
use Rattle.laws.proofs.Parts.{rest}
use Rattle.frame.specs.Entry.{is_context_bad}
use Rattle.frame.proofs.Entries.{context_good, entry_told}
use Rattle.frame.proofs.entry_size.Goals as goal

pub slice_bounds-entry_fits-count : goal.slice_bounds-entry_fits-count
slice_bounds-entry_fits-count c =
    let b : is_context_bad c.args.kind c.args.t.now ≡ false = cc in
    omega (arith, (context_good c.args.kind c.args.t.now b).1)

pub slice_bounds-entry_fits-start : goal.slice_bounds-entry_fits-start
slice_bounds-entry_fits-start c =
    let b : is_context_bad c.args.kind c.args.t.now ≡ false = cc in
    omega (arith, (context_good c.args.kind c.args.t.now b).1)

pub returns : goal.returns
returns c =
    let k = c.args.kind in
    let t = c.args.t.now in
    let o = c.parameter_offset-offset.result in
    c.then_some.ensures
    ∙ entry_told k c.least_entry.result o c.given_size-size.result c.count_place.result (take (length t - o) (drop o t)) t c.entry_fits.result
    c.least_entry.ensures c.if-t-least_entry.false (sym c.is_context_bad.ensures ∙ c.if-is_context_bad.false)
    c.parameter_offset-offset.ensures.0 c.given_size-size.ensures.0 c.count_place.ensures (rest o t) c.entry_fits.ensures

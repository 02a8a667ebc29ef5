use Prim.Native.Nat.{ℕ, ◌+◌}
use mathlib.Core.Path.{◌≡◌, ap}
use lib.ListN.{length}
use native.Mathlib.Omega.{arith}
use Rattle.laws.proofs.Parts.{rest}
use Rattle.laws.proofs.Tables.{length_mapped}
use Rattle.feed.proofs.Feedings.{put_back, told_taken, offer_within, offer_fits, offers}
use borrow.Author.Rules.{rules}
use Rattle.feed.proofs.offer.Goals as goal

pub overflow_add-result : goal.overflow_add-result
overflow_add-result c =
    let a = c.args in
    let pre = c.requires in
    let good = c.well_formed in
    let piece = a.piece.now in
    let out = a.output.now in
    let c8 : length a.state.device.connections ≡ 8 = search (length_mapped, good, rules) in
    let h8 : length a.state.held ≡ 8 = search (good, rules) in
    let told = told_taken _ _ c.numbers_told-told.ensures in
    let e = c.deliver-delivered.ensures in
    let w = offer_within a.state a.area.now a.n piece out a.taken a.put pre.0 pre.1 c8 h8 _ _ (rest a.taken piece) (rest a.put out) _ e in
    record { fits = omega arith }

pub overflow_add-result-2 : goal.overflow_add-result-2
overflow_add-result-2 c =
    let a = c.args in
    let pre = c.requires in
    let good = c.well_formed in
    let piece = a.piece.now in
    let out = a.output.now in
    let c8 : length a.state.device.connections ≡ 8 = search (length_mapped, good, rules) in
    let h8 : length a.state.held ≡ 8 = search (good, rules) in
    let told = told_taken _ _ c.numbers_told-told.ensures in
    let e = c.deliver-delivered.ensures in
    let w = offer_fits a.state a.area.now a.n piece out a.taken a.put pre.0 pre.1 c8 h8 _ _ (rest a.taken piece) (rest a.put out) _ e in
    record { fits = omega (arith, c.reply_length-length.ensures) }

pub returns : goal.returns
returns c =
    let a = c.args in
    let pre = c.requires in
    let good = c.well_formed in
    let piece = a.piece.now in
    let out = a.output.now in
    let c8 : length a.state.device.connections ≡ 8 = search (length_mapped, good, rules) in
    let h8 : length a.state.held ≡ 8 = search (good, rules) in
    let told = told_taken _ _ c.numbers_told-told.ensures in
    let e = c.deliver-delivered.ensures in
    offers a.state a.area.now a.n piece out a.taken a.put pre.0 pre.1 c8 h8 _ _ (rest a.taken piece) (rest a.put out) _ _ _ _ e (put_back a.put out _) (ap (λ (k : ℕ). a.taken + k) told) (ap (λ (k : ℕ). a.put + k) c.reply_length-length.ensures)

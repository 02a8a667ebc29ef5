use Rattle.std.proofs.Common.{arith}
use Rattle.turns.proofs.Worlds.{fronts, of_whole}
use Rattle.turns.proofs.Turnings.{turned, turned_whole}
use Rattle.turns.proofs.Outcomes.{handed_up}
use Rattle.turns.proofs.turn.Goals as goal

pub returns-in_err-came-clause-turned : goal.returns-in_err-came-clause-turned
returns-in_err-came-clause-turned g c =
    let a = c.args in
    let r = c.read_piece-came in
    let p = c.list_piece-done in
    let s = c.hand_over-said in
    turned _ _ _ _ _ _ _ a.input.now r.new.buf c.move_down.new.buf a.out.now p.new.out a.offset a.held (omega arith) r.result c.unwrap_or-got.result c.unwrap_or-got.ensures p.result s.result
    r.ensures.reads r.ensures.unread p.ensures s.ensures.hands s.ensures.unsaid c.move_down.ensures _ (rw c.in_err-came.was (handed_up c.from_residual.result c.in_err-came.field-0.0 c.from_residual.ensures.1))

pub returns-in_err-came-clause-all_or_none : goal.returns-in_err-came-clause-all_or_none
returns-in_err-came-clause-all_or_none g c =
    let a = c.args in
    let r = c.read_piece-came in
    let p = c.list_piece-done in
    let s = c.hand_over-said in
    of_whole _ (λ k. turned_whole _ _ _ _ _ _ _ a.input.now r.new.buf c.move_down.new.buf a.out.now p.new.out a.offset a.held (omega arith) r.result c.unwrap_or-got.result c.unwrap_or-got.ensures p.result s.result
    r.ensures.reads r.ensures.unread p.ensures (fronts k) s.ensures.unsaid c.move_down.ensures k.none _ (rw c.in_err-came.was (handed_up c.from_residual.result c.in_err-came.field-0.0 c.from_residual.ensures.1))) s.ensures.all_or_none

pub returns-in_err-said-clause-turned : goal.returns-in_err-said-clause-turned
returns-in_err-said-clause-turned g c =
    let a = c.args in
    let r = c.read_piece-came in
    let p = c.list_piece-done in
    let s = c.hand_over-said in
    turned _ _ _ _ _ _ _ a.input.now r.new.buf c.move_down.new.buf a.out.now p.new.out a.offset a.held (omega arith) r.result c.unwrap_or-got.result c.unwrap_or-got.ensures p.result s.result
    r.ensures.reads r.ensures.unread p.ensures s.ensures.hands s.ensures.unsaid c.move_down.ensures _ (rw (c.in_ok-came.was, c.in_err-said.was) (handed_up c.from_residual-in_err-said.result c.in_err-said.field-0.0 c.from_residual-in_err-said.ensures.1))

pub returns-in_err-said-clause-all_or_none : goal.returns-in_err-said-clause-all_or_none
returns-in_err-said-clause-all_or_none g c =
    let a = c.args in
    let r = c.read_piece-came in
    let p = c.list_piece-done in
    let s = c.hand_over-said in
    of_whole _ (λ k. turned_whole _ _ _ _ _ _ _ a.input.now r.new.buf c.move_down.new.buf a.out.now p.new.out a.offset a.held (omega arith) r.result c.unwrap_or-got.result c.unwrap_or-got.ensures p.result s.result
    r.ensures.reads r.ensures.unread p.ensures (fronts k) s.ensures.unsaid c.move_down.ensures k.none _ (rw (c.in_ok-came.was, c.in_err-said.was) (handed_up c.from_residual-in_err-said.result c.in_err-said.field-0.0 c.from_residual-in_err-said.ensures.1))) s.ensures.all_or_none

pub returns-then-done-clause-turned : goal.returns-then-done-clause-turned
returns-then-done-clause-turned g c =
    let a = c.args in
    let r = c.read_piece-came in
    let p = c.list_piece-done in
    let s = c.hand_over-said in
    turned _ _ _ _ _ _ _ a.input.now r.new.buf c.move_down.new.buf a.out.now p.new.out a.offset a.held (omega arith) r.result c.unwrap_or-got.result c.unwrap_or-got.ensures p.result s.result
    r.ensures.reads r.ensures.unread p.ensures s.ensures.hands s.ensures.unsaid c.move_down.ensures _ (rw (c.in_ok-came.was, c.in_ok-said.was, c.if-done.true))

pub returns-then-done-clause-all_or_none : goal.returns-then-done-clause-all_or_none
returns-then-done-clause-all_or_none g c =
    let a = c.args in
    let r = c.read_piece-came in
    let p = c.list_piece-done in
    let s = c.hand_over-said in
    of_whole _ (λ k. turned_whole _ _ _ _ _ _ _ a.input.now r.new.buf c.move_down.new.buf a.out.now p.new.out a.offset a.held (omega arith) r.result c.unwrap_or-got.result c.unwrap_or-got.ensures p.result s.result
    r.ensures.reads r.ensures.unread p.ensures (fronts k) s.ensures.unsaid c.move_down.ensures k.none _ (rw (c.in_ok-came.was, c.in_ok-said.was, c.if-done.true))) s.ensures.all_or_none

pub returns-clause-turned : goal.returns-clause-turned
returns-clause-turned g c =
    let a = c.args in
    let r = c.read_piece-came in
    let p = c.list_piece-done in
    let s = c.hand_over-said in
    turned _ _ _ _ _ _ _ a.input.now r.new.buf c.move_down.new.buf a.out.now p.new.out a.offset a.held (omega arith) r.result c.unwrap_or-got.result c.unwrap_or-got.ensures p.result s.result
    r.ensures.reads r.ensures.unread p.ensures s.ensures.hands s.ensures.unsaid c.move_down.ensures _ (rw (c.in_ok-came.was, c.in_ok-said.was, c.if-done.false))

pub returns-clause-all_or_none : goal.returns-clause-all_or_none
returns-clause-all_or_none g c =
    let a = c.args in
    let r = c.read_piece-came in
    let p = c.list_piece-done in
    let s = c.hand_over-said in
    of_whole _ (λ k. turned_whole _ _ _ _ _ _ _ a.input.now r.new.buf c.move_down.new.buf a.out.now p.new.out a.offset a.held (omega arith) r.result c.unwrap_or-got.result c.unwrap_or-got.ensures p.result s.result
    r.ensures.reads r.ensures.unread p.ensures (fronts k) s.ensures.unsaid c.move_down.ensures k.none _ (rw (c.in_ok-came.was, c.in_ok-said.was, c.if-done.false))) s.ensures.all_or_none

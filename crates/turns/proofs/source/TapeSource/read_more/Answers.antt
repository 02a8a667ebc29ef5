use Rattle.std.proofs.Common.{◌≡◌, ◌+◌, ◌-◌, arith, sym, length, take}
use Rattle.laws.proofs.Stores.{sets_mid}
use Rattle.turns.proofs.source.TapeSource.read_more.Goals as goal

pub returns-clause-written : goal.returns-clause-written
returns-clause-written c =
    let a = c.args in
    let p = c.piece-piece.result.now in
    let f : take (length p) a.self.now.rest.now ≡ p = sym c.piece-piece.ensures.from_tape.read in
    rw (c.copy_from_slice.ensures.after, f) (sets_mid p a.buf.now a.held (a.held + length p - a.held) (omega arith) (omega (arith, c.piece-piece.ensures.within)))

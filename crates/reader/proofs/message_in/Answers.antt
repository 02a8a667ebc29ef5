use Rattle.frame.specs.Limits.{header_end, keep_alive}
use Rattle.frame.specs.Header.{pdu_type}
use Rattle.laws.proofs.Parts.{drop_take}
use Rattle.reader.specs.Numbers.{message_numbers}
use Rattle.reader.proofs.Sounds.{keep_data}
use native.Mathlib.Omega.{arith}
use borrow.Author.Tests.{eq-eqb}
use Rattle.reader.specs.Read.{message_of}
use Rattle.reader.proofs.message_in.Goals as goal

pub heartbeat_of-requires : goal.heartbeat_of-requires
heartbeat_of-requires c =
    let a = c.args in
    rw (← drop_take header_end a.n a.s.now) (keep_data a.s.now a.n c.requires (omega arith))

pub returns-then-s-eq-KEEP_ALIVE : goal.returns-then-s-eq-KEEP_ALIVE
unfolding message_of message_numbers
returns-then-s-eq-KEEP_ALIVE c =
    let a = c.args in
    simp (eq-eqb (pdu_type a.s.now) keep_alive (omega arith)) (cc (drop_take header_end a.n a.s.now))

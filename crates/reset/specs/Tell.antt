-- R68. Two results that a datagram's promise allows are equal.
use Rattle.std.specs.Prelude.{List, ℕ}
use Rattle.answers.specs.declared.Resetting.{Resetting}
use Rattle.endpoint.specs.Tell.{AllowsOneLent}
use Rattle.endpoint.specs.declared.Record.{Record}
use Rattle.endpoint.specs.declared.Handed.{Handed}
use Rattle.reset.specs.Datagram.{DatagramGives}

-- Theorem. The datagram's promise, as its contract states it, allows one result.
pub record ResettingsTell : Type 0 where
  pub one : (state : Record) (area datagram : List ℕ) → AllowsOneLent (Handed Resetting) (DatagramGives state area datagram)

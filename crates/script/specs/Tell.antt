-- R68, R82. What run promises, and that it allows one result.
use Rattle.std.specs.Prelude.{ℕ, ◌≡◌, List}
use Rattle.endpoint.specs.Tell.{AllowsOneLentTwo}
use Rattle.endpoint.specs.declared.Record.{Record}
use Rattle.script.specs.Script.{stage, script_of}
use Rattle.script.specs.declared.Played.{Played}

-- R68, R82. Run gives r and leaves the area and the output so.
abbrev pub RunGives : Record → List ℕ → List ℕ → List ℕ → Played → List ℕ → List ℕ → Type 0
RunGives state area script output r left written = stage r.state left written r.answer ≡ script_of state area script output

-- Theorem. What run promises, as its contract states it, allows one result.
pub record RunsTell : Type 0 where
  pub one : (state : Record) (area script output : List ℕ) → AllowsOneLentTwo Played (RunGives state area script output)

-- What run promises allows one result. Assumes nothing.
use mathlib.Core.Path.{sym, ap, ◌∙◌}
use Rattle.script.specs.Script.{Stage}
use Rattle.script.specs.Tell.{RunsTell}
use Rattle.script.specs.declared.Played.{Played}

-- what a script hands back of how it stands
abbrev played_in : Stage → Played
played_in s = record { state = s.state; answer = s.answer }

pub runs_told : RunsTell
runs_told =
    record {
      one = λ state area script output r s x y v w p q.
          (ap played_in (p ∙ sym q), ap (λ (z : Stage). z.area) (p ∙ sym q), ap (λ (z : Stage). z.output) (p ∙ sym q));
    }

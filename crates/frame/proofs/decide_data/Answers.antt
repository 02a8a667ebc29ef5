use Rattle.std.proofs.Common.{◌≡◌, ◌∙◌, ap, sym}
use Rattle.laws.proofs.Parts.{rest}
use Rattle.frame.specs.Limits.{header_end}
use Rattle.frame.specs.Decide.{decide_data}
use Rattle.frame.specs.Scaffold.{nonzero, rest_by}
use Rattle.frame.proofs.Walks.{found_whole, data_whole, rest_keep, rest_past}
use Rattle.frame.proofs.decide_data.Goals as goal
use Rattle.frame.proofs.decide_data.Goals.{in-Some+else-kind-ne-KEEP_ALIVE, else-kind-ne-KEEP_ALIVE-via-then-kind-ne-KEEP_ALIVE+else-index-count, else-kind-ne-KEEP_ALIVE-via-else-kind-ne-KEEP_ALIVE, in_default}

pub returns-then-index-count-clause-decided : goal.returns-then-index-count-clause-decided
returns-then-index-count-clause-decided c =
    let m = c.args.m.now in
    let w = found_whole m _ c.in-Some.index c.be16-count.result c.entries_found-rest.result c.if-kind-ne-KEEP_ALIVE.true c.if-index-count.true c.be16-count.ensures (rest header_end m) c.entries_found-rest.ensures in
    c.decide_last.ensures ∙ rw c.is_some.ensures w.0

pub returns-then-index-count-clause-found : goal.returns-then-index-count-clause-found
returns-then-index-count-clause-found c =
    let m = c.args.m.now in
    let w = found_whole m _ c.in-Some.index c.be16-count.result c.entries_found-rest.result c.if-kind-ne-KEEP_ALIVE.true c.if-index-count.true c.be16-count.ensures (rest header_end m) c.entries_found-rest.ensures in
    rw c.in-Some.is w.1

pub returns-clause-decided : goal.returns-clause-decided
returns-clause-decided c =
    let m = c.args.m.now in
    let n = c.be16-count in
    c.unfound.ensures.0 ∙ c.decide_last-2.ensures ∙ data_whole m _ n.result c.data_sound.result n.ensures (rest header_end m) c.data_sound.ensures

pub returns-clause-found : goal.returns-clause-found
returns-clause-found c =
    let m = c.args.m.now in
    let n = c.be16-count in
    elim c.match-wanted.branch [
      | in-Some+else-kind-ne-KEEP_ALIVE w ↦
          let i = w.in-Some.index in
          let z : rest_by (decide_data m) m i ≡ 0 = elim w.else-kind-ne-KEEP_ALIVE.branch [
            | else-kind-ne-KEEP_ALIVE-via-then-kind-ne-KEEP_ALIVE+else-index-count v ↦ rest_past m i (rw (← n.ensures) v.if-index-count.false)
            | else-kind-ne-KEEP_ALIVE-via-else-kind-ne-KEEP_ALIVE v ↦ rest_keep m i v.if-kind-ne-KEEP_ALIVE.false
          ] in
          rw w.in-Some.is (c.unfound.ensures.1 ∙ ap nonzero (sym z))
      | in_default w ↦ rw w.in_default.is tt
    ]

use Rattle.std.proofs.KnownBytes.{Appends-kept}
use Rattle.turns.proofs.Worlds.{writes_more}
use Rattle.turns.proofs.sink.ThroughSink.hand_over.Goals as goal
use Rattle.turns.proofs.sink.ThroughSink.hand_over.Goals.{in-Ok, in-Err}

pub write-preserved : goal.write-preserved
write-preserved g c =
    let i = c.write.invariant in
    elim c.match-write.branch [
      | in-Ok w ↦ (
          let more = writes_more _ _ _ c.args.s.now c.write.done w.in-Ok.n i.within i.taken w.in-Ok.ensures.bound w.in-Ok.ensures.bytes in
          rw w.done-is (record { within = more.0; taken = more.1; name = i.name }))
      | in-Err w ↦ rw w.done-is (record { within = i.within; taken = Appends-kept _ _ _ _ i.taken w.in-Err.ensures.bytes; name = i.name })
    ]

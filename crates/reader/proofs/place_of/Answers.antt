use Rattle.reader.proofs.Places.{rest_found, place_found}
use Rattle.reader.proofs.place_of.Goals as goal

pub place_in-requires : goal.place_in-requires
place_in-requires c =
    let f = c.find-decision in
    rest_found c.args.s.now c.args.index f.result.decision c.in-Sound.n f.result.rest f.ensures.decided c.in-Sound.is f.ensures.rest

pub returns-in-Sound-clause-stands : goal.returns-in-Sound-clause-stands
returns-in-Sound-clause-stands c =
    let f = c.find-decision in
    place_found c.args.s.now c.args.index f.result.decision c.in-Sound.n f.result.rest c.place_in.result f.ensures.decided c.in-Sound.is f.ensures.rest c.place_in.ensures

use Rattle.std.proofs.Common.{rules}
use Rattle.lister.proofs.Ends.{left_short, piece_over, piece_on}
use Rattle.lister.proofs.list_piece.Goals as goal

pub put_last-requires : goal.put_last-requires
put_last-requires c =
    let l = c.list_messages-used.ensures in
    (search rules, left_short l.0 l.1)

pub returns-then-not-is_over : goal.returns-then-not-is_over
returns-then-not-is_over c =
    let l = c.list_messages-used.ensures in
    piece_on l.0 l.1 c.requires.0 c.args.end (cc)

pub returns : goal.returns
returns c =
    let l = c.list_messages-used.ensures in
    piece_over l.0 l.1 c.requires.0 c.args.end (cc) c.put_last.ensures

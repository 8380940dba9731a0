use Rattle.pieces.specs.Pieces.{body_of}
use Rattle.pieces.proofs.Stops.{last_backslash_lem}
use Rattle.pieces.proofs.piece.backslash.Goals as goal

pub returns-in-None : goal.returns-in-None
returns-in-None c =
    let m = c.moved-behind.ensures in
    let e = m.moves c.requires.behind.boundary in
    last_backslash_lem c.args.cursor.bytes.now c.args.at (body_of c.args.opening) c.requires (rw m.text at (rw e at c.in-None.ensures))

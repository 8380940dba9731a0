use Rattle.pieces.proofs.Stops.{raw_return}
use Rattle.pieces.proofs.piece.carriage_return.Goals as goal

pub returns : goal.returns
returns c =
    let h = rw c.bytes.ensures at c.behind.ensures in
    raw_return c.args.cursor.bytes.now c.args.at c.behind.result c.unwrap_or-next.result c.unwrap_or-next.ensures c.requires h

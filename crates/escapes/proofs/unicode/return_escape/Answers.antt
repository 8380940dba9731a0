use Rattle.escapes.proofs.Behinds.{return_by}
use Rattle.escapes.proofs.unicode.return_escape.Goals as goal

pub returns : goal.returns
returns c m =
    let h = rw c.bytes.ensures at (rw c.place-at.ensures at c.behind.ensures) in
    rw c.unwrap_or.ensures (rw c.place-at.ensures (return_by c.args.cursor.bytes.now c.args.cursor.place.at m c.behind.result c.requires h))

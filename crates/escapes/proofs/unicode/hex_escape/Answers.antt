use Rattle.escapes.proofs.Behinds.{hex_all, hex_short, same_err}
use Rattle.escapes.proofs.unicode.hex_escape.Goals as goal

pub returns-in_err-unit : goal.returns-in_err-unit
returns-in_err-unit c m =
    let (v, d, l, a) = rw c.ahead.ensures.0 at (rw c.ahead.ensures.1 at c.in_err-unit.ensures) in
    rw (same_err c.from_residual.result _ c.from_residual.ensures.1) (hex_short c.args.cursor.bytes.now c.args.cursor.place.at m v _ c.requires d l a)

pub returns : goal.returns
returns c m =
    let (d, l) = rw c.ahead.ensures.0 at (rw c.ahead.ensures.1 at c.in_ok-unit.ensures) in
    hex_all c.args.cursor.bytes.now c.args.cursor.place.at m c.in_ok-unit.unit c.in_ok-unit.next c.requires d l

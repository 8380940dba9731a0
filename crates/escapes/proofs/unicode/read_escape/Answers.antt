use Rattle.escapes.proofs.Looks.{at_cursor, stands, over_at}
use Rattle.escapes.proofs.Parts.{escape_read}
use Rattle.escapes.proofs.unicode.read_escape.Goals as goal

pub escape_of-requires : goal.escape_of-requires
escape_of-requires c = let s = c.args.cursor in stands s.bytes.now s.place.at c.in_ok-c.c c.in_ok-c.next (at_cursor s) c.in_ok-c.ensures

pub returns-in_err-c : goal.returns-in_err-c
returns-in_err-c c = rw c.from_residual.ensures (over_at c.args.cursor.bytes.now c.args.cursor.place.at c.in_err-c.ensures)

pub returns : goal.returns
returns c = escape_read c.args.in_template c.args.cursor.bytes.now c.args.cursor.place.at c.escape_of.result c.escape_of.ensures

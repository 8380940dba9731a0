use Rattle.escapes.proofs.Looks.{at_cursor}
use Rattle.pieces.specs.Pieces.{body_of}
use Rattle.pieces.proofs.Plains.{plain}
use Rattle.pieces.proofs.Stops.{stop_here, end_plain}
use Rattle.pieces.proofs.piece.next_piece.Goals as goal

pub stop_at-requires : goal.stop_at-requires
stop_at-requires c =
    let s = c.args.cursor in
    let h = c.in-Some.ensures in
    (stop_here (body_of c.args.opening) s.bytes.now s.place.at c.in-Some.to c.in-Some.byte (at_cursor s) h.first h.boundary, h.first.stop)

pub returns-in-None : goal.returns-in-None
returns-in-None c =
    let s = c.args.cursor in
    let (x, y) = end_plain (body_of c.args.opening) s.bytes.now s.place.at (at_cursor s) c.in-None.ensures.first in
    rw c.bytes-end.ensures (record { plain = x; stop = y })

pub returns-in-Some : goal.returns-in-Some
returns-in-Some c =
    let s = c.args.cursor in
    let h = c.in-Some.ensures in
    record {
      plain = plain (body_of c.args.opening) s.bytes.now s.place.at c.in-Some.to (at_cursor s) h.boundary h.first.behind h.first.first;
      stop = c.stop_at.ensures;
    }

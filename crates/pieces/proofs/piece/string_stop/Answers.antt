use Rattle.std.proofs.Common.{rules}
use Rattle.pieces.specs.Pieces.{body_of}
use Rattle.pieces.proofs.Stops.{line_break_lem, string_closed}
use Rattle.pieces.proofs.piece.string_stop.Goals as goal
use Rattle.pieces.proofs.piece.string_stop.Goals.{in-13, in_default}

pub returns : goal.returns
returns c =
    let bs = c.args.cursor.bytes.now in
    elim c.match-byte.branch [
      | in-13 w ↦ rw w.ending-is (line_break_lem bs c.args.at (body_of c.args.opening) c.args.byte c.requires.1.1.1 c.requires.0 w.in-13.is)
      | in_default w ↦ rw w.ending-is (string_closed bs c.args.at (body_of c.args.opening) c.args.byte c.requires.1.1.1 c.requires.0 c.requires.1.0 c.requires.1.1.0 (λ e. search rules) (λ e. search rules))
    ]

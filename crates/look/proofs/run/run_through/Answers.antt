use Rattle.std.proofs.Common.{sym, refl, ◌∙◌, arith}
use Rattle.pieces.specs.Pieces.{body_of}
use Rattle.look.proofs.Running.{upto_none, piece_in, on, reached_on, ran}
use Rattle.look.proofs.run.run_through.Goals as goal

pub pieces-init : goal.pieces-init
pieces-init c = (refl, omega arith, λ start e. upto_none c.args.cursor.bytes.now start c.args.opening c.args.cursor.place.at e)

pub returns-in-Break : goal.returns-in-Break
returns-in-Break c start l i =
    let bs = c.args.cursor.bytes.now in
    let o = c.args.opening in
    let (e, n, x) = c.pieces.invariant in
    let p = c.next_piece-piece.result in
    let y = piece_in bs o c.pieces.cursor p e c.next_piece-piece.ensures in
    ran bs start o c.pieces.cursor.place.at p.to _ l y.plain (c.in-Break.ensures (body_of o) bs p.to (sym c.in_template.ensures) y.stop) n (x start i)

pub counted-tally-requires : goal.counted-tally-requires
counted-tally-requires c = omega (arith, c.pieces.invariant.1, c.pieces.cursor.short, c.pieces.cursor.boundary.0)

pub pieces-smaller : goal.pieces-smaller
pieces-smaller c =
    let d = on c.args.cursor.bytes.now c.args.opening c.pieces.cursor c.next_piece-piece.result c.in-Continue.passed c.in_template.result c.move_to.new.self.place.at c.pieces.invariant.0 c.next_piece-piece.ensures c.in_template.ensures c.in-Continue.ensures c.move_to.ensures.moves in
    omega (arith, d.moves, d.within)

pub pieces-preserved : goal.pieces-preserved
pieces-preserved c =
    let bs = c.args.cursor.bytes.now in
    let o = c.args.opening in
    let (e, n, x) = c.pieces.invariant in
    let d = on bs o c.pieces.cursor c.next_piece-piece.result c.in-Continue.passed c.in_template.result c.move_to.new.self.place.at e c.next_piece-piece.ensures c.in_template.ensures c.in-Continue.ensures c.move_to.ensures.moves in
    let (i, u) = reached_on bs o c.args.cursor.place.at c.pieces.cursor c.next_piece-piece.result c.in-Continue.passed c.move_to.new.self.place.at c.pieces.tally c.counted-tally.result d c.counted-tally.ensures n x in
    (c.move_to.ensures.text ∙ e, i, u)

use Rattle.std.proofs.Common.{ℕ, sym, refl, subst, arith}
use Rattle.pieces.specs.Pieces.{body_of, PieceRead}
use Rattle.look.proofs.GivesUnits.{nearer, read, gave_plain}
use Rattle.look.proofs.units.UnitReader.read_plain.Goals as goal

pub invariant_of-self-clause-read : goal.invariant_of-self-clause-read
invariant_of-self-clause-read c =
    let r = c.args.self.now in
    subst (λ bs. ∥ ((from : ℕ) × PieceRead (body_of r.opening) bs from r.piece.to r.piece.stop) ∥₁) (sym c.move_to.ensures.text) r.read

pub invariant_of-self-clause-order : goal.invariant_of-self-clause-order
invariant_of-self-clause-order c = (read c.args.self.now c.move_to.new.self c.in_ok-c.c c.in_ok-c.behind c.requires.1 c.in_ok-c.ensures c.move_to.ensures.moves).order

pub invariant_of-self-clause-few : goal.invariant_of-self-clause-few
invariant_of-self-clause-few c =
    let d = read c.args.self.now c.move_to.new.self c.in_ok-c.c c.in_ok-c.behind c.requires.1 c.in_ok-c.ensures c.move_to.ensures.moves in
    omega (arith, c.args.self.now.few, d.moves)

pub returns : goal.returns
returns c =
    let r = c.args.self.now in
    let k = c.move_to.new.self in
    let d = read r k c.in_ok-c.c c.in_ok-c.behind c.requires.1 c.in_ok-c.ensures c.move_to.ensures.moves in
    record {
      same = (c.move_to.ensures.text, refl);
      idle = refl;
      gave = λ start us x. gave_plain r k c.in_ok-c.c c.units_of.result start us c.requires.0 c.requires.1 d c.move_to.ensures.text c.units_of.ensures x;
      nearer = nearer r k c.units_of.result c.move_to.ensures.text c.requires.0 d.moves;
    }

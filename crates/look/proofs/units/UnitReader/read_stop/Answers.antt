use Rattle.std.proofs.Common.{refl, arith}
use Rattle.look.proofs.GivesUnits.{nearer, passes, gave_stop, gave_all}
use Rattle.look.proofs.units.UnitReader.read_stop.Goals as goal

pub returns-in_err-given : goal.returns-in_err-given
returns-in_err-given c =
    let r = c.args.self.now in
    rw c.from_residual.ensures (record { same = (refl, refl); idle = refl; gave = λ start us x. gave_all r start us c.requires.0 c.requires.1 (λ s. c.in_err-given.ensures _ _ _ s) x; nearer = tt })

pub invariant_of-self-clause-few : goal.invariant_of-self-clause-few
invariant_of-self-clause-few c =
    let g = c.in_ok-given.given in
    let (b, m) = passes c.args.self.now g (λ s. c.in_ok-given.ensures _ _ _ s) in
    omega (arith, c.args.self.now.few, m, c.requires.1, c.move_to.ensures.moves b)

pub returns : goal.returns
returns c =
    let r = c.args.self.now in
    let k = c.move_to.new.self in
    let g = c.in_ok-given.given in
    let (b, m) = passes r g (λ s. c.in_ok-given.ensures _ _ _ s) in
    let e = c.move_to.ensures.moves b in
    record {
      same = (c.move_to.ensures.text, refl);
      idle = refl;
      gave = λ start us x. gave_stop r k c.next_piece-self.result g start us c.requires.0 c.requires.1 (λ s. c.in_ok-given.ensures _ _ _ s) c.move_to.ensures.text e c.next_piece-self.ensures x;
      nearer = nearer r k g.units c.move_to.ensures.text c.requires.0 (omega (arith, c.requires.1));
    }

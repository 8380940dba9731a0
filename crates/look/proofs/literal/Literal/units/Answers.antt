use Rattle.look.proofs.Opens.{opened_in}
use Rattle.look.proofs.literal.Literal.units.Goals as goal

pub returns-clause-gave : goal.returns-clause-gave
returns-clause-gave c = let l = c.args.self in c.new.ensures.gave l.start (opened_in l) l.behind

use Rattle.look.proofs.Opens.{opened_in}
use Rattle.look.proofs.literal.Literal.faults.Goals as goal

pub returns-clause-told : goal.returns-clause-told
returns-clause-told c = let l = c.args.self in c.new.ensures.told (opened_in l) l.behind

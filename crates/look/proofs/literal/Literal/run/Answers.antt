use Rattle.look.proofs.Opens.{opened_in}
use Rattle.look.proofs.literal.Literal.run.Goals as goal

pub returns : goal.returns
returns c = let l = c.args.self in c.run_through.ensures l.start (opened_in l) l.behind

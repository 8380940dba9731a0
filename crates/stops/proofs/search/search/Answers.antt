use Rattle.stops.proofs.Leads.{first_boundary}
use Rattle.stops.proofs.search.search.Goals as goal

-- the law of the set makes the first stop a boundary
pub returns : goal.returns
returns g c =
    record {
      first = c.first_stop.ensures;
      boundary = first_boundary (g.S.StopSet.stops c.args.set.now) c.args.bytes.now c.args.from c.first_stop.result (g.met.S.StopSet.safe c.args.set.now) c.first_stop.ensures;
    }

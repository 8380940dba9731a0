use Rattle.stops.proofs.Entries.{own_rule}
use Rattle.stops.proofs.table.TableStopSet.table.Goals as goal

pub returns : goal.returns
returns c = own_rule c.args.self.now.stops c.args.self.now.whole

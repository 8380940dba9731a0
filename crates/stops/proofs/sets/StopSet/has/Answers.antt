use Rattle.std.proofs.Common.{rules}
use Rattle.stops.proofs.Entries.{rule_at}
use Rattle.stops.proofs.sets.StopSet.has.Goals as goal

-- the rule of the whole table, at one byte
pub returns : goal.returns
returns g c = rule_at (g.Self.StopSet.stops c.args.self.now) c.table.result.now c.args.b c.table.ensures (search rules)

use Rattle.std.proofs.Common.{◌+◌}
use Rattle.stops.specs.First.{Free}
use Rattle.stops.proofs.search.first_in_rest.Given as goal

abbrev pub invariant-loop-i : goal.invariant-loop-i
invariant-loop-i g l = Free (g.S.StopSet.stops l.set) l.bytes l.at (l.at + l.i)

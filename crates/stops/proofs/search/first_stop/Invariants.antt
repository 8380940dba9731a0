use Rattle.std.proofs.Common.{◌+◌, ◌-◌, ◌≤◌, length}
use Rattle.stops.specs.First.{Free}
use Rattle.stops.proofs.search.first_stop.Given as goal

abbrev pub invariant-loop-i : goal.invariant-loop-i
invariant-loop-i g l = Free (g.S.StopSet.stops l.set) l.bytes l.from (l.at + l.i)

abbrev pub invariant-batches : goal.invariant-batches
invariant-batches g l = (l.from ≤ l.at) × (l.at ≤ length l.bytes) × Free (g.S.StopSet.stops l.set) l.bytes l.from l.at

abbrev pub decreases-batches : goal.decreases-batches
decreases-batches g l = length l.bytes - l.at

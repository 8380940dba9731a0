use Rattle.std.proofs.Common.{◌≡◌, length}
use Rattle.store.specs.Held.{unit_told}
use Rattle.coding.specs.Codes.{units}
use Rattle.coding.proofs.codes.unit_at.Given as goal

-- what is told of the unit is what is told of it in all bytes
abbrev pub invariant-loop-tail : goal.invariant-loop-tail
invariant-loop-tail l = unit_told (units l.tail) l.to_go ≡ unit_told (units l.fn.bytes) l.fn.i

abbrev pub decreases-loop-tail : goal.decreases-loop-tail
decreases-loop-tail l = length l.tail

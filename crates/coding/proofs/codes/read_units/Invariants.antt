use Rattle.std.proofs.Common.{◌≡◌, ◌+◌, ◌≤◌, length}
use Rattle.store.specs.Cuts.{laid}
use Rattle.coding.specs.Codes.{units}
use Rattle.coding.proofs.codes.read_units.Given as goal

-- what is left to write leads to the whole
abbrev pub invariant-loop-tail : goal.invariant-loop-tail
invariant-loop-tail l = (laid l.out l.at (units l.tail) ≡ laid l.initial.out 0 (units l.bytes)) × (l.at + length (units l.tail) ≤ length l.out)

abbrev pub decreases-loop-tail : goal.decreases-loop-tail
decreases-loop-tail l = length l.tail

use Rattle.std.proofs.Common.{◌≤◌, List}
use Rattle.faults.specs.declared.list.Fault.{Fault}
use Rattle.look.specs.Told.{Same, Told, left}
use Rattle.look.proofs.telling.FaultReaderIterator.next.Given as goal

abbrev pub invariant-pieces : goal.invariant-pieces
invariant-pieces l = Same l.self l.initial.self × (left l.self ≤ left l.initial.self) × ((fs : List Fault) → Told l.initial.self fs → Told l.self fs)

abbrev pub decreases-pieces : goal.decreases-pieces
decreases-pieces l = left l.self

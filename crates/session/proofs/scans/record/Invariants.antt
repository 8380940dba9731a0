use Rattle.session.proofs.Recording.{Halfway}
use Rattle.session.proofs.scans.record.Given as goal

abbrev pub invariant-loop-fault : goal.invariant-loop-fault
invariant-loop-fault l = Halfway l.fn.faults l.yielded l.faults

use Rattle.grammar.proofs.none_exactly.Goals as goal
use Rattle.grammar.proofs.Exact.{templates_fault_at_ends}
use Rattle.grammar.proofs.Nones.{none_exactly}

pub returns : goal.returns
returns c = record { none = none_exactly; unfaulted = templates_fault_at_ends }

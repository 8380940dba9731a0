use Rattle.grammar.proofs.accepts_exactly.Goals as goal
use Rattle.grammar.proofs.Exact.{accepts_exactly, derivations_are_read, characters_are_steps}

pub returns : goal.returns
returns c = record { exactly = accepts_exactly; read = derivations_are_read; steps = characters_are_steps }

use Rattle.grammar.proofs.derivations_are_one.Goals as goal
use Rattle.grammar.proofs.Unique.{derivations_are_one}

pub returns : goal.returns
returns c = derivations_are_one

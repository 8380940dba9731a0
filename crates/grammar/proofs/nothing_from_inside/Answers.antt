use Rattle.grammar.proofs.nothing_from_inside.Goals as goal
use Rattle.grammar.proofs.Places.{nothing_off_boundaries}
use Rattle.grammar.proofs.Worked.{nothing_from_inside}

pub returns : goal.returns
returns c = record { worked = nothing_from_inside; always = nothing_off_boundaries }

use Rattle.grammar.proofs.readings_are_one.Goals as goal
use Rattle.grammar.proofs.Readings.{readings_are_one}

pub returns : goal.returns
returns c = readings_are_one

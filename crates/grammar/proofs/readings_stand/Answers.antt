use Rattle.grammar.proofs.readings_stand.Goals as goal
use Rattle.grammar.proofs.Places.{readings_stand, derivations_stand}

pub returns : goal.returns
returns c = record { readings = readings_stand; derivations = derivations_stand }

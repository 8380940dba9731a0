use Rattle.grammar.proofs.utf8_stands.Goals as goal
use Rattle.grammar.proofs.Utf8.{characters_stand, spelt_stand, nothing_past, nothing_inside}

pub returns : goal.returns
returns c = record { characters = characters_stand; spelt = spelt_stand; past = nothing_past; inside = nothing_inside }

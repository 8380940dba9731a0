use Rattle.grammar.proofs.mark_is_seen.Goals as goal
use Rattle.grammar.proofs.Marks.{mark_is_seen}

pub returns : goal.returns
returns c = mark_is_seen

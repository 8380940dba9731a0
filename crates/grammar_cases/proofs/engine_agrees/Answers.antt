use Rattle.grammar_cases.proofs.engine_agrees.Goals as goal
use Rattle.grammar_cases.proofs.Checked.{engine_agrees}

pub returns : goal.returns
returns c = engine_agrees

use Rattle.ledger.proofs.Lives.{calls_decide}
use Rattle.ledger.proofs.calls_decide.Goals as goal

pub returns : goal.returns
returns c = calls_decide

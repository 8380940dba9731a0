use Rattle.ledger.proofs.Lives.{runs_keep, begins, goes_on}
use Rattle.ledger.proofs.runs_keep_the_law.Goals as goal

pub returns : goal.returns
returns c = record { runs = runs_keep; begins = begins; goes_on = goes_on }

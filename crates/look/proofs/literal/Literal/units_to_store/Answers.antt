use Rattle.std.proofs.Common.{◌≡◌, ℕ, sym, ◌∙◌, arith}
use Rattle.look.proofs.GivesUnits.{counted}
use Rattle.look.proofs.literal.Literal.units_to_store.Goals as goal

pub returns-in-true-true-clause-stored : goal.returns-in-true-true-clause-stored
returns-in-true-true-clause-stored c = (
  (λ _. let (xs, d, n) = c.count.ensures.ran in counted c.args.self c.units.result xs c.count.result c.units.ensures.cursor c.units.ensures.gave d n),
  (λ e. let f = sym c.in-true-true.is-1 ∙ e in let z : ◌≡◌ {A = ℕ} 0 1 = cc in absurd (omega arith)),
)

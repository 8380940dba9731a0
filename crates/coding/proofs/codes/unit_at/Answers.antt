use Rattle.std.proofs.Common.{◌∙◌}
use Rattle.coding.proofs.Steps.{told_on}
use Rattle.coding.proofs.codes.unit_at.Goals as goal

pub loop-tail-preserved : goal.loop-tail-preserved
loop-tail-preserved c = told_on c.loop-tail.tail.now c.loop-tail.to_go _ c.in-len1-up.len_at_least c.many_at-many.ensures c.if-to_go-many.false ∙ c.loop-tail.invariant

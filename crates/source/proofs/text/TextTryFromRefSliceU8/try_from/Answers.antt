use Rattle.std.proofs.Common.{rules}
use Rattle.source.proofs.Known.{well_from}
use Rattle.source.proofs.text.TextTryFromRefSliceU8.try_from.Goals as goal

pub invariant_of-result-clause-well : goal.invariant_of-result-clause-well
invariant_of-result-clause-well c = well_from c.args.bytes.now (search rules)

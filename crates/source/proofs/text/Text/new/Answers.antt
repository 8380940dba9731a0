use Rattle.std.proofs.lemmas.Str.{IsUtf8-nil}
use Rattle.source.proofs.Known.{well_from}
use Rattle.source.proofs.text.Text.new.Goals as goal

pub invariant_of-unwrap_or-clause-well : goal.invariant_of-unwrap_or-clause-well
invariant_of-unwrap_or-clause-well c = well_from _ IsUtf8-nil

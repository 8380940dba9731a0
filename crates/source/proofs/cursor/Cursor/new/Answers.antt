use Rattle.std.proofs.lemmas.Str.{IsCharBoundary-start}
use Rattle.source.proofs.Known.{utf8_from}
use Rattle.source.proofs.cursor.Cursor.new.Goals as goal

pub invariant_of-result-clause-boundary : goal.invariant_of-result-clause-boundary
invariant_of-result-clause-boundary c = IsCharBoundary-start _ (utf8_from _ c.args.text.well)

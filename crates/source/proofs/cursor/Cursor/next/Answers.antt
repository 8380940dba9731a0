use Rattle.source.proofs.Known.{behind_char}
use Rattle.source.proofs.cursor.Cursor.next.Goals as goal

pub invariant_of-self-clause-boundary : goal.invariant_of-self-clause-boundary
invariant_of-self-clause-boundary c = let s = c.args.self.now in behind_char s.bytes.now s.place.at _ _ s.well s.boundary c.in_ok-c.ensures

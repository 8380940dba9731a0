use Rattle.std.proofs.Common.{arith}
use Rattle.source.proofs.Known.{utf8_from}
use Rattle.source.proofs.Two.{past_two}
use Rattle.source.proofs.cursor.Cursor.take_crlf.Goals as goal

pub invariant_of-self-clause-boundary : goal.invariant_of-self-clause-boundary
invariant_of-self-clause-boundary c =
    let s = c.args.self.now in
    let e = c.in-Some.ensures in
    past_two s.bytes.now s.place.at c.in-Some.behind 13 10 (utf8_from s.bytes.now s.well) (omega arith) e.0 e.1

use Rattle.session.proofs.Seeing.{cooked, string}
use Rattle.session.proofs.seen.Seen.find.Goals as goal

pub invariant_of-result : goal.invariant_of-result
invariant_of-result c = record {
  cooked = cooked c.in_ok-literal.literal c.look-look.result c.look-look.ensures;
  string = string c.in_ok-literal.literal c.look-look.result c.look-look.ensures c.args.scan c.in_ok-literal.ensures.3;
}

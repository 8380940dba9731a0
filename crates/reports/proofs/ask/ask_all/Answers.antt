use Rattle.std.proofs.Common.{Ok}
use Rattle.reports.proofs.Asking.{so_many_more}
use Rattle.reports.proofs.ask.ask_all.Goals as goal

pub unwrap-item-requires : goal.unwrap-item-requires
unwrap-item-requires g c = c.requires.answered c.loop-index.index _ c.loop-index-test.true c.ask.ensures

pub loop-index-preserved : goal.loop-index-preserved
loop-index-preserved g c =
    let grown = so_many_more (λ i a. goal.F-post g c.args.ask i (Ok a)) _ _ _ _ c.loop-index.invariant.1 c.loop-index.invariant.2 c.in_ok-push.ensures.items (rw c.unwrap-item.ensures at c.ask.ensures) in
    (c.loop-index.invariant.0, grown.0, grown.1)

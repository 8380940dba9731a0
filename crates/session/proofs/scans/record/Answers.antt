use Rattle.std.proofs.Common.{rules}
use Rattle.session.proofs.Recording.{drained, one_more, finished}
use Rattle.session.proofs.scans.record.Goals as goal

pub loop-fault-preserved : goal.loop-fault-preserved
loop-fault-preserved c =
    one_more c.args.faults.now c.loop-fault.yielded c.loop-fault.faults c.loop-fault.invariant c.in-Some.fault _ (search rules) (search rules) (search rules)

pub returns : goal.returns
returns c r reads =
    let all = drained c.args.literal c.faults-fault-items.result c.into_iter-fault-iterator.result c.loop-fault.yielded c.faults-fault-items.ensures.cursor c.faults-fault-items.ensures.told c.into_iter-fault-iterator.ensures.into_iter_gives
    (c.next.new.self, (c.loop-fault.fault-iterator, c.loop-fault.yielded_by, c.in-None.ensures.steps)) in
    finished c.args.faults.now c.loop-fault.yielded c.loop-fault.faults c.loop-fault.invariant c.args.literal all r reads

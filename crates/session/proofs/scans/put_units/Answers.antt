use Rattle.store.proofs.Puts.{placed}
use Rattle.session.proofs.Putting.{drained, one_more, finished}
use Rattle.session.proofs.scans.put_units.Goals as goal

pub loop-unit-preserved : goal.loop-unit-preserved
loop-unit-preserved g c =
    let s = g.S.ValueStore in
    one_more s.weight (s.held c.args.store.now) c.loop-unit.yielded (s.held c.loop-unit.store) c.loop-unit.fits c.loop-unit.invariant s.lawful.heavier c.in-Some.unit c.put_on-fits.ensures.narrow
    _ _ c.put_on-fits.ensures.answer c.put_on-fits.ensures.after

pub returns : goal.returns
returns g c r us reads is =
    let s = g.S.ValueStore in
    let h = s.held c.args.store.now in
    let all = drained c.args.literal c.units-unit-items.result c.into_iter-unit-iterator.result c.loop-unit.yielded c.units-unit-items.ensures.cursor c.units-unit-items.ensures.gave c.into_iter-unit-iterator.ensures.into_iter_gives
    (c.next.new.self, (c.loop-unit.unit-iterator, c.loop-unit.yielded_by, c.in-None.ensures.steps)) in
    finished s.weight h c.loop-unit.yielded (s.held c.loop-unit.store) c.loop-unit.fits c.loop-unit.invariant c.args.literal all r us reads is
    (placed h _ _ c.count.ensures c.places.ensures c.if-count-places.false) (s.lawful.sound c.loop-unit.store) _ _ c.finish.ensures.closes c.finish.ensures.drops

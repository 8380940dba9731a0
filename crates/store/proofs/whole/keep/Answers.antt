use Rattle.std.proofs.Common.{take, refl, ap, ◌∙◌, arith}
use Rattle.store.specs.Held.{holding}
use Rattle.store.proofs.Narrows.{narrow_all}
use Rattle.store.proofs.Puts.{went, stopped, one_put, all_closed, all_told, none_kept, none_told, no_place_kept, placed, unplaced}
use Rattle.store.proofs.whole.keep.Goals as goal

pub returns-then-count-places : goal.returns-then-count-places
returns-then-count-places g c =
    let s = g.S.ValueStore in
    let h = s.held c.args.store.now in
    let n = no_place_kept s.weight h c.args.units.now (unplaced h _ _ c.count.ensures c.places.ensures c.if-count-places.true) in
    record { answer = n.0; after = n.1 }

pub returns-in-Err : goal.returns-in-Err
returns-in-Err g c =
    let s = g.S.ValueStore in
    let h = s.held c.args.store.now in
    let us = c.args.units.now in
    let i = c.loop-unit.unit-index in
    let so = c.loop-unit.invariant ∙ ap (λ x. holding x (take i us)) c.drop_open.ensures in
    let place = placed h _ _ c.count.ensures c.places.ensures c.if-count-places.false in
    let n = narrow_all us (λ k. omega (arith, (c.type_inv.units k).fits)) in
    let b = stopped _ _ c.in-Err.ensures.answer in
    record {
      answer = none_told s.weight h (s.held c.loop-unit.store) us i so place s.lawful.heavier n _ c.loop-unit-test.true refl b.0 _ b.1;
      after = none_kept s.weight h (s.held c.loop-unit.store) us i so place s.lawful.heavier n _ c.loop-unit-test.true refl b.0 _ _ c.put.ensures.after c.drop_open-in-Err.ensures;
    }

pub loop-unit-preserved : goal.loop-unit-preserved
loop-unit-preserved g c =
    let s = g.S.ValueStore in
    one_put s.weight (s.held c.drop_open.new.self) (s.held c.loop-unit.store) c.args.units.now c.loop-unit.unit-index c.loop-unit.invariant _ _ c.loop-unit-test.true refl c.put.ensures.after (went _ _ c.in_default.ensures.answer)

pub returns : goal.returns
returns g c =
    let s = g.S.ValueStore in
    let h = s.held c.args.store.now in
    let us = c.args.units.now in
    let i = c.loop-unit.unit-index in
    let so = c.loop-unit.invariant ∙ ap (λ x. holding x (take i us)) c.drop_open.ensures in
    let place = placed h _ _ c.count.ensures c.places.ensures c.if-count-places.false in
    let sound = s.lawful.sound c.loop-unit.store in
    record {
      answer = all_told s.weight h (s.held c.loop-unit.store) us i so place _ sound c.loop-unit-test.false c.close.ensures.answer;
      after = all_closed s.weight h (s.held c.loop-unit.store) us i so place _ sound c.loop-unit-test.false c.close.ensures.after;
    }

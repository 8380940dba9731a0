use Rattle.std.proofs.Common.{length-take, arith}
use Rattle.std.proofs.lemmas.List.{get_or-take}
use Rattle.session.specs.Scans.{bytes_of}
use Rattle.nethrawf.proofs.Responding.{first, next, last}
use Rattle.nethrawf.proofs.lives.respond_all.Goals as goal

pub loop-i-init : goal.loop-i-init
loop-i-init g c =
    let s = g.S.ValueStore in
    first s.weight (bytes_of c.args.text) c.args.session.now (s.held c.args.store.now) c.args.requests.now c.args.responses.now

pub loop-i-preserved : goal.loop-i-preserved
loop-i-preserved g c =
    let s = g.S.ValueStore in
    let few = length-take c.min-many.result c.args.requests.now in
    next s.weight (bytes_of c.args.text) _ _ c.args.requests.now c.args.responses.now c.loop-i.i c.loop-i.responses _ _ _ _ c.loop-i.session c.perform.new.session (s.held c.loop-i.store) (s.held c.perform.new.store)
    (get_or-take c.min-many.result c.args.requests.now c.loop-i.i _ (omega arith)) (omega arith) (omega arith) c.loop-i.invariant c.perform.ensures c.into.ensures

pub returns : goal.returns
returns g c =
    let s = g.S.ValueStore in
    let few = length-take c.min-many.result c.args.requests.now in
    last s.weight (bytes_of c.args.text) c.args.session.now (s.held c.args.store.now) c.args.requests.now c.args.responses.now c.loop-i.i c.loop-i.responses c.loop-i.session (s.held c.loop-i.store) (omega arith) c.loop-i.invariant

use Rattle.std.proofs.Common.{length, ap, length-take, arith}
use Rattle.std.proofs.lemmas.List.{get_or-take}
use Rattle.store.specs.Held.{Held}
use Rattle.session.specs.Views.{lent, limits_of, memory_of, unused}
use Rattle.session.specs.Scans.{bytes_of}
use Rattle.session.proofs.Serving.{next, end, whole}
use Rattle.session.proofs.life.serve.Goals as goal

pub loop-i-preserved : goal.loop-i-preserved
loop-i-preserved g c =
    let s = g.S.ValueStore in
    let h = s.held c.new-session.new.store in
    let few = length-take c.min-many.result c.args.calls.now in
    next s.weight (limits_of c.new-session.result h) (bytes_of c.args.text) h.values (unused (memory_of c.new-session.result)) c.args.calls.now c.args.answers.now
    c.loop-i.i c.loop-i.answers c.loop-i.session (s.held c.loop-i.store) _ _ c.perform.result c.perform.new.self (s.held c.perform.new.store)
    (get_or-take c.min-many.result c.args.calls.now c.loop-i.i _ (omega arith)) (omega arith) (omega arith) c.loop-i.invariant c.perform.ensures.called c.perform.ensures.lives

pub returns-clause-lives : goal.returns-clause-lives
returns-clause-lives g c =
    let s = g.S.ValueStore in
    let h = s.held c.new-session.new.store in
    let few = length-take c.min-many.result c.args.calls.now in
    whole s.weight (limits_of c.new-session.result h) (lent (length c.args.strings.now) (length c.args.templates.now) (length c.args.records.now) (s.held c.args.store.now)) (bytes_of c.args.text) h.values (s.held c.args.store.now).values c.args.calls.now c.loop-i.answers c.loop-i.session (s.held c.loop-i.store)
    (c.new-session.ensures.lives (bytes_of c.args.text)).limits (ap (λ (z : Held). z.values) c.new-session.ensures.store)
    (end s.weight (limits_of c.new-session.result h) (bytes_of c.args.text) h.values (unused (memory_of c.new-session.result)) c.args.calls.now c.args.answers.now c.loop-i.i c.loop-i.answers c.loop-i.session (s.held c.loop-i.store)
    (omega arith) c.loop-i.invariant)

use Rattle.session.specs.Views.{limits_of, memory_of, unused}
use Rattle.session.specs.Scans.{bytes_of}
use Rattle.session.proofs.Serving.{Served}
use Rattle.session.proofs.life.serve.Given as goal

abbrev pub invariant-loop-i : goal.invariant-loop-i
invariant-loop-i g l =
    let s = g.S.ValueStore in
    Served s.weight (limits_of l.initial.session (s.held l.initial.store)) (bytes_of l.text) (s.held l.initial.store).values (unused (memory_of l.initial.session)) l.calls l.initial.answers
    l.i l.answers l.session (s.held l.store)

use Rattle.session.specs.Scans.{bytes_of}
use Rattle.nethrawf.proofs.Responding.{Sofar}
use Rattle.nethrawf.proofs.lives.respond_all.Given as goal

abbrev pub invariant-loop-i : goal.invariant-loop-i
invariant-loop-i g l =
    let s = g.S.ValueStore in
    Sofar s.weight (bytes_of l.text) l.initial.session (s.held l.initial.store) l.requests l.initial.responses l.i l.responses l.session (s.held l.store)

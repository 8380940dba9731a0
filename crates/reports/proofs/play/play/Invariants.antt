use Rattle.std.proofs.Common.{vec_items}
use Rattle.session.specs.Scans.{bytes_of}
use Rattle.reports.proofs.Carrying.{Lined}
use Rattle.reports.proofs.play.play.Given as goal

abbrev pub invariant-loop-command : goal.invariant-loop-command
invariant-loop-command g l =
    let s = g.S.ValueStore in
    Lined s.weight (bytes_of l.text) l.initial.session (s.held l.initial.store) l.commands l.command-index (vec_items l.lines) l.session (s.held l.store)

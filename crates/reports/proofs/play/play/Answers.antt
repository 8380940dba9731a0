use Rattle.std.proofs.Common.{is_ok, refl, ap}
use Rattle.session.specs.Scans.{bytes_of}
use Rattle.reports.proofs.Carrying.{lined_more, lined_all}
use Rattle.reports.proofs.play.play.Goals as goal

pub loop-command-preserved : goal.loop-command-preserved
loop-command-preserved g c =
    let s = g.S.ValueStore in
    lined_more _ (bytes_of c.args.text) c.args.session.now _ c.args.commands.now c.loop-command.command-index _ _ _ _ _ c.loop-command.session c.carry_out.new.session (s.held c.loop-command.store) (s.held c.carry_out.new.store)
    c.loop-command-test.true c.loop-command.invariant c.push.ensures.items (ap is_ok c.in_ok-push.was) refl c.in_ok-told.ensures

pub returns : goal.returns
returns g c =
    let s = g.S.ValueStore in
    lined_all _ (bytes_of c.args.text) c.args.session.now _ c.args.commands.now c.loop-command.command-index _ c.loop-command.session (s.held c.loop-command.store)
    c.loop-command-test.false c.loop-command.invariant (c.in_ok-faults.ensures (bytes_of c.args.text))

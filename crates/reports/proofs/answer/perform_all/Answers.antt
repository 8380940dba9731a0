use Rattle.session.specs.Scans.{bytes_of}
use Rattle.reports.proofs.Answering.{lived_through}
use Rattle.reports.proofs.answer.perform_all.Goals as goal

pub returns : goal.returns
returns c =
    lived_through (bytes_of c.args.text) c.args.commands.now _ c.new-session.result c.play.new.session _ _ c.play.result c.new-store.ensures.empty
    (c.new-session.ensures.lives (bytes_of c.args.text)) c.play.ensures

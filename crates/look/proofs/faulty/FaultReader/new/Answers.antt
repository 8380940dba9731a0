use Rattle.look.proofs.TellsFaults.{told_new}
use Rattle.look.proofs.faulty.FaultReader.new.Goals as goal

pub returns-clause-told : goal.returns-clause-told
returns-clause-told c x e = told_new c.args.cursor.bytes.now c.args.start c.args.opening c.args.cursor.place.at x e

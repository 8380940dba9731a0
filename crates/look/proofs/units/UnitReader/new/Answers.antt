use Rattle.look.proofs.GivesUnits.{sofar_new}
use Rattle.look.proofs.units.UnitReader.new.Goals as goal

pub returns-clause-gave : goal.returns-clause-gave
returns-clause-gave c start x e = let s = c.args.cursor in sofar_new s.bytes.now start c.args.opening s.place.at c.next_piece.result x e c.next_piece.ensures

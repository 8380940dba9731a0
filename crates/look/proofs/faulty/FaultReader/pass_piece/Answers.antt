use Rattle.std.proofs.Common.{sym, refl}
use Rattle.pieces.specs.Pieces.{body_of}
use Rattle.look.proofs.Running.{on}
use Rattle.look.proofs.TellsFaults.{passed_told, passed_left, end_told}
use Rattle.look.proofs.faulty.FaultReader.pass_piece.Goals as goal

pub returns-in-Break-clause-told : goal.returns-in-Break-clause-told
returns-in-Break-clause-told c fs x =
    let r = c.args.self.now in
    let p = c.next_piece-piece.result in
    let y = c.next_piece-piece.ensures in
    let h = c.in-Break.ensures (body_of r.opening) r.cursor.bytes.now p.to (sym c.in_template.ensures) y.stop in
    end_told r p.to c.in-Break.ending (record { end = c.in-Break.end; count = c.end_faults.result }) fs c.requires y.plain h c.end_faults.ensures.due x

pub returns-in-Continue-clause-told : goal.returns-in-Continue-clause-told
returns-in-Continue-clause-told c fs x =
    let r = c.args.self.now in
    let k = c.move_to.new.self in
    let d = on r.cursor.bytes.now r.opening r.cursor c.next_piece-piece.result c.in-Continue.passed c.in_template.result k.place.at refl c.next_piece-piece.ensures c.in_template.ensures c.in-Continue.ensures c.move_to.ensures.moves in
    passed_told r k c.next_piece-piece.result c.in-Continue.passed c.then_some.result fs d c.move_to.ensures.text c.requires c.then_some.ensures x

pub returns-in-Continue-clause-nearer : goal.returns-in-Continue-clause-nearer
returns-in-Continue-clause-nearer c =
    let r = c.args.self.now in
    let k = c.move_to.new.self in
    let d = on r.cursor.bytes.now r.opening r.cursor c.next_piece-piece.result c.in-Continue.passed c.in_template.result k.place.at refl c.next_piece-piece.ensures c.in_template.ensures c.in-Continue.ensures c.move_to.ensures.moves in
    passed_left r k c.next_piece-piece.result c.in-Continue.passed d c.move_to.ensures.text c.requires

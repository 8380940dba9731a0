-- Where the two readers of a literal stand: at places of the text, in a literal that opens. Assumes nothing.
use Rattle.std.proofs.Common.{◌≡◌, ◌≤◌, List, ℕ, None, subst}
use Rattle.escapes.specs.Places.{At}
use Rattle.faults.specs.declared.list.Fault.{Fault}
use Rattle.look.specs.Told.{ToldAt, Told}
use Rattle.look.specs.Units.{Opened, Gave}
use Rattle.look.specs.declared.units.UnitReader.{UnitReader}
use Rattle.look.specs.declared.faulty.FaultReader.{FaultReader}
use Rattle.look.proofs.Opens.{place}

-- the reader of units: in front of the end of its piece
pub record InPiece (r : UnitReader) (start : ℕ) : Type 0 where
  pub opened : Opened r.cursor.bytes.now start r.opening
  pub here : At r.cursor.bytes.now r.cursor.place.at
  pub there : At r.cursor.bytes.now r.piece.to
  pub order : r.cursor.place.at ≤ r.piece.to

pub in_piece : (r : UnitReader) (start : ℕ) (us : List ℕ) → Gave r start us → InPiece r start
in_piece r start us g = record { opened = g.opened; here = place r.cursor.bytes.now r.cursor.place.at r.cursor.well r.cursor.boundary; there = g.read.plain.behind; order = r.order }

-- the reader of faults, as long as it stands inside
pub record InLiteral (r : FaultReader) : Type 0 where
  pub opened : Opened r.cursor.bytes.now r.start r.opening
  pub here : At r.cursor.bytes.now r.cursor.place.at

pub in_literal : (r : FaultReader) (fs : List Fault) → r.due ≡ None → Told r fs → InLiteral r
in_literal r fs e x =
    let y = subst (λ z. ToldAt r.cursor.bytes.now r.start r.opening r.cursor.place.at z fs) e x in
    record { opened = y.opened; here = place r.cursor.bytes.now r.cursor.place.at r.cursor.well r.cursor.boundary }

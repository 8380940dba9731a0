-- A literal run through to its end. Assumes nothing.
use Rattle.std.specs.Prelude.{◌≡◌, ℕ, ◌+◌, ◌≤◌, List, length, is_some, Option}
use Rattle.grammar.specs.Utf8.{utf8}
use Rattle.grammar.specs.Outcome.{Fault}
use Rattle.escapes.specs.Escapes.{Part}
use Rattle.pieces.specs.Pieces.{body_of, ending_of, Ends}
use Rattle.pieces.specs.declared.piece.Opening.{Opening}
use Rattle.look.specs.declared.run.Tally.{Tally}
use Rattle.look.specs.declared.run.Run.{Run}
use Rattle.look.specs.Units.{Opened}

-- the literal is read from behind its opening up to q, and these are its counts
pub record Upto (bs : List ℕ) (start : ℕ) (o : Opening) (q : ℕ) (t : Tally) : Type 0 where
  pub units : Option (List ℕ)
  pub faults : List Fault
  pub part : Part (body_of o) (utf8 bs) (start + 1) units faults t.marked q
  pub faulted : t.faults ≡ length faults
  pub cooked : t.cooked ≡ is_some units

-- and it ends there
pub record Ran (bs : List ℕ) (start : ℕ) (o : Opening) (r : Run) : Type 0 where
  pub opened : Opened bs start o
  pub stop : ℕ
  pub upto : Upto bs start o stop r.tally
  pub ends : Ends (body_of o) bs stop (ending_of r.ending) r.end
  pub few : r.tally.faults ≤ length bs

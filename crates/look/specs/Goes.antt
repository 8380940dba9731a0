-- How a literal goes on at a stop, and how far it is read. Assumes nothing.
use Rattle.std.specs.Prelude.{◌≡◌, ℕ, cond, List, [], ◌∷◌, is_some, Option}
use Rattle.std.specs.declared.ops.ControlFlow.{ControlFlow}
use Rattle.std.specs.declared.ops.ControlFlow.TheVariants.{Continue, Break}
use Rattle.grammar.specs.Literal.{Body}
use Rattle.grammar.specs.Outcome.{Fault, fault, invalid_escape}
use Rattle.pieces.specs.Pieces.{ending_of, GoesOn, Ends}
use Rattle.pieces.specs.declared.piece.Ending.{Ending}
use Rattle.look.specs.declared.go.Passed.{Passed}

-- the faults of a stop at p
abbrev pub faults_at : ℕ → Passed → List Fault
faults_at p w = cond w.faulty (fault invalid_escape p w.next ∷ []) []

pub record PassedRead (b : Body) (bs : List ℕ) (p : ℕ) (w : Passed) : Type 0 where
  pub units : Option (List ℕ)
  pub on : GoesOn b bs p units (faults_at p w) w.marked w.next
  pub cooked : w.cooked ≡ is_some units

abbrev pub GoRead : Body → List ℕ → ℕ → ControlFlow (Ending × ℕ) Passed → Type 0
GoRead b bs p (Continue w) = PassedRead b bs p w
GoRead b bs p (Break e) = Ends b bs p (ending_of e.0) e.1

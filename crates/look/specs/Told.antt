-- The faults of a literal, one after the other: where their reader stands, and what a call tells. Assumes nothing.
use Rattle.std.specs.Prelude.{◌≡◌, ℕ, zero, suc, ◌+◌, ◌-◌, Bool, List, [], ◌∷◌, ◌++◌, length, Option, None, Some, MatchOption}
use Rattle.grammar.specs.Utf8.{utf8}
use Rattle.grammar.specs.Reading as grammar
use Rattle.grammar.specs.Outcome as outcome
use Rattle.faults.specs.declared.list.Fault.{Fault}
use Rattle.faults.specs.declared.list.FaultKind.TheVariants.{Unterminated}
use Rattle.tokens.specs.Grammar.{recorded}
use Rattle.escapes.specs.Escapes.{Part}
use Rattle.pieces.specs.Pieces.{scan_of, body_of}
use Rattle.pieces.specs.declared.piece.Opening.{Opening}
use Rattle.look.specs.Units.{Opened}
use Rattle.look.specs.declared.faulty.Due.{Due}
use Rattle.look.specs.declared.faulty.FaultReader.{FaultReader}

-- the same unterminated fault some times
abbrev pub due : ℕ → ℕ → ℕ → List Fault
due p q zero = []
due p q (suc n) = record { kind = Unterminated; from = p; to = q } ∷ due p q n

-- the literal is read up to a place, and these faults are told
pub record FaultsUpto (bs : List ℕ) (start : ℕ) (o : Opening) (at : ℕ) (fs : List Fault) : Type 0 where
  pub opened : Opened bs start o
  pub units : Option (List ℕ)
  pub faults : List outcome.Fault
  pub mark : Bool
  pub part : Part (body_of o) (utf8 bs) (start + 1) units faults mark at
  pub told : recorded faults ≡ fs

-- it is read to its end, and these are its faults
pub record AllTold (bs : List ℕ) (start : ℕ) (o : Opening) (fs : List Fault) : Type 0 where
  pub read : grammar.Read
  pub reading : grammar.Reading (utf8 bs) read
  pub starts : read.from ≡ start
  pub scans : read.scan ≡ scan_of o
  pub all : recorded (outcome.faults_read read) ≡ fs

-- where the reader stands, with these faults told
abbrev pub ToldAt : List ℕ → ℕ → Opening → ℕ → Option Due → List Fault → Type 0
ToldAt bs start o at None fs = FaultsUpto bs start o at fs
ToldAt bs start o at (Some d) fs = AllTold bs start o (fs ++ due start d.end d.count)

abbrev pub Told : FaultReader → List Fault → Type 0
Told r fs = ToldAt r.cursor.bytes.now r.start r.opening r.cursor.place.at r.due fs

-- these are the faults of the literal
abbrev pub ToldAll : FaultReader → List Fault → Type 0
ToldAll r fs = AllTold r.cursor.bytes.now r.start r.opening fs

-- a reader of the same literal
abbrev pub Same : FaultReader → FaultReader → Type 0
Same s r = (s.cursor.bytes.now ≡ r.cursor.bytes.now) × (s.opening ≡ r.opening) × (s.start ≡ r.start)

-- a call tells one fault more, and none only where all are told
abbrev pub Tells : FaultReader → Option Fault → FaultReader → Type 0
Tells r f s = Same s r × ((fs : List Fault) → Told r fs → MatchOption f (ToldAll r fs) (λ x. Told s (fs ++ x ∷ [])))

-- falls with each fault
abbrev pub left_at : List ℕ → ℕ → Option Due → ℕ
left_at bs at None = 3 + (length bs - at)
left_at bs at (Some d) = d.count

abbrev pub left : FaultReader → ℕ
left r = left_at r.cursor.bytes.now r.cursor.place.at r.due

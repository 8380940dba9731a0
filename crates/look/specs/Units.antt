-- The units of a literal, one after the other: where their reader stands, and what a call gives. Assumes nothing.
use Rattle.std.specs.Prelude.{◌≡◌, ℕ, ◌+◌, ◌-◌, ◌*◌, ◌<◌, ◌≤◌, Bool, List, [], ◌∷◌, ◌++◌, length, Some, None, Option, MatchOption}
use Rattle.grammar.specs.Utf8.{utf8}
use Rattle.grammar.specs.Rule.{Leaf, Takes}
use Rattle.grammar.specs.Literal.{Body}
use Rattle.grammar.specs.Reading as grammar
use Rattle.grammar.specs.Outcome.{Fault, units_read}
use Rattle.escapes.specs.Places.{At}
use Rattle.escapes.specs.Escapes.{Part, listed}
use Rattle.escapes.specs.declared.unicode.Given.{Given}
use Rattle.escapes.specs.declared.unicode.Units.{Units}
use Rattle.pieces.specs.Plain.{spelt, utf16s}
use Rattle.pieces.specs.Pieces.{scan_of, body_of, GoesOn, Ends, PieceRead}
use Rattle.pieces.specs.declared.piece.Opening.{Opening}
use Rattle.pieces.specs.declared.piece.Piece.{Piece}
use Rattle.look.specs.declared.units.UnitReader.{UnitReader}

-- a literal opens at a place
pub record Opened (bs : List ℕ) (start : ℕ) (o : Opening) : Type 0 where
  pub leaves : List Leaf
  pub takes : Takes (utf8 bs) start (grammar.opening_of (scan_of o)) leaves (start + 1)
  pub behind : At bs (start + 1)

-- where there is a value, it is this
abbrev pub Holds : Option (List ℕ) → List ℕ → Type 0
Holds u xs = (us : List ℕ) → u ≡ Some us → us ≡ xs

-- what a stop gives, and where the literal goes on
abbrev pub GivenRead : Body → List ℕ → ℕ → Option Given → Type 0
GivenRead b bs p (Some g) = (u : Option (List ℕ)) × (fs : List Fault) × (mark : Bool) × GoesOn b bs p u fs mark g.next × Holds u (listed g.units)
GivenRead b bs p None = (e : grammar.Ending) × (q : ℕ) × Ends b bs p e q

-- the literal is read up to the end of a piece, its units us are given, and those behind them are the pending ones and the characters from `at` to that end
pub record Sofar (bs : List ℕ) (start : ℕ) (o : Opening) (at : ℕ) (piece : Piece) (pending us : List ℕ) : Type 0 where
  pub opened : Opened bs start o
  pub units : Option (List ℕ)
  pub faults : List Fault
  pub mark : Bool
  pub part : Part (body_of o) (utf8 bs) (start + 1) units faults mark piece.to
  pub holds : Holds units (us ++ (pending ++ utf16s (spelt bs at piece.to)))
  pub from : ℕ
  pub read : PieceRead (body_of o) bs from piece.to piece.stop

abbrev pub Gave : UnitReader → ℕ → List ℕ → Type 0
Gave r start us = Sofar r.cursor.bytes.now start r.opening r.cursor.place.at r.piece (listed r.pending) us

-- the literal is read to its end, and its value, if it has one, is us
pub record AllGiven (bs : List ℕ) (start : ℕ) (o : Opening) (us : List ℕ) : Type 0 where
  pub read : grammar.Read
  pub reading : grammar.Reading (utf8 bs) read
  pub starts : read.from ≡ start
  pub scans : read.scan ≡ scan_of o
  pub value : Holds (units_read read) us

abbrev pub GaveAll : UnitReader → ℕ → List ℕ → Type 0
GaveAll r start us = AllGiven r.cursor.bytes.now start r.opening us

-- a reader of the same text, by the same rules
abbrev pub Same : UnitReader → UnitReader → Type 0
Same s r = (s.cursor.bytes.now ≡ r.cursor.bytes.now) × (s.opening ≡ r.opening)

-- a call gives one unit more, and none only where all are given
abbrev pub Gives : UnitReader → Option ℕ → UnitReader → Type 0
Gives r u s = Same s r × ((start : ℕ) (us : List ℕ) → Gave r start us → MatchOption u (GaveAll r start us) (λ x. Gave s start (us ++ x ∷ [])))

-- the bytes that are not read yet
abbrev pub unread : UnitReader → ℕ
unread r = length r.cursor.bytes.now - r.cursor.place.at

-- how many units come at most: two a byte, and the pending ones; it falls with each unit
abbrev pub togo : UnitReader → ℕ
togo r = 2 * unread r + length (listed r.pending)

-- the units us are given, and those that were read last are still to be given
abbrev pub GaveBut : UnitReader → Units → ℕ → List ℕ → Type 0
GaveBut r w start us = Sofar r.cursor.bytes.now start r.opening r.cursor.place.at r.piece (listed w) us

-- it reads on where it stands: the same literal, with the same units given, nearer to the end, and no more to come than before; or all of them are given
pub record ReadsOn (r : UnitReader) (on : Option Units) (s : UnitReader) : Type 0 where
  pub same : Same s r
  pub idle : s.pending ≡ r.pending
  pub gave : (start : ℕ) (us : List ℕ) → Gave r start us → MatchOption on (GaveAll r start us) (λ w. GaveBut s w start us)
  pub nearer : MatchOption on (Unit {0}) (λ w. (unread s < unread r) × (2 * unread s + length (listed w) ≤ togo r))

-- the first of some units is given and the others are pending, or there is none and all is as it was
pub record Kept (r : UnitReader) (w : Units) (u : Option ℕ) (s : UnitReader) : Type 0 where
  pub cursor : s.cursor ≡ r.cursor
  pub opening : s.opening ≡ r.opening
  pub piece : s.piece ≡ r.piece
  pub given : MatchOption u ((listed w ≡ []) × (s.pending ≡ r.pending)) (λ x. listed w ≡ x ∷ listed s.pending)

-- a number of units is that of the literal's value, if it has one
pub record CountedUnits (bs : List ℕ) (start : ℕ) (o : Opening) (n : ℕ) : Type 0 where
  pub read : grammar.Read
  pub reading : grammar.Reading (utf8 bs) read
  pub starts : read.from ≡ start
  pub count : (us : List ℕ) → units_read read ≡ Some us → n ≡ length us

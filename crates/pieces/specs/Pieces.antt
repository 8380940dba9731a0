-- A piece of a literal: plain characters, and what stops them. Assumes nothing.
use Rattle.std.specs.Prelude.{ℕ, ◌+◌, ◌<◌, ◌≤◌, Bool, true, false, List, [], ◌∷◌, Some, Option}
use Rattle.grammar.specs.Utf8.{utf8}
use Rattle.grammar.specs.Rule.{Leaf, Takes}
use Rattle.grammar.specs.Literal.{Body, double, single, template}
use Rattle.grammar.specs.Outcome.{Fault}
use Rattle.grammar.specs.Recovery as recovery
use Rattle.grammar.specs.Reading as grammar
use Rattle.stops.specs.Stops as stops
use Rattle.escapes.specs.Escapes.{Part, is_template, units_told, faults_told, reached}
use Rattle.escapes.specs.Places.{At}
use Rattle.pieces.specs.declared.piece.Opening.{Opening}
use Rattle.pieces.specs.declared.piece.Opening.TheVariants.{Double, Single, Template, Resumption}
use Rattle.pieces.specs.declared.piece.Ending.{Ending}
use Rattle.pieces.specs.declared.piece.Ending.TheVariants.{Closed, Substitution, LineBreak, TextEnd, LastBackslash}
use Rattle.pieces.specs.declared.piece.Stop.{Stop}
use Rattle.pieces.specs.declared.piece.Stop.TheVariants.{Escape, Return, Dollar, End}
use Rattle.pieces.specs.Plain.{Plain}

-- the grammar's words for an opening and an ending
abbrev pub scan_of : Opening → grammar.Scan
scan_of Double = grammar.double_scan
scan_of Single = grammar.single_scan
scan_of Template = grammar.template_scan
scan_of Resumption = grammar.resumption

abbrev pub body_of : Opening → Body
body_of o = grammar.body_read (scan_of o)

abbrev pub ending_of : Ending → grammar.Ending
ending_of Closed = grammar.closed
ending_of Substitution = grammar.substitution
ending_of LineBreak = grammar.broken recovery.line_break
ending_of TextEnd = grammar.broken recovery.text_end
ending_of LastBackslash = grammar.broken recovery.last_backslash

-- the bytes that stop a run of plain characters
abbrev pub stops_in : Body → ℕ → Bool
stops_in double b = stops.double b
stops_in single b = stops.single b
stops_in template b = stops.template b

-- the literal goes on from p: with these units or none, faults and mark, up to q
pub record GoesOn (body : Body) (bs : List ℕ) (p : ℕ) (u : Option (List ℕ)) (fs : List Fault) (mark : Bool) (q : ℕ) : Type 0 where
  pub part : Part body (utf8 bs) p u fs mark q
  pub behind : At bs q
  pub moves : p < q

-- or it ends there
pub record Ends (body : Body) (bs : List ℕ) (p : ℕ) (e : grammar.Ending) (q : ℕ) : Type 0 where
  pub leaves : List Leaf
  pub takes : Takes (utf8 bs) p (grammar.end_rule body e) leaves q
  pub behind : At bs q
  pub order : p ≤ q

abbrev pub StopRead : Body → List ℕ → ℕ → Stop → Type 0
StopRead b bs p (Escape e) = GoesOn b bs p (units_told (is_template b) e) (faults_told (is_template b) p e) true (reached e) × (p + 1 < reached e)
StopRead b bs p (Return q) = GoesOn b bs p (Some (10 ∷ [])) [] true q
StopRead b bs p (Dollar q) = GoesOn b bs p (Some (36 ∷ [])) [] false q
StopRead b bs p (End e q) = Ends b bs p (ending_of e) q

-- from p plain characters up to q, and there the stop
pub record PieceRead (b : Body) (bs : List ℕ) (p q : ℕ) (s : Stop) : Type 0 where
  pub plain : Plain b bs p q
  pub stop : StopRead b bs q s

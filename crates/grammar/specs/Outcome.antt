-- What a reading tells: kind, end, mark, faults, units or none, and the entry that a session would hold. Assumes nothing.
use Rattle.std.specs.Prelude.{ℕ, Bool, true, false, cond, ◌||◌, List, [], ◌∷◌, ◌++◌, is_some, Some, None, Option}
use Rattle.grammar.specs.Rule.{codes}
use Rattle.grammar.specs.Production.{lf, cr, ls, ps, crlf}
use Rattle.grammar.specs.Production.{Character, source_character, line_separator, paragraph_separator, dollar, escape, not_escape, line_continuation, line_terminator}
use Rattle.grammar.specs.Value.{character_value, joined}
use Rattle.grammar.specs.Literal.{Kind, str, no_substitution_template, template_head, template_middle, template_tail, Node}
use Rattle.grammar.specs.Recovery.{line_break, text_end, last_backslash}
use Rattle.grammar.specs.Reading.{Scan, double_scan, single_scan, template_scan, resumption, Step, proper, bad, Ending, closed, substitution, broken, Read}

-- THE KIND; none: Undetermined

abbrev pub kind_at : Scan → Ending → Option Kind
kind_at double_scan closed = Some str
kind_at single_scan closed = Some str
kind_at template_scan closed = Some no_substitution_template
kind_at resumption closed = Some template_tail
kind_at double_scan substitution = None
kind_at single_scan substitution = None
kind_at template_scan substitution = Some template_head
kind_at resumption substitution = Some template_middle
kind_at s (broken k) = None

abbrev pub kind_read : Read → Option Kind
kind_read r = kind_at r.scan r.ending

-- THE END

abbrev pub end_read : Read → ℕ
end_read r = r.to

-- THE MARK: a terminated literal with a backslash in it, or a template with a raw CR

abbrev pub marks : Character → Bool
marks source_character = false
marks line_separator = false
marks paragraph_separator = false
marks dollar = false
marks (escape e) = true
marks (not_escape n) = true
marks (line_continuation l) = true
marks (line_terminator lf) = false
marks (line_terminator cr) = true
marks (line_terminator ls) = false
marks (line_terminator ps) = false
marks (line_terminator crlf) = true

abbrev pub step_marks : Step → Bool
step_marks (proper c) = marks c
step_marks (bad e) = true

abbrev pub any_marks : List (Node Step) → Bool
any_marks [] = false
any_marks (n ∷ ns) = step_marks n.what || any_marks ns

abbrev pub mark_read : Read → Bool
mark_read r = cond (is_some (kind_read r)) (any_marks r.steps) false

-- THE FAULTS, in the order in which they are recorded

pub data FaultKind : Type 0 where
  unterminated invalid_escape : FaultKind

abbrev pub fault_number : FaultKind → ℕ
fault_number unterminated = 1
fault_number invalid_escape = 2

pub record Fault : Type 0 where
  pub kind : FaultKind
  pub from : ℕ
  pub to : ℕ

abbrev pub fault : FaultKind → ℕ → ℕ → Fault
fault k p q = record { kind = k; from = p; to = q }

-- a bad escape of a string: from its backslash to the place reached
abbrev pub step_faults : Step → ℕ → ℕ → List Fault
step_faults (proper c) p q = []
step_faults (bad e) p q = fault invalid_escape p q ∷ []

abbrev pub faults_of : List (Node Step) → List Fault
faults_of [] = []
faults_of (n ∷ ns) = step_faults n.what n.from n.to ++ faults_of ns

-- a literal that breaks off: from its start to the place reached, and twice at a backslash that is the text's last character
abbrev pub end_faults : Ending → ℕ → ℕ → List Fault
end_faults closed p q = []
end_faults substitution p q = []
end_faults (broken line_break) p q = fault unterminated p q ∷ []
end_faults (broken text_end) p q = fault unterminated p q ∷ []
end_faults (broken last_backslash) p q = fault unterminated p q ∷ fault unterminated p q ∷ []

abbrev pub faults_read : Read → List Fault
faults_read r = faults_of r.steps ++ end_faults r.ending r.from r.to

-- THE UNITS, or none: a bad escape gives a string no unit, and a NotEscapeSequence takes a template's value away

abbrev pub step_value : Step → List ℕ → Option (List ℕ)
step_value (proper c) cs = character_value c cs
step_value (bad e) cs = Some []

abbrev pub units_from : List (Node Step) → Option (List ℕ)
units_from [] = Some []
units_from (n ∷ ns) = joined (step_value n.what (codes n.leaves)) (units_from ns)

abbrev pub units_read : Read → Option (List ℕ)
units_read r = units_from r.steps

-- THE ENTRY: none for a literal that is unterminated or unmarked, else its units or none

abbrev pub entry_read : Read → Option (Option (List ℕ))
entry_read r = cond (mark_read r) (Some (units_read r)) None

-- What the readers of escapes answer: steps of a reading from the backslash on, with their units and faults. Assumes nothing.
use Rattle.std.specs.Prelude.{◌≡◌, ℕ, ◌+◌, ◌<◌, ◌≤◌, Bool, true, false, cond, T, ◌⊎◌, List, [], ◌∷◌, length, drop, Some, None, Option, Ok, Err, Result}
use Rattle.grammar.specs.Text.{Text, over, char}
use Rattle.grammar.specs.Utf8.{utf8}
use Rattle.grammar.specs.Rule.{Rule, absent, Matches, only, member, mv, digit}
use Rattle.grammar.specs.Production.{NotEscapeSequence, unicode_hex4, escape_sequence, template_escape_sequence, not_escape_sequence, line_terminator_sequence}
use Rattle.grammar.specs.Production.{Character, source_character, line_separator, paragraph_separator, dollar, escape, not_escape, line_continuation, line_terminator}
use Rattle.grammar.specs.Production.{single_escape_characters, non_escape_character, octal_digit, decimal_digit_not_zero, eight_nine}
use Rattle.grammar.specs.Value.{character_value, single_escape_value, utf16}
use Rattle.grammar.specs.Literal.{Body, double, single, template, Node, Chain}
use Rattle.grammar.specs.Recovery.{BadEscape, bad_escape}
use Rattle.grammar.specs.Reading.{Step, step_rule}
use Rattle.grammar.specs.Outcome.{Fault, fault, invalid_escape, units_from, faults_of, any_marks}
use Rattle.escapes.specs.Places.{At, Here}
use Rattle.escapes.specs.Digits.{Digits}
use Rattle.escapes.specs.declared.unicode.Units.{Units}
use Rattle.escapes.specs.declared.unicode.Units.TheVariants.{Nothing, One, Two}
use Rattle.escapes.specs.declared.unicode.UnicodeEscape.{UnicodeEscape}
use Rattle.escapes.specs.declared.unicode.UnicodeEscape.TheVariants.{CodePoint, SurrogatePair, LoneSurrogate}
use Rattle.escapes.specs.declared.unicode.Given.{Given}
use Rattle.escapes.specs.declared.unicode.Invalid.{Invalid}
use Rattle.escapes.specs.declared.unicode.Lead.{Lead}
use Rattle.escapes.specs.declared.unicode.Lead.TheVariants.{LineBreak, Return, Single, Hex, Unicode, Nul, Octal, ZeroDecimal, Decimal, Other}

-- the units of an escape, in order
abbrev pub listed : Units → List ℕ
listed Nothing = []
listed (One u) = u ∷ []
listed (Two u v) = u ∷ v ∷ []

-- what a Unicode escape gives: a code point in UTF-16, and a surrogate as itself
abbrev pub unicode_units : UnicodeEscape → List ℕ
unicode_units (CodePoint c) = utf16 c
unicode_units (SurrogatePair c) = utf16 c
unicode_units (LoneSurrogate u) = u ∷ []

-- the place reached
abbrev pub reached : Result Given Invalid → ℕ
reached (Ok g) = g.next
reached (Err e) = e.next

-- what a character behind a backslash begins, with a decimal digit behind it or not, in a template or not
abbrev pub Leads : ℕ → Bool → Bool → Lead → Type 0
Leads c digit_behind m LineBreak = (c ≡ 10) ⊎ ((c ≡ 8232) ⊎ (c ≡ 8233))
Leads c digit_behind m Return = c ≡ 13
Leads c digit_behind m (Single u) = T (member c (only single_escape_characters)) × (u ≡ single_escape_value c)
Leads c digit_behind m Hex = c ≡ 120
Leads c digit_behind m Unicode = c ≡ 117
Leads c digit_behind m Nul = (c ≡ 48) × (digit_behind ≡ false)
Leads c digit_behind m (Octal v) = T (member c octal_digit) × (v ≡ digit c) × (m ≡ false) × (v ≡ 0 → digit_behind ≡ true)
Leads c digit_behind m ZeroDecimal = (c ≡ 48) × (digit_behind ≡ true) × (m ≡ true)
Leads c digit_behind m Decimal = T (member c decimal_digit_not_zero) × (m ≡ true)
Leads c digit_behind m Other = T (member c non_escape_character) ⊎ (T (member c (only eight_nine)) × (m ≡ false))

-- the rule behind the backslash of a character, in a template (true) or a string
abbrev pub behind_rule : Bool → Character → Rule
behind_rule m (escape e) = cond m (template_escape_sequence e) (escape_sequence e)
behind_rule m (line_continuation l) = line_terminator_sequence l
behind_rule m (not_escape n) = absent
behind_rule m source_character = absent
behind_rule m line_separator = absent
behind_rule m paragraph_separator = absent
behind_rule m dollar = absent
behind_rule m (line_terminator l) = absent

-- behind a backslash at whose other side p stands: one character of the grammar
pub record Alone (m : Bool) (t : Text) (p : ℕ) (us : List ℕ) (q : ℕ) : Type 0 where
  pub what : Character
  pub chars : List ℕ
  pub matches : Matches t p (behind_rule m what) chars q
  pub units : character_value what (92 ∷ chars) ≡ Some us

-- two of them: a high and a low half
pub record Joined (t : Text) (p : ℕ) (us : List ℕ) (q : ℕ) : Type 0 where
  pub middle : ℕ
  pub second : ℕ
  pub highs : List ℕ
  pub lows : List ℕ
  pub first_matches : Matches t p (escape_sequence unicode_hex4) highs middle
  pub backslash : t middle ≡ char 92 second
  pub second_matches : Matches t second (escape_sequence unicode_hex4) lows q
  pub units : us ≡ mv 16 (drop 1 highs) ∷ mv 16 (drop 1 lows) ∷ []

-- or a NotEscapeSequence in a template, and a bad escape in a string
abbrev pub Wrong : Bool → Text → ℕ → ℕ → Type 0
Wrong true t p q = (n : NotEscapeSequence) × (cs : List ℕ) × Matches t p (not_escape_sequence n) cs q
Wrong false t p q = (b : BadEscape) × (cs : List ℕ) × Matches t p (bad_escape b) cs q

abbrev pub Behind : Bool → List ℕ → ℕ → Result Given Invalid → Type 0
Behind m bs p (Ok g) = (Alone m (utf8 bs) p (listed g.units) g.next ⊎ Joined (utf8 bs) p (listed g.units) g.next) × At bs g.next × (p < g.next)
Behind m bs p (Err e) = Wrong m (utf8 bs) p e.next × At bs e.next × (p < e.next)

-- a low half behind a high one, its backslash at p
pub record Low (bs : List ℕ) (p l q : ℕ) : Type 0 where
  pub backslash : Here bs p 92
  pub letter : Here bs (p + 1) 117
  pub digits : Digits bs (p + 2) l q
  pub four : length digits.chars ≡ 4
  pub low : 56320 ≤ l
  pub high : l ≤ 57343

-- IN THE WORDS OF A READING

-- steps in a row from p to q, with their units or none, faults and mark
pub record Part (body : Body) (t : Text) (p : ℕ) (u : Option (List ℕ)) (fs : List Fault) (mark : Bool) (q : ℕ) : Type 0 where
  pub nodes : List (Node Step)
  pub chain : Chain (step_rule body) t p nodes q
  pub units : units_from nodes ≡ u
  pub faulted : faults_of nodes ≡ fs
  pub marked : any_marks nodes ≡ mark

abbrev pub is_template : Body → Bool
is_template double = false
is_template single = false
is_template template = true

-- an invalid escape gives a string no unit and a fault, and takes a template's value away
abbrev pub units_told : Bool → Result Given Invalid → Option (List ℕ)
units_told m (Ok g) = Some (listed g.units)
units_told true (Err e) = None
units_told false (Err e) = Some []

abbrev pub faults_told : Bool → ℕ → Result Given Invalid → List Fault
faults_told m b (Ok g) = []
faults_told true b (Err e) = []
faults_told false b (Err e) = fault invalid_escape b e.next ∷ []

-- what is read at p, behind a backslash: nothing at the text's end; else the backslash and the escape are steps of every body of that sort
abbrev pub EscapeRead : Bool → List ℕ → ℕ → Option (Result Given Invalid) → Type 0
EscapeRead m bs p None = utf8 bs p ≡ over
EscapeRead m bs p (Some e) =
    ((body : Body) (b : ℕ) → is_template body ≡ m → utf8 bs b ≡ char 92 p → Part body (utf8 bs) b (units_told m e) (faults_told m b e) true (reached e))
    × At bs (reached e) × (p < reached e)

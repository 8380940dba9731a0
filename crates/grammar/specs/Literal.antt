-- The literals: a derivation as a tree with its places, when the standard derives it from a text, its kind, and its value. Assumes nothing.
use Rattle.std.specs.Prelude.{◌≡◌, ℕ, Bool, true, false, ◌||◌, List, [], ◌∷◌, Some, Option}
use Rattle.grammar.specs.Text.{Text}
use Rattle.grammar.specs.Rule.{Rule, ◌▸◌, done, Leaf, codes, Takes}
use Rattle.grammar.specs.Production.{Character, source_character, line_separator, paragraph_separator, dollar, escape, not_escape, line_continuation, line_terminator}
use Rattle.grammar.specs.Production.{double_string_character, single_string_character, template_character, one_of}
use Rattle.grammar.specs.Value.{character_value, joined}

pub data Kind : Type 0 where
  str no_substitution_template template_head template_middle template_tail : Kind

-- the two alternatives of StringLiteral, and the four productions of a template's parts
pub data Production : Type 0 where
  -- StringLiteral :: " DoubleStringCharacters(opt) "
  double_string : Production
  -- StringLiteral :: ' SingleStringCharacters(opt) '
  single_string : Production
  -- NoSubstitutionTemplate :: ` TemplateCharacters(opt) `
  no_substitution : Production
  -- TemplateHead :: ` TemplateCharacters(opt) ${
  head : Production
  -- TemplateMiddle :: } TemplateCharacters(opt) ${
  middle : Production
  -- TemplateTail :: } TemplateCharacters(opt) `
  tail : Production
  deriving Discrete as production_discrete

abbrev pub kind_of : Production → Kind
kind_of double_string = str
kind_of single_string = str
kind_of no_substitution = no_substitution_template
kind_of head = template_head
kind_of middle = template_middle
kind_of tail = template_tail

abbrev pub opening : Production → Rule
opening double_string = one_of "\"" ▸ done
opening single_string = one_of "'" ▸ done
opening no_substitution = one_of "`" ▸ done
opening head = one_of "`" ▸ done
opening middle = one_of "}" ▸ done
opening tail = one_of "}" ▸ done

abbrev pub closing : Production → Rule
closing double_string = one_of "\"" ▸ done
closing single_string = one_of "'" ▸ done
closing no_substitution = one_of "`" ▸ done
closing head = one_of "$" ▸ one_of "{" ▸ done
closing middle = one_of "$" ▸ one_of "{" ▸ done
closing tail = one_of "`" ▸ done

-- which characters stand between: DoubleStringCharacter, SingleStringCharacter or TemplateCharacter
pub data Body : Type 0 where
  double single template : Body
  deriving Discrete as body_discrete

abbrev pub body_of : Production → Body
body_of double_string = double
body_of single_string = single
body_of no_substitution = template
body_of head = template
body_of middle = template
body_of tail = template

abbrev pub character_rule : Body → Character → Rule
character_rule double c = double_string_character c
character_rule single c = single_string_character c
character_rule template c = template_character c

-- an alternative with its places and the characters that it took
pub record Node (A : Type 0) : Type 0 where
  pub what : A
  pub from : ℕ
  pub leaves : List Leaf
  pub to : ℕ

pub record Tree : Type 0 where
  pub production : Production
  pub from : ℕ
  pub opens : List Leaf
  pub start : ℕ
  pub characters : List (Node Character)
  pub close : ℕ
  pub closes : List Leaf
  pub to : ℕ

-- nodes in a row from p to q, each by the rule of its alternative
abbrev pub Chain : {A : Type 0} → (A → Rule) → Text → ℕ → List (Node A) → ℕ → Type 0
Chain f t p [] q = p ≡ q
Chain f t p (n ∷ ns) q = (n.from ≡ p) × Takes t p (f n.what) n.leaves n.to × Chain f t n.to ns q

pub record Derives (t : Text) (d : Tree) : Type 0 where
  pub opened : Takes t d.from (opening d.production) d.opens d.start
  pub inside : Chain (character_rule (body_of d.production)) t d.start d.characters d.close
  pub closed : Takes t d.close (closing d.production) d.closes d.to

-- the SV or TV of the characters in a row; none: undefined
abbrev pub units_of : List (Node Character) → Option (List ℕ)
units_of [] = Some []
units_of (n ∷ ns) = joined (character_value n.what (codes n.leaves)) (units_of ns)

-- whether a NotEscapeSequence stands among the characters
abbrev pub is_not_escape : Character → Bool
is_not_escape source_character = false
is_not_escape line_separator = false
is_not_escape paragraph_separator = false
is_not_escape dollar = false
is_not_escape (escape e) = false
is_not_escape (not_escape n) = true
is_not_escape (line_continuation l) = false
is_not_escape (line_terminator l) = false

abbrev pub any_not_escape : List (Node Character) → Bool
any_not_escape [] = false
any_not_escape (n ∷ ns) = is_not_escape n.what || any_not_escape ns

-- THE STANDARD'S RELATION between text, start, kind, end, derivation and units or none
pub record Derivation (t : Text) (start : ℕ) (kind : Kind) (end : ℕ) (d : Tree) (units : Option (List ℕ)) : Type 0 where
  pub derives : Derives t d
  pub starts : d.from ≡ start
  pub of_kind : kind_of d.production ≡ kind
  pub ends : d.to ≡ end
  pub valued : units_of d.characters ≡ units

abbrev pub Derivable : Text → ℕ → Kind → ℕ → Option (List ℕ) → Type 0
Derivable t start k e u = (d : Tree) × Derivation t start k e d u

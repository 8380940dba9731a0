-- The theorems on derivations and readings. Assumes nothing.
use Rattle.std.specs.Prelude.{◌≡◌, ℕ, Bool, false, cond, ◌||◌, T, ◌↔◌, List, [], ◌∷◌, is_some, Some, None, Option}
use Rattle.grammar.specs.Text.{Text}
use Rattle.grammar.specs.Rule.{among, codes}
use Rattle.grammar.specs.Production.{points}
use Rattle.grammar.specs.Literal.{Kind, template, Node, Tree, Derivation, Derivable, any_not_escape}
use Rattle.grammar.specs.Reading.{body_read, Step, Read, Reading, as_steps}
use Rattle.grammar.specs.Outcome.{kind_read, end_read, mark_read, faults_read, units_read, end_faults}

-- any two derivations from one start are the same: kind, end, tree and units
abbrev pub DerivationsAreOne : Type 0
DerivationsAreOne =
    (t : Text) (start : ℕ) (k₁ k₂ : Kind) (e₁ e₂ : ℕ) (d₁ d₂ : Tree) (u₁ u₂ : Option (List ℕ)) → Derivation t start k₁ e₁ d₁ u₁ → Derivation t start k₂ e₂ d₂ u₂
    → (k₁ ≡ k₂) × (e₁ ≡ e₂) × (d₁ ≡ d₂) × (u₁ ≡ u₂)

-- any two readings from one start are the same, the scan included: the character there opens one scan alone
abbrev pub ReadingsAreOne : Type 0
ReadingsAreOne = (t : Text) (r s : Read) → r.from ≡ s.from → Reading t r → Reading t s → r ≡ s

-- the reading is without fault, of this kind, with this end and these units or none
pub record Unfaulted (r : Read) (k : Kind) (e : ℕ) (u : Option (List ℕ)) : Type 0 where
  pub faultless : faults_read r ≡ []
  pub of_kind : kind_read r ≡ Some k
  pub ends : end_read r ≡ e
  pub valued : units_read r ≡ u

-- a reading is so exactly when the standard derives that kind from its start to that end with those units
abbrev pub AcceptsExactly : Type 0
AcceptsExactly = (t : Text) (r : Read) (k : Kind) (e : ℕ) (u : Option (List ℕ)) → Reading t r → Unfaulted r k e u ↔ Derivable t r.from k e u

-- every derivation is read, and its characters are the reading's steps
abbrev pub DerivationsAreRead : Type 0
DerivationsAreRead =
    (t : Text) (start : ℕ) (k : Kind) (e : ℕ) (d : Tree) (u : Option (List ℕ)) → Derivation t start k e d u
    → (r : Read) × Reading t r × (r.from ≡ start) × Unfaulted r k e u × (r.steps ≡ as_steps d.characters)

-- so of any reading from that start
abbrev pub CharactersAreSteps : Type 0
CharactersAreSteps =
    (t : Text) (r : Read) (k : Kind) (e : ℕ) (d : Tree) (u : Option (List ℕ)) → Reading t r → Derivation t r.from k e d u → r.steps ≡ as_steps d.characters

-- none is cooked exactly when a NotEscapeSequence stands in the derivation
abbrev pub NoneExactly : Type 0
NoneExactly = (t : Text) (start : ℕ) (k : Kind) (e : ℕ) (d : Tree) (u : Option (List ℕ)) → Derivation t start k e d u → (u ≡ None) ↔ T (any_not_escape d.characters)

-- in a template no character is a fault: what is recorded comes from where it breaks off
abbrev pub TemplatesFaultAtEnds : Type 0
TemplatesFaultAtEnds = (t : Text) (r : Read) → Reading t r → body_read r.scan ≡ template → faults_read r ≡ end_faults r.ending r.from r.to

-- the mark is seen in the characters taken: a terminated literal is marked exactly when a backslash or a CR is among them (a CR of a string stands behind a backslash)

abbrev pub any_sign : List ℕ → Bool
any_sign [] = false
any_sign (c ∷ cs) = among c (points (0x5C ∷ 0x0D ∷ [])) || any_sign cs

abbrev pub any_signs : List (Node Step) → Bool
any_signs [] = false
any_signs (n ∷ ns) = any_sign (codes n.leaves) || any_signs ns

abbrev pub MarkIsSeen : Type 0
MarkIsSeen = (t : Text) (r : Read) → Reading t r → mark_read r ≡ cond (is_some (kind_read r)) (any_signs r.steps) false

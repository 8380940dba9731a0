-- Worked examples. Assumes nothing.
use Rattle.std.specs.Prelude.{◌≡◌, ℕ, ◌+◌, List, [], ◌∷◌, Some, None, codes, Option, ◌≢◌}
use Rattle.grammar.specs.Utf8.{utf8}
use Rattle.grammar.specs.Rule.{Leaf}
use Rattle.grammar.specs.Production.{source_character, not_escape, brace_not_code_point}
use Rattle.grammar.specs.Literal.{Kind, str, no_substitution_template, Node, Tree, Derivation}
use Rattle.grammar.specs.Recovery.{bad_brace_over}
use Rattle.grammar.specs.Reading.{proper, bad, Read, Reading}
use Rattle.grammar.specs.Outcome.{fault, invalid_escape, kind_read, end_read, faults_read, units_read}

-- ASCII characters in a row, from a place
abbrev pub row : ℕ → List ℕ → List Leaf
row p [] = []
row p (c ∷ cs) = record { place = p; code = c } ∷ row (p + 1) cs

abbrev pub node : {A : Type 0} → A → ℕ → List ℕ → ℕ → Node A
node a p cs q = record { what = a; from = p; leaves = row p cs; to = q }

-- `\u{1100000}` in a template: NotCodePoint takes all seven digits, the brace is a character of its own, and none is cooked
abbrev pub SevenInATemplate : Type 0
SevenInATemplate =
    (d : Tree) × Derivation (utf8 (codes "`\\u{1100000}`")) 0 no_substitution_template 13 d None
    × (d.characters ≡ node (not_escape brace_not_code_point) 1 (codes "\\u{1100000") 11 ∷ node source_character 11 (codes "}") 12 ∷ [])

-- and in a string: recovery takes the six digits up to the one that lifts the value, and the last is ordinary text; the ends agree
abbrev pub SevenInAString : Type 0
SevenInAString =
    (r : Read) × Reading (utf8 (codes "\"\\u{1100000}\"")) r × (r.from ≡ 0) × (kind_read r ≡ Some str) × (end_read r ≡ 13)
    × (r.steps ≡ node (bad bad_brace_over) 1 (codes "\\u{110000") 10 ∷ node (proper source_character) 10 (codes "0") 11 ∷ node (proper source_character) 11 (codes "}") 12 ∷ [])
    × (faults_read r ≡ fault invalid_escape 1 10 ∷ []) × (units_read r ≡ Some (0x30 ∷ 0x7D ∷ []))

-- E0 A0 A2 is one character, U+0822. Read from inside it, the bytes A0 A2 would spell a quotation mark, and 22 another; nothing is derived or read from there
abbrev pub NothingFromInside : Type 0
NothingFromInside =
    ((k : Kind) (e : ℕ) (d : Tree) (u : Option (List ℕ)) → Derivation (utf8 (0xE0 ∷ 0xA0 ∷ 0xA2 ∷ 0x22 ∷ [])) 1 k e d u → ⊥)
    × ((r : Read) → Reading (utf8 (0xE0 ∷ 0xA0 ∷ 0xA2 ∷ 0x22 ∷ [])) r → r.from ≢ 1)

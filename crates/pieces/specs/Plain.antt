-- Plain characters from one place of a text to another, and their units. Assumes nothing.
use Rattle.std.specs.Prelude.{ℕ, ◌-◌, ◌≤◌, false, List, [], ◌∷◌, ◌++◌, take, drop, Some}
use Rattle.std.specs.Str.{chars}
use Rattle.grammar.specs.Utf8.{utf8}
use Rattle.grammar.specs.Value.{utf16}
use Rattle.grammar.specs.Literal.{Body}
use Rattle.escapes.specs.Escapes.{Part}
use Rattle.escapes.specs.Places.{At}

-- the characters that the bytes from p to q spell
abbrev pub spelt : List ℕ → ℕ → ℕ → List ℕ
spelt bs p q = chars (take (q - p) (drop p bs))

-- characters in UTF-16
abbrev pub utf16s : List ℕ → List ℕ
utf16s [] = []
utf16s (c ∷ cs) = utf16 c ++ utf16s cs

-- the characters from p to q are steps without fault or mark, and their value is their text in UTF-16
pub record Plain (body : Body) (bs : List ℕ) (p q : ℕ) : Type 0 where
  pub part : Part body (utf8 bs) p (Some (utf16s (spelt bs p q))) [] false q
  pub order : p ≤ q
  pub behind : At bs q

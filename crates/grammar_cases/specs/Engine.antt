-- Literals with what a JavaScript engine says of them, and when the standard's side says the same. Assumes nothing.
use Rattle.std.specs.Prelude.{ℕ, List, length, Some, None, Option}
use Rattle.grammar.specs.Utf8.{utf8}
use Rattle.grammar.specs.Literal.{Kind, Derivable}

-- the whole text is one literal of this value; is a part of a template with none cooked; is no literal
pub data Verdict : Type 0 where
  accepted : List ℕ → Verdict
  uncooked refused : Verdict

pub record Case : Type 0 where
  pub bytes : List ℕ
  pub verdict : Verdict

abbrev pub Says : List ℕ → Verdict → Type 0
Says bs (accepted us) = (k : Kind) × Derivable (utf8 bs) 0 k (length bs) (Some us)
Says bs uncooked = (k : Kind) × Derivable (utf8 bs) 0 k (length bs) None
Says bs refused = (k : Kind) (u : Option (List ℕ)) → Derivable (utf8 bs) 0 k (length bs) u → ⊥

abbrev pub Agrees : Case → Type 0
Agrees c = Says c.bytes c.verdict

-- The reading of a scan: the grammar's characters and, in a string, bad escapes, up to the literal's end or to where it breaks off. Assumes nothing.
use Rattle.std.specs.Prelude.{ℕ, List, [], ◌∷◌}
use Rattle.grammar.specs.Text.{Text}
use Rattle.grammar.specs.Rule.{Rule, ◌▸◌, done, absent, Leaf, Takes}
use Rattle.grammar.specs.Production.{Character, one_of}
use Rattle.grammar.specs.Literal.{Body, double, single, template, character_rule, Node, Chain}
use Rattle.grammar.specs.Recovery.{BadEscape, bad_escape, Break, string_break, template_break}

-- a string scan at either quote, a template scan, and its resumption at }
pub data Scan : Type 0 where
  double_scan single_scan template_scan resumption : Scan
  deriving Discrete as scan_discrete

abbrev pub opening_of : Scan → Rule
opening_of double_scan = one_of "\"" ▸ done
opening_of single_scan = one_of "'" ▸ done
opening_of template_scan = one_of "`" ▸ done
opening_of resumption = one_of "}" ▸ done

abbrev pub body_read : Scan → Body
body_read double_scan = double
body_read single_scan = single
body_read template_scan = template
body_read resumption = template

-- a step: a character of the grammar, or a bad escape, which a string alone has
pub data Step : Type 0 where
  proper : Character → Step
  bad : BadEscape → Step
  deriving Discrete as step_discrete

abbrev pub step_rule : Body → Step → Rule
step_rule b (proper c) = character_rule b c
step_rule double (bad e) = one_of "\\" ▸ bad_escape e
step_rule single (bad e) = one_of "\\" ▸ bad_escape e
step_rule template (bad e) = absent

-- how a scan ends: at the closing delimiter, at ${, or broken off
pub data Ending : Type 0 where
  closed substitution : Ending
  broken : Break → Ending
  deriving Discrete as ending_discrete

abbrev pub end_rule : Body → Ending → Rule
end_rule double closed = one_of "\"" ▸ done
end_rule single closed = one_of "'" ▸ done
end_rule template closed = one_of "`" ▸ done
end_rule double substitution = absent
end_rule single substitution = absent
end_rule template substitution = one_of "$" ▸ one_of "{" ▸ done
end_rule double (broken k) = string_break k
end_rule single (broken k) = string_break k
end_rule template (broken k) = template_break k

pub record Read : Type 0 where
  pub scan : Scan
  pub from : ℕ
  pub opens : List Leaf
  pub start : ℕ
  pub steps : List (Node Step)
  pub stop : ℕ
  pub ending : Ending
  pub ends : List Leaf
  pub to : ℕ

pub record Reading (t : Text) (r : Read) : Type 0 where
  pub opened : Takes t r.from (opening_of r.scan) r.opens r.start
  pub stepped : Chain (step_rule (body_read r.scan)) t r.start r.steps r.stop
  pub ended : Takes t r.stop (end_rule (body_read r.scan) r.ending) r.ends r.to

-- the characters of a derivation as steps
abbrev pub as_steps : List (Node Character) → List (Node Step)
as_steps [] = []
as_steps (n ∷ ns) = record { what = proper n.what; from = n.from; leaves = n.leaves; to = n.to } ∷ as_steps ns

-- Kinds and faults of the code as those of the grammar's readings. Assumes nothing.
use Rattle.std.specs.Prelude.{List, [], ◌∷◌, Some, None, Option}
use Rattle.grammar.specs.Literal as literal
use Rattle.grammar.specs.Outcome as outcome
use Rattle.tokens.specs.declared.Kind.{Kind}
use Rattle.tokens.specs.declared.Kind.TheVariants.{Undetermined, Str, NoSubstitutionTemplate, TemplateHead, TemplateMiddle, TemplateTail}
use Rattle.faults.specs.declared.list.FaultKind.{FaultKind}
use Rattle.faults.specs.declared.list.FaultKind.TheVariants.{Unterminated, InvalidEscape}
use Rattle.faults.specs.declared.list.Fault.{Fault}

-- the token's kind of a reading: a literal that breaks off has none
abbrev pub named : Option literal.Kind → Kind
named None = Undetermined
named (Some literal.str) = Str
named (Some literal.no_substitution_template) = NoSubstitutionTemplate
named (Some literal.template_head) = TemplateHead
named (Some literal.template_middle) = TemplateMiddle
named (Some literal.template_tail) = TemplateTail

abbrev pub fault_kind_of : outcome.FaultKind → FaultKind
fault_kind_of outcome.unterminated = Unterminated
fault_kind_of outcome.invalid_escape = InvalidEscape

abbrev pub fault_of : outcome.Fault → Fault
fault_of f = record { kind = fault_kind_of f.kind; from = f.from; to = f.to }

-- the records of a reading's faults, in order
abbrev pub recorded : List outcome.Fault → List Fault
recorded [] = []
recorded (f ∷ fs) = fault_of f ∷ recorded fs

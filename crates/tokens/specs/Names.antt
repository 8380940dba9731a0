-- The word of each kind, and what a token prints. Assumes nothing.
use Rattle.std.specs.Prelude.{ℕ, Bool, true, false, List, ◌++◌, codes}
use Rattle.std.specs.Fmt.{decimal}
use Rattle.tokens.specs.declared.Kind.{Kind}
use Rattle.tokens.specs.declared.Kind.TheVariants.{Undetermined, Str, NoSubstitutionTemplate, TemplateHead, TemplateMiddle, TemplateTail}
use Rattle.tokens.specs.declared.Token.{Token}

abbrev pub word_of : Kind → List ℕ
word_of Undetermined = codes "Undetermined"
word_of Str = codes "Str"
word_of NoSubstitutionTemplate = codes "NoSubstitutionTemplate"
word_of TemplateHead = codes "TemplateHead"
word_of TemplateMiddle = codes "TemplateMiddle"
word_of TemplateTail = codes "TemplateTail"

abbrev pub mark_of : Bool → List ℕ
mark_of true = codes "escaped"
mark_of false = codes "plain"

-- its kind, where it begins and ends, and its mark
abbrev pub token_text : Token → List ℕ
token_text t = word_of t.kind ++ codes " " ++ decimal t.start ++ codes " " ++ decimal t.end ++ codes " " ++ mark_of t.escaped

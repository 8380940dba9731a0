-- How a report tells the stops of a set. Assumes nothing.
use Rattle.std.specs.Prelude.{ℕ, List, [], ◌++◌, Some, None, Option, Ok, Err, Result, codes, decimal}
use Rattle.survey.specs.declared.survey.Stops.{Stops}
use Rattle.survey.specs.declared.survey.Survey.{Survey}
use Rattle.survey.specs.declared.report.Report.{Report}
use Rattle.refusals.specs.Numbers.{number_of}
use Rattle.refusals.specs.declared.Refusal.{Refusal}
use Rattle.refusals.specs.declared.Refusal.TheVariants.{NotUtf8}

-- the place of the first stop, where there is one
abbrev pub first_words : Option ℕ → List ℕ
first_words None = []
first_words (Some place) = codes " first " ++ decimal place

-- how many places stop, and the first
abbrev pub stops_words : Stops → List ℕ
stops_words s = decimal s.count ++ first_words s.first

-- a line of a name and what is told of it
abbrev pub line : List ℕ → List ℕ → List ℕ
line name told = name ++ codes " " ++ told ++ codes "\n"

-- the sizes, and the stops of each set
abbrev pub survey_words : Survey → List ℕ
survey_words s =
    line (codes "bytes") (decimal s.bytes) ++ line (codes "characters") (decimal s.chars) ++ line (codes "double") (stops_words s.double) ++ line (codes "single") (stops_words s.single)
    ++ line (codes "template") (stops_words s.template)

-- the number, and of bytes that are not UTF-8 the length of the longest well-formed prefix too
abbrev pub refusal_words : Refusal → List ℕ
refusal_words (NotUtf8 prefix) = decimal 2 ++ codes " prefix " ++ decimal prefix
refusal_words e = decimal (number_of e)

-- the survey, or why there is none
abbrev pub outcome_words : Result Survey Refusal → List ℕ
outcome_words (Ok s) = survey_words s
outcome_words (Err e) = line (codes "refused") (refusal_words e)

abbrev pub report_words : Report → List ℕ
report_words r = outcome_words r.0

-- What a report is printed as. Assumes nothing.
use Rattle.std.specs.Prelude.{ℕ, ◌^◌, ◌-◌, false, true, List, [], ◌∷◌, ◌++◌, length, Some, None, Ok, Err, Option, Result, vec_items, codes}
use Rattle.std.specs.Fmt.{decimal, digits, padded_integral, format_spec, with_newline, ◌++?◌}
use Rattle.std.specs.List.{flat_map}
use Rattle.refusals.specs.declared.Refusal.{Refusal}
use Rattle.refusals.specs.Numbers.{number_of}
use Rattle.tokens.specs.Names.{token_text}
use Rattle.faults.specs.Records.{fault_text}
use Rattle.reports.specs.declared.report.Told.{Told}
use Rattle.reports.specs.declared.report.Told.TheVariants as told
use Rattle.reports.specs.declared.report.Line.{Line}
use Rattle.reports.specs.declared.report.Report.{Report}

-- a space and four capital hex digits
abbrev pub unit_text : ℕ → List ℕ
unit_text u = codes " " ++ padded_integral (format_spec 32 0 4 4 (2 ^ 64 - 1)) false [] (digits 16 true u)

abbrev pub refusal_text : Refusal → List ℕ
refusal_text e = codes "refused " ++ decimal (number_of e)

-- what is told of a literal at s
abbrev pub told_text : ℕ → Result Told Refusal → List ℕ
told_text s (Ok (told.Token t)) = token_text t
told_text s (Ok (told.Value None)) = codes "value " ++ decimal s ++ codes " none"
told_text s (Ok (told.Value (Some us))) = codes "value " ++ decimal s ++ flat_map unit_text (vec_items us)
told_text s (Err e) = refusal_text e

abbrev pub line_text : Line → List ℕ
line_text l = told_text l.command.start l.told

-- items, each on a line of its own
abbrev pub listed : {A : Type 0} → (A → Option (List ℕ)) → List A → Option (List ℕ)
listed f [] = Some []
listed f (a ∷ rest) = with_newline (f a) ++? listed f rest

-- a line for each command, how many faults there are, and a line for each of them
abbrev pub report_text : Report → List ℕ
report_text r =
    flat_map (λ l. line_text l ++ codes "\n") (vec_items r.lines)
    ++ codes "faults " ++ decimal (length (vec_items r.faults)) ++ codes "\n"
    ++ flat_map (λ f. fault_text f ++ codes "\n") (vec_items r.faults)

abbrev pub answer_text : Result Report Refusal → List ℕ
answer_text (Ok r) = report_text r
answer_text (Err e) = refusal_text e ++ codes "\n"

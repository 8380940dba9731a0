-- What an input is answered with. Assumes nothing.
use Rattle.std.specs.Prelude.{◌≡◌, ℕ, ◌<◌, ◌≤◌, ◌⊎◌, List, [], map, length, vec_items, Ok, Err, Result, IsUtf8}
use Rattle.refusals.specs.declared.Refusal.{Refusal}
use Rattle.refusals.specs.Numbers.{number_of}
use Rattle.ledger.specs.Ledger.{Limits, Ledger}
use Rattle.ledger.specs.Life.{Lived}
use Rattle.commands.specs.declared.kinds.Command.{Command}
use Rattle.commands.specs.Format.{Input, NoInput}
use Rattle.reports.specs.declared.report.Line.{Line}
use Rattle.reports.specs.declared.report.Report.{Report}
use Rattle.reports.specs.Transcript.{transcript}

-- what the session of an input may hold
abbrev pub bench : Limits
bench = record { records = 64; string_slots = 64; template_slots = 64; places = 64; capacity = 4096 }

-- the report has a line for each command, and the calls that it tells of are a life on the text, with the law, from the making on
abbrev pub LivedThrough : List ℕ → List Command → Report → Type 0
LivedThrough text cs r = (map (λ (l : Line). l.command) (vec_items r.lines) ≡ cs) × ((held : Ledger) × Lived length bench text [] (transcript r) bench held)

-- an input of more than 32,768 bytes is turned down with 1; else, one that is not made of commands, an empty line and a text, with 7; else, one whose text is not UTF-8, with 2
abbrev pub TurnedDown : List ℕ → ℕ → Type 0
TurnedDown input n =
    ((n ≡ 1) × (32768 < length input))
    ⊎ (((n ≡ 7) × (length input ≤ 32768) × NoInput input)
    ⊎ ((n ≡ 2) × (length input ≤ 32768) × ((cs : List Command) × (text : List ℕ) × Input cs text input × (IsUtf8 text → ⊥))))

abbrev pub Answers : List ℕ → Result Report Refusal → Type 0
Answers input (Err e) = TurnedDown input (number_of e)
Answers input (Ok r) = (length input ≤ 32768) × ((cs : List Command) × (text : List ℕ) × Input cs text input × IsUtf8 text × LivedThrough text cs r)

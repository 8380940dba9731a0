-- The calls that a report tells of, and the law over them. Assumes nothing.
use Rattle.std.specs.Prelude.{◌≡◌, ℕ, ◌+◌, true, false, List, [], ◌∷◌, ◌++◌, map, length, Some, None, Ok, Err, Result, vec_items}
use Rattle.refusals.specs.declared.Refusal.{Refusal}
use Rattle.refusals.specs.Numbers.{number_of}
use Rattle.faults.specs.declared.list.Fault.{Fault}
use Rattle.store.specs.Held.{Held}
use Rattle.ledger.specs.Calls as ask
use Rattle.session.specs.declared.Session.{Session}
use Rattle.session.specs.Calls.{Carries}
use Rattle.commands.specs.declared.kinds.Command.{Command}
use Rattle.commands.specs.declared.kinds.Word.{Word}
use Rattle.commands.specs.declared.kinds.Word.TheVariants as word
use Rattle.reports.specs.declared.report.Told.{Told}
use Rattle.reports.specs.declared.report.Told.TheVariants as told
use Rattle.reports.specs.declared.report.Line.{Line}
use Rattle.reports.specs.declared.report.Report.{Report}

-- the call that a command asks for first
abbrev pub call_by : Word → ℕ → ask.Call
call_by word.Str s = ask.scan ask.string s
call_by word.Template s = ask.scan ask.template s
call_by word.Resume s = ask.scan ask.resumption s
call_by word.Value s = ask.value s

-- one exchange for each item, from the index i on
abbrev pub each_told : {A : Type 0} → (ℕ → A → ask.Exchange) → ℕ → List A → List ask.Exchange
each_told f i [] = []
each_told f i (a ∷ rest) = f i a ∷ each_told f (i + 1) rest

-- each item answers at its index, from the index i on
abbrev pub EachAnswers : {A : Type 0} → (ℕ → A → Type 0) → ℕ → List A → Type 0
EachAnswers P i [] = Unit {0}
EachAnswers P i (a ∷ rest) = P i a × EachAnswers P (i + 1) rest

-- the units of the value at s, each asked for and told
abbrev pub units_told : ℕ → List ℕ → List ask.Exchange
units_told s us = each_told (λ i u. ask.says (ask.unit s i) (ask.united u)) 0 us

-- what is told of a call and, if that is a value, of each of its units
abbrev pub exchanges : ask.Call → ℕ → Result Told Refusal → List ask.Exchange
exchanges c s (Ok (told.Token t)) = ask.says c (ask.token t) ∷ []
exchanges c s (Ok (told.Value None)) = ask.says c (ask.valued false 0) ∷ []
exchanges c s (Ok (told.Value (Some us))) = ask.says c (ask.valued true (length (vec_items us))) ∷ units_told s (vec_items us)
exchanges c s (Err e) = ask.says c (ask.refused (number_of e)) ∷ []

abbrev pub told_of : Command → Result Told Refusal → List ask.Exchange
told_of c t = exchanges (call_by c.word c.start) c.start t

abbrev pub lines_told : List Line → List ask.Exchange
lines_told [] = []
lines_told (l ∷ ls) = told_of l.command l.told ++ lines_told ls

-- the faults, each asked for and told
abbrev pub faults_told : List Fault → List ask.Exchange
faults_told fs = each_told (λ i f. ask.says (ask.fault_at i) (ask.faulted f)) 0 fs

-- how many faults there are, and each of them
abbrev pub all_faults_told : List Fault → List ask.Exchange
all_faults_told fs = ask.says ask.fault_count (ask.counted (length fs)) ∷ faults_told fs

-- all calls with their replies: those of each command, and then the fault questions
abbrev pub transcript : Report → List ask.Exchange
transcript r = lines_told (vec_items r.lines) ++ all_faults_told (vec_items r.faults)

-- the commands performed on a session: a line for each, and the law over all calls
pub record Played (w : List ℕ → ℕ) (text : List ℕ) (x : Session) (h : Held) (cs : List Command) (r : Report) (x' : Session) (h' : Held) : Type 0 where
  pub commands : map (λ (l : Line). l.command) (vec_items r.lines) ≡ cs
  pub lives : Carries w text x h (transcript r) x' h'

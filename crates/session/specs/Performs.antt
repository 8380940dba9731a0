-- Calls and answers as values. Assumes nothing.
use Rattle.std.specs.Prelude.{List, [], ◌∷◌, Ok, Err, Result}
use Rattle.refusals.specs.declared.Refusal.{Refusal}
use Rattle.refusals.specs.Numbers.{number_of}
use Rattle.ledger.specs.Calls as ask
use Rattle.session.specs.declared.Call.{Call}
use Rattle.session.specs.declared.Call.TheVariants as call
use Rattle.session.specs.declared.Answer.{Answer}
use Rattle.session.specs.declared.Answer.TheVariants as answer
use Rattle.session.specs.Replies.{value_by}
use Rattle.session.specs.Literals.{sort_by}

-- what a call asks
abbrev pub asked : Call → ask.Call
asked (call.Scan k s) = ask.scan (sort_by k) s
asked (call.Value s) = ask.value s
asked (call.Unit s i) = ask.unit s i
asked call.FaultCount = ask.fault_count
asked (call.FaultAt i) = ask.fault_at i

-- what an answer replies, and a refusal
abbrev pub told : Answer → ask.Reply
told (answer.Token t) = ask.token t
told (answer.Value v) = value_by v
told (answer.Unit u) = ask.united u
told (answer.Count n) = ask.counted n
told (answer.Fault f) = ask.faulted f

abbrev pub reply : Result Answer Refusal → ask.Reply
reply (Ok a) = told a
reply (Err e) = ask.refused (number_of e)

-- calls with their answers, as far as both go
abbrev pub transcript : List Call → List (Result Answer Refusal) → List ask.Exchange
transcript [] rs = []
transcript (c ∷ cs) [] = []
transcript (c ∷ cs) (r ∷ rs) = ask.says (asked c) (reply r) ∷ transcript cs rs

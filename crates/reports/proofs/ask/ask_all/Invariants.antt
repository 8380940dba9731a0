use Rattle.std.proofs.Common.{◌≡◌, length, vec_items, Ok}
use Rattle.reports.specs.Transcript.{EachAnswers}
use Rattle.reports.proofs.ask.ask_all.Given as goal

abbrev pub invariant-loop-index : goal.invariant-loop-index
invariant-loop-index g l = goal.F-IsAlwaysCallable g l.ask × (length (vec_items l.items) ≡ l.index) × EachAnswers (λ i a. goal.F-post g l.ask i (Ok a)) 0 (vec_items l.items)

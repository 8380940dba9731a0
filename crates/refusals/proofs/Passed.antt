-- A refusal that `?` passes on keeps its number. Assumes nothing.
use Rattle.std.proofs.Common.{◌≡◌, IsErrAnd, Ok, Err, Result, ap}
use Rattle.refusals.specs.declared.Refusal.{Refusal}
use Rattle.refusals.specs.Numbers.{number_of, numbered}

pub passed_on : {A : Type 0} (r : Result A Refusal) (e : Refusal) → IsErrAnd r (λ x. x ≡ e) → numbered r ≡ Err (number_of e)
passed_on (Ok x) e h = absurd h
passed_on (Err x) e h = ap (λ y. Err (number_of y)) h

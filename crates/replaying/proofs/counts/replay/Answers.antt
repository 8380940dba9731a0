use Rattle.std.proofs.Common.{rules, arith, of_calls, ℕ, ◌∙◌, length-append, Bool, List, [], ◌∷◌, ◌++◌, Bor}
use Rattle.std.proofs.lemmas.Grind.{common_steps}
use Rattle.std.proofs.lemmas.Iterator.{items_from_drains}
use Rattle.std.proofs.lemmas.Iterator.Splits.{YieldsList-from_lines}
use Rattle.replaying.proofs.CallLemmas.{FoldsTo-push}
use Rattle.replaying.proofs.counts.replay.Goals as goal

pub loop-line-preserved : goal.loop-line-preserved
loop-line-preserved g c =
    let inv = c.loop-line.invariant in
    let calls : List (Bor (List ℕ) × Bool) = inv.5.0 in
    let go = c.in-Some.ensures in (
      tt,
      tt,
      search of_calls,
      (let on = go.goes.on tt in omega (arith, on.2, length-append {A = Bor (List ℕ)})),
      grind (arith, common_steps),
      (
        calls ++ (c.in-Some.line, c.in_ok-same.same) ∷ [],
        FoldsTo-push _ _ calls _ _ _ inv.5.1 (search rules),
        grind (rules, common_steps),
        grind (rules, common_steps),
        grind (rules, common_steps),
      ),
    )

pub returns : goal.returns
returns g c =
    let inv = c.loop-line.invariant in
    let all = YieldsList-from_lines {s = c.into_iter-line-iterator.result} c.args.text.now (search rules) in
    let drained = items_from_drains _ (c.loop-line.line-iterator, c.loop-line.yielded_by, λ _. (c.next.new.self, search rules)) all in
    (inv.5.0, c.loop-line.agrees, inv.5.1, inv.5.2 ∙ drained, inv.5.3, inv.5.4)

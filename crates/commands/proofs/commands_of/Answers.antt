use Rattle.std.proofs.Common.{◌≡◌, List, [], ◌∷◌, ◌++◌, vec_items, sym, ap, ◌∙◌, subst, append_assoc, append-nil, rules}
use Rattle.std.proofs.lemmas.List.{nil_from_length}
use Rattle.std.proofs.lemmas.Bool.{eqb-true}
use Rattle.std.proofs.lemmas.Result.{MatchResult-from_err}
use Rattle.commands.specs.Format.{Input}
use Rattle.commands.specs.declared.kinds.Command.{Command}
use Rattle.commands.proofs.Unique.{no_command, no_rest, none_lacks}
use Rattle.commands.proofs.commands_of.Goals as goal

pub returns-then-is_empty : goal.returns-then-is_empty
returns-then-is_empty c =
    let none : c.in-Some.front.now ≡ [] = nil_from_length _ (eqb-true _ _ (sym c.if-is_empty.ensures)) in
    let whole : c.loop-front.rest.now ≡ 10 ∷ c.in-Some.after.now = rw none at c.in-Some.ensures.0 in
    rw append-nil at (c.loop-front.invariant.0 [] c.in-Some.after.now whole)

pub returns-in_err-c : goal.returns-in_err-c
returns-in_err-c c =
    let cut = c.in-Some.ensures in
    MatchResult-from_err _ _ _ c.from_residual.ensures.0
    (λ _ _. c.loop-front.invariant.1 (no_command _ _ _ cut.0 cut.1 c.if-is_empty.ensures (rw c.in_err-c.ensures.ok_part at c.command.ensures)))

pub loop-front-preserved : goal.loop-front-preserved
loop-front-preserved c =
    let old = vec_items c.loop-front.commands in
    let one = c.in_ok-c.c in
    let cut = c.in-Some.ensures in
    let grown : vec_items c.push.new.self ≡ old ++ one ∷ [] = search rules in
    let joined : (cs : List Command) → vec_items c.push.new.self ++ cs ≡ old ++ one ∷ cs = λ cs. ap (λ t. t ++ cs) grown ∙ append_assoc old (one ∷ []) cs in (
      λ cs text h.
          subst (λ t. Input t text c.args.input.now) (sym (joined cs))
          (c.loop-front.invariant.0 (one ∷ cs) text (c.in-Some.front.now, c.in-Some.after.now, cut.0, rw c.in_ok-c.ensures.ok_part at c.command.ensures, h)),
      λ none. c.loop-front.invariant.1 (no_rest _ _ _ cut.0 cut.1 c.if-is_empty.ensures none),
    )

pub returns : goal.returns
returns c _ = c.loop-front.invariant.1 (none_lacks c.loop-front.rest.now c.in_default.ensures)

use Rattle.std.proofs.Common.{◌≡◌, ◌+◌, ◌≤◌, ◌∷◌, [], ◌++◌, min, true, length, take, refl, sym, ap, ◌∙◌, arith}
use Rattle.refusals.specs.declared.Refusal.TheVariants.{NoCapacity}
use Rattle.store.specs.Cuts.{ordered}
use Rattle.std.proofs.lemmas.Bool.{cond-true, le-leb}
use Rattle.std.proofs.lemmas.List.{length-append, length-take, take_more}
use Rattle.cuts.specs.Lists.{used, marks, finished, opened, capacity_of, has_cell, takes}
use Rattle.cuts.proofs.Cutting.{rising_less}
use Rattle.cuts.proofs.Putting.{used_of, used_in, behind_none, kept_to, still_free, behind_one, laid_one, not_refused}
use Rattle.cuts.proofs.lists.Cuts.put_behind.Goals as goal

pub invariant_of-self : goal.invariant_of-self
invariant_of-self g c =
    let s = c.args.self.now in
    record { rising = ap (λ t. ordered 0 (marks s) (length t)) c.truncate.ensures.items ∙ rising_less (used s) (marks s) s.rising c.min-from.result (omega (arith, c.open_start.ensures, c.saturating_add.ensures, used_of s, ap length c.all.ensures)) }

pub loop-item-init : goal.loop-item-init
loop-item-init g c =
    let s = c.args.self.now in
    let f : c.min-from.result ≡ finished s + min (length (opened s)) c.args.kept = omega (arith, c.open_start.ensures, c.saturating_add.ensures, used_of s, ap length c.all.ensures) in
    (behind_none s _ c.args.kept c.min-from.result f refl c.truncate.ensures.items c.truncate.ensures.memory refl (c.truncate.ensures.lent, refl), c.truncate.ensures.memory)

pub returns-clause-answer : goal.returns-clause-answer
returns-clause-answer g c =
    let s = c.args.self.now in
    let k : takes s (take c.args.kept (opened s) ++ c.args.items.now) ≡ true =
    le-leb (finished s + length (take c.args.kept (opened s) ++ c.args.items.now)) (capacity_of s) (omega (arith, length-append (take c.args.kept (opened s)) c.args.items.now, length-take c.args.kept (opened s), used_of s, used_in s, c.open_start.ensures, c.saturating_add.ensures, ap length c.all.ensures, c.capacity.ensures)) in
    sym (cond-true _ _ _ k)

pub loop-item-preserved : goal.loop-item-preserved
loop-item-preserved g c =
    let s = c.args.self.now in
    let us = c.args.items.now in
    let i = c.loop-item.item-index in
    let x = c.item-item.result in
    let e = c.push.ensures in
    let b = c.loop-item.invariant in
    let next : take (i + 1) us ≡ take i us ++ (x ∷ []) = take_more us i x c.loop-item-test.true ∙ ap (λ z. take i us ++ (z ∷ [])) (sym c.item-item.is) in
    let fit : kept_to s c.args.kept + length us ≤ capacity_of s = omega (arith, c.open_start.ensures, c.saturating_add.ensures, used_of s, used_in s, ap length c.all.ensures, c.capacity.ensures, c.if-items-capacity.false) in
    (behind_one s c.loop-item.self c.args.kept i us b.0 c.loop-item-test.true fit c.push.new.self x next e.draft e.lists e.stays e.leaves, laid_one s c.loop-item.self c.args.kept i us b.0 c.loop-item-test.true fit c.push.new.self x next b.1 e.memory)

pub returns-in_err-push-clause-draft : goal.returns-in_err-push-clause-draft
returns-in_err-push-clause-draft g c =
    let s = c.args.self.now in
    let fit : kept_to s c.args.kept + length c.args.items.now ≤ capacity_of s = omega (arith, c.open_start.ensures, c.saturating_add.ensures, used_of s, used_in s, ap length c.all.ensures, c.capacity.ensures, c.if-items-capacity.false) in
    absurd (not_refused (has_cell c.loop-item.self) tt NoCapacity c.in_err-push.field-0.0 (still_free s c.loop-item.self c.args.kept c.loop-item.item-index c.args.items.now c.loop-item.invariant.0 c.loop-item-test.true fit) c.in_err-push.ensures.answer)

pub returns-in_err-push-clause-memory : goal.returns-in_err-push-clause-memory
returns-in_err-push-clause-memory g c =
    let s = c.args.self.now in
    let fit : kept_to s c.args.kept + length c.args.items.now ≤ capacity_of s = omega (arith, c.open_start.ensures, c.saturating_add.ensures, used_of s, used_in s, ap length c.all.ensures, c.capacity.ensures, c.if-items-capacity.false) in
    absurd (not_refused (has_cell c.loop-item.self) tt NoCapacity c.in_err-push.field-0.0 (still_free s c.loop-item.self c.args.kept c.loop-item.item-index c.args.items.now c.loop-item.invariant.0 c.loop-item-test.true fit) c.in_err-push.ensures.answer)

pub returns-in_err-push-clause-leaves : goal.returns-in_err-push-clause-leaves
returns-in_err-push-clause-leaves g c =
    let s = c.args.self.now in
    let fit : kept_to s c.args.kept + length c.args.items.now ≤ capacity_of s = omega (arith, c.open_start.ensures, c.saturating_add.ensures, used_of s, used_in s, ap length c.all.ensures, c.capacity.ensures, c.if-items-capacity.false) in
    absurd (not_refused (has_cell c.loop-item.self) tt NoCapacity c.in_err-push.field-0.0 (still_free s c.loop-item.self c.args.kept c.loop-item.item-index c.args.items.now c.loop-item.invariant.0 c.loop-item-test.true fit) c.in_err-push.ensures.answer)

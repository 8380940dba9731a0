use Rattle.std.proofs.Common.{length, ap, sym, ◌∙◌, arith}
use Rattle.std.proofs.lemmas.Bool.{cond-true, le-leb}
use Rattle.store.specs.Cuts.{laid}
use Rattle.store.proofs.Parts.{laid_front}
use Rattle.coding.specs.Codes.{units}
use Rattle.coding.proofs.Steps.{no_units}
use Rattle.coding.proofs.codes.read_units.Goals as goal

pub returns-clause-after : goal.returns-clause-after
returns-clause-after c =
    let f = le-leb (length (units c.args.bytes.now)) (length c.args.out.now) (omega (arith, c.unit_count-many.ensures, c.if-many-out.false)) in
    sym (ap (laid c.loop-tail.out c.loop-tail.at) (no_units c.loop-tail.tail.now c.in_default.len_below)) ∙ c.loop-tail.invariant.0 ∙ laid_front c.args.out.now (units c.args.bytes.now) (omega (arith, c.unit_count-many.ensures, c.if-many-out.false)) ∙ sym (cond-true _ _ _ f)

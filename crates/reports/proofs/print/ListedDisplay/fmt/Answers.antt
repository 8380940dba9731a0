use Rattle.std.proofs.Common.{◌≡◌, ◌+◌, [], ◌∷◌, ◌++◌, take, IfSome, Ok, refl, sym, ap, ◌∙◌, subst}
use Rattle.std.proofs.lemmas.List.{take_more}
use Rattle.std.specs.Fmt.{HasWritten, with_newline}
use Rattle.reports.specs.Printed.{listed}
use Rattle.reports.proofs.Printing.{listed_more, written_more}
use Rattle.reports.proofs.print.ListedDisplay.fmt.Goals as goal

pub loop-item-preserved : goal.loop-item-preserved
loop-item-preserved g c plain =
    let took = g.W.Write.write_str_gives in
    let text = g.T.Display.output in
    let xs = c.args.self.now.0.now in
    let i = c.loop-item.item-index in
    let a = c.item-item.result in
    let grown : take (i + 1) xs ≡ take i xs ++ a ∷ [] = take_more xs i a c.loop-item-test.true ∙ ap (λ z. take i xs ++ z ∷ []) (sym c.item-item.is) in
    subst (λ o. IfSome o (λ bs. HasWritten took c.args.f.now bs c.writeln.new.self)) (sym (ap (listed text) grown ∙ listed_more text (take i xs) a))
    (written_more took c.args.f.now c.loop-item.f c.writeln.new.self (Ok c.in_ok-writeln.field-0) (listed text (take i xs)) (with_newline (text a)) c.loop-item.invariant c.in_ok-writeln.ensures.writes refl plain)

use Rattle.std.proofs.Common.{inl, Ok, refl, subst}
use Rattle.look.specs.Looked.{Answered}
use Rattle.nethrawf.proofs.see.Goals as goal

pub returns : goal.returns
returns c =
    let text = c.in_ok-text.ensures in
    let answered = subst (λ z. Answered c.in_ok-text.text.bytes.now c.args.start c.in_ok-scan.scan z) c.in_ok-found.was c.look.ensures in
    inl (refl, text.0, (c.in_ok-scan.scan, c.in_ok-found.found, c.in_ok-scan.ensures, c.from.ensures, subst (λ z. Answered z c.args.start c.in_ok-scan.scan (Ok c.in_ok-found.found)) text.1 answered))

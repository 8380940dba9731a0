use Rattle.std.proofs.Common.{length, sym, ap, ◌∙◌, subst}
use Rattle.std.specs.Fmt.{DisplaysOnOk}
use Rattle.reports.proofs.Printing.{reported_text}
use Rattle.reports.proofs.print.ReportDisplay.fmt.Goals as goal

pub returns-clause-writes : goal.returns-clause-writes
returns-clause-writes g c =
    subst (λ z. DisplaysOnOk g.W.Write.write_str_gives c.args.f.now c.write.result z c.write.new.self)
    (reported_text c.args.self.now c.as_slice.result.now c.len-count.result c.as_slice-2.result.now c.as_slice.ensures.value (c.len-count.ensures ∙ sym c.as_slice-2.ensures.len ∙ ap length c.as_slice-2.ensures.value) c.as_slice-2.ensures.value) c.write.ensures.writes

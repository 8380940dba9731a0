use Rattle.std.proofs.Common.{vec_items, arith}
use Rattle.reports.proofs.Answering.{no_text, turned_down}
use Rattle.reports.proofs.answer.report_of.Goals as goal

pub returns-in_err-text : goal.returns-in_err-text
returns-in_err-text c =
    turned_down _ c.args.input.now _ c.from_residual-in_err-text.ensures.1
    (no_text (vec_items c.in_ok-commands.commands) c.in_ok-commands.bytes.now c.args.input.now _ (omega arith) c.in_ok-commands.ensures c.in_err-text.ensures)

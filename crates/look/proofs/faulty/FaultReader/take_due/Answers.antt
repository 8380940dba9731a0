use Rattle.std.proofs.Common.{arith}
use Rattle.look.proofs.TellsFaults.{due_told}
use Rattle.look.proofs.faulty.FaultReader.take_due.Goals as goal

pub returns-clause-told : goal.returns-clause-told
returns-clause-told c fs x = due_told c.args.self.now c.in_ok-due.due c.in_ok-count.count fs c.in_ok-due.was (omega (arith, c.in_ok-count.ensures.0, c.in_ok-count.ensures.1)) x

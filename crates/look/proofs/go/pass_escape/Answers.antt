use Rattle.std.proofs.Common.{true, subst}
use Rattle.escapes.specs.Escapes.{is_template, units_told, faults_told, reached}
use Rattle.pieces.specs.Pieces.{GoesOn}
use Rattle.look.proofs.Going.{invalid_passed}
use Rattle.look.proofs.go.pass_escape.Goals as goal

pub returns-in-Err : goal.returns-in-Err
returns-in-Err c b bs p e g =
    invalid_passed b bs p c.in-Err.invalid (is_template b) c.args.in_template e (subst (λ z. GoesOn b bs p (units_told (is_template b) z) (faults_told (is_template b) p z) true (reached z)) c.in-Err.is g)

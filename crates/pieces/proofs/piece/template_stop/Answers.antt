use Rattle.std.proofs.Common.{rules}
use Rattle.pieces.proofs.Stops.{template_closed}
use Rattle.pieces.proofs.piece.template_stop.Goals as goal

pub returns-in_default : goal.returns-in_default
returns-in_default c =
    template_closed c.args.cursor.bytes.now c.args.at c.args.byte c.requires.0 c.requires.1.0 c.requires.1.1 (λ e. search rules) (λ e. search rules)

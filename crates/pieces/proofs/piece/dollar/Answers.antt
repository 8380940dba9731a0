use Rattle.std.proofs.Common.{◌≡◌, ◌+◌, ◌<◌, length, get_or, rules}
use Rattle.pieces.proofs.Stops.{substitution, lone_dollar}
use Rattle.pieces.proofs.piece.dollar.Goals as goal
use Rattle.pieces.proofs.piece.dollar.Goals.{in_default-via-in-Some+in_default, in_default-via-in_default}

pub returns-in-Some-eq123 : goal.returns-in-Some-eq123
returns-in-Some-eq123 c =
    let bs = c.bytes.result.now in
    let p = c.args.at in
    let f : (p + 1 < length bs) × (get_or bs (p + 1) 0 ≡ 123) = search rules in
    substitution c.args.cursor.bytes.now p c.requires (rw c.bytes.ensures at f)

pub returns-in_default : goal.returns-in_default
returns-in_default c =
    let bs = c.bytes.result.now in
    let p = c.args.at in
    let f : p + 1 < length bs → get_or bs (p + 1) 0 ≡ 123 → ⊥ = elim c.in_default.branch [
      | in_default-via-in-Some+in_default w ↦ λ l e. let h = c.get.ensures.lookup in search rules
      | in_default-via-in_default w ↦ λ l e. search rules
    ] in
    lone_dollar c.args.cursor.bytes.now p c.requires (rw c.bytes.ensures at f)

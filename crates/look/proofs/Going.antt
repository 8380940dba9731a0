-- How a literal goes on at an invalid escape. Assumes nothing.
use Rattle.std.proofs.Common.{◌≡◌, ℕ, Bool, true, false, not, List, Err, refl, subst}
use Rattle.grammar.specs.Literal.{Body}
use Rattle.escapes.specs.Escapes.{units_told, faults_told}
use Rattle.escapes.specs.declared.unicode.Invalid.{Invalid}
use Rattle.pieces.specs.Pieces.{GoesOn}
use Rattle.look.specs.Goes.{PassedRead}

pub invalid_passed : (b : Body) (bs : List ℕ) (p : ℕ) (i : Invalid) (x m : Bool) → x ≡ m → GoesOn b bs p (units_told x (Err i)) (faults_told x p (Err i)) true i.next → PassedRead b bs p (record { faulty = not m; cooked = not m; marked = true; next = i.next })
invalid_passed b bs p i x true e g = record { units = _; on = subst (λ z. GoesOn b bs p (units_told z (Err i)) (faults_told z p (Err i)) true i.next) e g; cooked = refl }
invalid_passed b bs p i x false e g = record { units = _; on = subst (λ z. GoesOn b bs p (units_told z (Err i)) (faults_told z p (Err i)) true i.next) e g; cooked = refl }

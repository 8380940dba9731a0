use Rattle.std.proofs.Common.{◌≡◌, None, length}
use Rattle.coding.specs.Read.{left}
use Rattle.coding.proofs.codes.Utf16Iterator.next.Given as goal

-- the bytes passed go on with a character
abbrev pub invariant-loop-self : goal.invariant-loop-self
invariant-loop-self l = (l.self.second ≡ None) × (left l.self ≡ left l.fn.self)

abbrev pub decreases-loop-self : goal.decreases-loop-self
decreases-loop-self l = length l.self.rest.now

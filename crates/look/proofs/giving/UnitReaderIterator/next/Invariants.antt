use Rattle.std.proofs.Common.{◌≡◌, ℕ, ◌≤◌, List, []}
use Rattle.escapes.specs.Escapes.{listed}
use Rattle.look.specs.Units.{Same, Gave, unread, togo}
use Rattle.look.proofs.giving.UnitReaderIterator.next.Given as goal

abbrev pub invariant-reads : goal.invariant-reads
invariant-reads l = (listed l.self.pending ≡ []) × Same l.self l.initial.self × (togo l.self ≤ togo l.initial.self) × ((start : ℕ) (us : List ℕ) → Gave l.initial.self start us → Gave l.self start us)

abbrev pub decreases-reads : goal.decreases-reads
decreases-reads l = unread l.self

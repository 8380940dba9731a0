use Rattle.std.proofs.Common.{◌≡◌, ℕ, ◌+◌, ◌-◌, ◌≤◌, length}
use Rattle.look.specs.Runs.{Upto}
use Rattle.look.proofs.run.run_through.Given as goal

abbrev pub invariant-pieces : goal.invariant-pieces
invariant-pieces l =
    (l.cursor.bytes.now ≡ l.initial.cursor.bytes.now) × (l.tally.faults ≤ l.cursor.place.at)
    × ((start : ℕ) → l.initial.cursor.place.at ≡ start + 1 → Upto l.initial.cursor.bytes.now start l.opening l.cursor.place.at l.tally)

abbrev pub decreases-pieces : goal.decreases-pieces
decreases-pieces l = length l.initial.cursor.bytes.now - l.cursor.place.at

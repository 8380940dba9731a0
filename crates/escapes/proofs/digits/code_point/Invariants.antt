use Rattle.std.proofs.Common.{ℕ, ◌<◌, ◌≤◌}
use Rattle.escapes.proofs.Numerals.{Took}
use Rattle.escapes.proofs.digits.code_point.Given as goal

abbrev pub invariant-loop-digit : goal.invariant-loop-digit
invariant-loop-digit l = (n : ℕ) × Took l.site.bytes.now l.site.at l.digits l.value n × (0 < n) × (l.value ≤ 1114111)

use Rattle.escapes.proofs.Numerals.{Took}
use Rattle.escapes.proofs.digits.hex_digits.Given as goal

abbrev pub invariant-loop : goal.invariant-loop
invariant-loop l = Took l.site.bytes.now l.site.at l.digits l.value l.counter

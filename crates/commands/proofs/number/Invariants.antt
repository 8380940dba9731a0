use Rattle.std.proofs.Common.{◌≡◌, ◌^◌, ◌<◌, take}
use Rattle.std.specs.List.{AllByRecursion}
use Rattle.commands.specs.Format.{Digit, decimal}
use Rattle.commands.proofs.number.Given as goal

abbrev pub invariant-loop-b : goal.invariant-loop-b
invariant-loop-b l = (l.n ≡ decimal (take l.b-index l.digits)) × AllByRecursion Digit (take l.b-index l.digits) × (l.n < 10 ^ l.b-index)

use Rattle.std.proofs.Common.{[]}
use Rattle.reports.proofs.Asking.{units_carry}
use Rattle.reports.proofs.ask.ask_value.Goals as goal

pub ask_units-requires : goal.ask_units-requires
ask_units-requires g c = ((rw c.in-Ok-Some.field-0-is at c.in-Ok-Some.ensures).called []).step.0

pub returns-in_ok-units-in-Ok-Some : goal.returns-in_ok-units-in-Ok-Some
returns-in_ok-units-in-Ok-Some g c =
    let got = c.in_ok-units-in-Ok-Some.ensures in
    units_carry _ _ _ _ _ _ (rw c.in-Ok-Some.field-0-is at c.in-Ok-Some.ensures) got.0 got.1

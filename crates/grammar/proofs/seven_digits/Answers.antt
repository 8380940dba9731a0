use Rattle.grammar.proofs.seven_digits.Goals as goal
use Rattle.grammar.proofs.Worked.{seven_in_a_template, seven_in_a_string}

pub returns : goal.returns
returns c = record { template = seven_in_a_template; string = seven_in_a_string }

-- What stops an input that is not made of commands. Assumes nothing.
use Rattle.refusals.specs.declared.Refusal.TheVariants.{MalformedCommand}
use Rattle.refusals.specs.declared.failure.Failure.{Failure}
use Rattle.refusals.specs.declared.failure.Failure.TheVariants.{Refused, NoMemory}
use Rattle.commands.specs.declared.kinds.NoCommands.{NoCommands}
use Rattle.commands.specs.declared.kinds.NoCommands.TheVariants as none

-- an input that is not made of commands is turned down as malformed
abbrev pub stopped : NoCommands → Failure
stopped none.Malformed = Refused MalformedCommand
stopped (none.NoMemory e) = NoMemory e

use Rattle.std.proofs.Common.{ℕ, List, ◌++◌, length, vec_items}
use Rattle.commands.specs.declared.kinds.Command.{Command}
use Rattle.commands.specs.Format.{Input, NoInput}
use Rattle.commands.proofs.commands_of.Given as goal

-- an input of the rest makes one of the whole, and where the rest is none, nor is the whole
abbrev pub invariant-loop-front : goal.invariant-loop-front
invariant-loop-front l = ((cs : List Command) (text : List ℕ) → Input cs text l.rest → Input (vec_items l.commands ++ cs) text l.input) × (NoInput l.rest → NoInput l.input)

abbrev pub decreases-loop-front : goal.decreases-loop-front
decreases-loop-front l = length l.rest

use Rattle.std.proofs.Common.{◌≡◌, ℕ, List, [], ◌∷◌, ◌++◌, ◌≢◌, take}
use Rattle.std.specs.List.{AllByRecursion}
use Rattle.commands.specs.declared.kinds.Word.TheVariants.{Str, Template, Resume, Value}
use Rattle.commands.specs.Format.{spelled}
use Rattle.commands.proofs.word.Given as goal

abbrev pub invariant-loop-word : goal.invariant-loop-word
invariant-loop-word l = (l.word-items ≡ Str ∷ Template ∷ Resume ∷ Value ∷ []) × AllByRecursion (λ w. (ds : List ℕ) → l.line ≢ spelled w ++ ds) (take l.word-index l.word-items)

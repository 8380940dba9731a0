-- A text as the grammar sees it: at each place the end, or the character there and the place behind it. Assumes nothing.
use Rattle.std.specs.Prelude.{ℕ}

pub data Spot : Type 0 where
  over : Spot
  char : ℕ → ℕ → Spot

abbrev pub Text : Type 0
Text = ℕ → Spot

-- What a store's calls leave of the memory and the places lent to it. Assumes nothing.
use Rattle.std.specs.Prelude.{◌≡◌, ℕ, Bool, false, List, take, drop}

-- cells and places, lent and as they are now; the finished values end at a cell
pub record PutLeaves {T : Type 0} (stored : Bool) (finished : ℕ) (cells cells' : List T) (places places' : List ℕ) : Type 0 where
  pub same_places : places' ≡ places
  pub refused : stored ≡ false → cells' ≡ cells
  pub same_values : take finished cells' ≡ take finished cells
  pub past : drop 1048576 cells' ≡ drop 1048576 cells

pub record CloseLeaves {T : Type 0} (stored : Bool) (count : ℕ) (cells cells' : List T) (places places' : List ℕ) : Type 0 where
  pub same_cells : cells' ≡ cells
  pub refused : stored ≡ false → places' ≡ places
  pub same_values : take count places' ≡ take count places
  pub past : drop 4096 places' ≡ drop 4096 places

pub record LeavesAll {T : Type 0} (cells cells' : List T) (places places' : List ℕ) : Type 0 where
  pub same_cells : cells' ≡ cells
  pub same_places : places' ≡ places

-- A store of WTF-8: its lent cells and places, the bytes of its values, and what it holds. Assumes nothing.
use Rattle.std.specs.Prelude.{◌≡◌, ℕ, ◌+◌, ◌<◌, ◌≤◌, List, [], length, slice_index_or}
use Rattle.store.specs.Held.{Held}
use Rattle.store.specs.Cuts.{part, laid}
use Rattle.coding.specs.Codes.{wtf8, units, trail, from_of, code_of}
use lib.Utf8.{encode}
use Rattle.cuts.specs.Lists as cuts
use Rattle.wtf8.specs.declared.Wtf8.{Wtf8}
use Rattle.wtf8.specs.Meaning.{held_of}

abbrev pub cells : Wtf8 → List ℕ
cells s = cuts.memory s.cuts

abbrev pub ends : Wtf8 → List ℕ
ends s = cuts.table s.cuts

-- how many places and bytes are in use
abbrev pub count : Wtf8 → ℕ
count s = s.cuts.ends.used

abbrev pub used : Wtf8 → ℕ
used s = s.cuts.cells.used

abbrev pub finished : Wtf8 → ℕ
finished s = cuts.finished s.cuts

-- the bytes of the open value, and of all one after another
abbrev pub opened : Wtf8 → List ℕ
opened s = cuts.opened s.cuts

abbrev pub all_bytes : Wtf8 → List ℕ
all_bytes s = cuts.used s.cuts

abbrev pub meaning : Wtf8 → Held
meaning s = held_of s.cuts

-- the cells with the bytes of the character that a unit completes: over a high half, or else behind all bytes
abbrev pub laid_with : Wtf8 → ℕ → List ℕ
laid_with s u = laid (cells s) (from_of (trail (units (opened s))) (used s) u) (encode (code_of (trail (units (opened s))) u))

-- len bytes from a place on are the WTF-8 of value n
pub record IsPlace (s : Wtf8) (n from len : ℕ) : Type 0 where
  pub there : n < length (meaning s).values
  pub inside : from + len ≤ length (all_bytes s)
  pub bytes : part (all_bytes s) from (from + len) ≡ wtf8 (slice_index_or (meaning s).values n [])

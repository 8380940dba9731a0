-- What a store of units holds by the lent cells and places themselves, and what its acts make of them. Assumes nothing.
use Rattle.std.proofs.Common.{◌≡◌, ℕ, ◌+◌, ◌-◌, ◌<◌, ◌≤◌, min, true, false, List, [], ◌∷◌, length, get_or, take, set, sym, ap, ◌∙◌, arith}
use Rattle.std.proofs.lemmas.List.{length-set, length-append, take_more_set, take-take}
use Rattle.std.proofs.lemmas.Bool.{le-leb, lt-leb}
use Rattle.store.specs.Held.{Held, load, fits, with_unit, dropped, closed, has_place}
use Rattle.store.specs.Cuts.{part, cut, final, ordered, narrow}
use Rattle.store.specs.Leaves.{PutLeaves, CloseLeaves}
use Rattle.store.proofs.Parts.{ordered_up, ordered_final}
use Rattle.store.proofs.Narrows.{narrow_more, narrow_less}
use Rattle.cuts.proofs.Cells as in_cells
use Rattle.units.specs.declared.Units.{Units}
use Rattle.units.specs.Law as law
use Rattle.units.specs.Views.{cells, ends, count, used, finished, meaning}

-- what is held in cells and a table of ends, as many of each in use
abbrev pub held_in : List ℕ → List ℕ → ℕ → ℕ → Held
held_in m es count used = record {
  values = cut m 0 (take count es);
  draft = part m (final 0 (take count es)) used;
  places = min (length es) 4096;
  capacity = min (length m) 1048576;
}

-- what is known of a store of these parts
abbrev pub Kept : List ℕ → List ℕ → ℕ → ℕ → Type 0
Kept m es count used = (count ≤ min (length es) 4096) × ((used ≤ min (length m) 1048576) × ((ordered 0 (take count es) used ≡ true) × ((narrow (take used m) ≡ true) × Unit {0})))

module _ (s : Units) where
  pub held_is : meaning s ≡ held_in (cells s) (ends s) (count s) (used s)
  held_is = λ j. record { values = in_cells.lists_are s.cuts j; draft = in_cells.open_is s.cuts j; places = min (length (ends s)) 4096; capacity = min (length (cells s)) 1048576 }

  pub kept : Kept (cells s) (ends s) (count s) (used s)
  kept = (s.cuts.ends.fits, (s.cuts.cells.fits, (in_cells.rising_is s.cuts, (s.small, tt))))

  pub last_in : finished s ≤ used s
  last_in = in_cells.last_in s.cuts

  pub number_is : length (meaning s).values ≡ count s
  number_is = in_cells.number_is s.cuts

  pub draft_length : length (meaning s).draft ≡ used s - finished s
  draft_length = in_cells.draft_length s.cuts

  pub load_is : load length (meaning s) ≡ used s
  load_is = law.load_is s.cuts ∙ in_cells.used_is s.cuts

  -- one unit more: `set (cells s) (used s) u` is what the clause `cells` of `put` says of the cells
  pub load_more : (u : ℕ) → load length (with_unit (meaning s) u) ≡ used s + 1
  load_more u = let a = load_is in let b = length-append (meaning s).draft (u ∷ []) in omega arith

  pub full : (u : ℕ) → min (length (cells s)) 1048576 ≤ used s → fits length (meaning s) u ≡ false
  full u past = lt-leb (load length (with_unit (meaning s) u)) (min (length (cells s)) 1048576) (let e = load_more u in omega arith)

  module _ (u : ℕ) (room : used s < min (length (cells s)) 1048576) where
    pub free : fits length (meaning s) u ≡ true
    free = le-leb (load length (with_unit (meaning s) u)) (min (length (cells s)) 1048576) (let e = load_more u in omega arith)

    pub put_is : held_in (set (cells s) (used s) u) (ends s) (count s) (used s + 1) ≡ with_unit (meaning s) u
    put_is = λ j. record {
      values = in_cells.put_lists s.cuts u room j;
      draft = in_cells.put_open s.cuts u room j;
      places = min (length (ends s)) 4096;
      capacity = min (length-set (cells s) (used s) u j) 1048576;
    }

    pub put_kept : u < 65536 → Kept (set (cells s) (used s) u) (ends s) (count s) (used s + 1)
    put_kept b =
        let e = length-set (cells s) (used s) u in
        (kept.0, (omega arith, (ordered_up 0 (take (count s) (ends s)) (used s) (used s + 1) (omega arith) (in_cells.rising_is s.cuts), (narrow_more (take (used s) (cells s)) _ u true b s.small (take_more_set (cells s) (used s) u (omega arith)), tt))))

    pub put_leaves : PutLeaves (fits length (meaning s) u) (finished s) (cells s) (set (cells s) (used s) u) (ends s) (ends s)
    put_leaves = in_cells.put_leaves s.cuts u room (fits length (meaning s) u) free

  -- one value more: `set (ends s) (count s) (used s)` is what the clause `ends` of `close` says of the places
  pub no_place : min (length (ends s)) 4096 ≤ count s → has_place (meaning s) ≡ false
  no_place past = in_cells.no_place s.cuts past

  module _ (room : count s < min (length (ends s)) 4096) where
    pub a_place : has_place (meaning s) ≡ true
    a_place = in_cells.a_place s.cuts room

    pub close_is : held_in (cells s) (set (ends s) (count s) (used s)) (count s + 1) (used s) ≡ closed (meaning s)
    close_is = λ j. record {
      values = in_cells.close_lists s.cuts room j;
      draft = in_cells.close_open s.cuts room j;
      places = min (length-set (ends s) (count s) (used s) j) 4096;
      capacity = min (length (cells s)) 1048576;
    }

    pub close_kept : Kept (cells s) (set (ends s) (count s) (used s)) (count s + 1) (used s)
    close_kept =
        let e = length-set (ends s) (count s) (used s) in
        (omega arith, (s.cuts.cells.fits, (in_cells.close_rising s.cuts room, (s.small, tt))))

    pub close_leaves : CloseLeaves (has_place (meaning s)) (count s) (cells s) (cells s) (ends s) (set (ends s) (count s) (used s))
    close_leaves = in_cells.close_leaves s.cuts room

  -- the open value dropped
  module _ (v : ℕ) (e : v ≡ finished s) where
    pub drop_is : held_in (cells s) (ends s) (count s) v ≡ dropped (meaning s)
    drop_is = λ j. record {
      values = sym (in_cells.lists_are s.cuts) j;
      draft = in_cells.drop_open s.cuts v e j;
      places = min (length (ends s)) 4096;
      capacity = min (length (cells s)) 1048576;
    }

    pub drop_kept : Kept (cells s) (ends s) (count s) v
    drop_kept =
        let l = last_in in
        let f = s.cuts.cells.fits in
        let cut_short : take v (take (used s) (cells s)) ≡ take v (cells s) = take-take v (used s) (cells s) (omega arith) in
        (s.cuts.ends.fits, (omega arith, (ap (ordered 0 (take (count s) (ends s))) e ∙ ordered_final 0 (take (count s) (ends s)) (used s) (in_cells.rising_is s.cuts), (sym (ap narrow cut_short) ∙ narrow_less v (take (used s) (cells s)) s.small, tt))))

  -- value n
  pub past : (n : ℕ) → count s ≤ n → length (meaning s).values ≤ n
  past n ge = in_cells.past s.cuts n ge

  module _ (n : ℕ) (lt : n < count s) where
    pub within : n < length (meaning s).values
    within = in_cells.within s.cuts n lt

    pub value_at : get_or (meaning s).values n [] ≡ part (cells s) (final 0 (take n (ends s))) (get_or (ends s) n 0)
    value_at = in_cells.value_at s.cuts n lt

    pub value_in : (final 0 (take n (ends s)) ≤ get_or (ends s) n 0) × (get_or (ends s) n 0 ≤ used s)
    value_in = in_cells.value_in s.cuts n lt

    pub value_length : get_or (ends s) n 0 - final 0 (take n (ends s)) ≡ length (get_or (meaning s).values n [])
    value_length = in_cells.value_length s.cuts n lt

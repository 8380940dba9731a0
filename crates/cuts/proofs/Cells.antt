-- The lent cells and places themselves: the lists that stand in them, and what writes into them do to those. Assumes nothing.
use Rattle.std.proofs.Common.{◌≡◌, ℕ, ◌+◌, ◌-◌, ◌<◌, ◌≤◌, Bool, true, false, List, [], ◌∷◌, ◌++◌, length, get_or, take, drop, set, refl, sym, ap, ◌∙◌, take-append-drop, arith}
use Rattle.std.proofs.lemmas.List.{length-take, length-drop, length-set, take_more_set, take-set-le, drop-set-lt, drop-take, drop-append-le, take-take, get_or-take}
use Rattle.std.proofs.lemmas.Bool.{lt-ltb, le-ltb, true≢false}
use Rattle.store.specs.Cuts.{part, cut, final, ordered}
use Rattle.store.specs.Leaves.{PutLeaves, CloseLeaves}
use Rattle.store.proofs.Parts.{cut_length, final_snoc, cut_snoc, ordered_snoc}
use Rattle.cuts.proofs.Cutting.{cut_more, list_in, list_at}
use Rattle.cuts.proofs.Putting.{used_of}
use Rattle.cuts.specs.declared.lists.Cuts.{Cuts}
use Rattle.cuts.specs.Lists.{memory, table, used, marks, finished, lists, opened, capacity_of, places_of, has_place}

module _ {T : Type 0} where
  -- of all cells, lists that end within the first of them need those alone
  pub cut_cells : (m : List T) (es : List ℕ) (u : ℕ) → u ≤ length m → ordered 0 es u ≡ true → cut m 0 es ≡ cut (take u m) 0 es
  cut_cells m es u le h =
      let l : u ≡ length (take u m) = let e = length-take u m in omega arith in
      ap (λ t. cut t 0 es) (sym (take-append-drop u m)) ∙ cut_more (take u m) (drop u m) 0 es (sym (ap (ordered 0 es) l) ∙ h)

  pub part_cells : (m : List T) (a u : ℕ) → a ≤ u → part m a u ≡ drop a (take u m)
  part_cells m a u le = let e : a + (u - a) ≡ u = omega arith in sym (drop-take a (u - a) m) ∙ ap (λ n. drop a (take n m)) e

  -- so they are the same in other cells that begin alike
  pub same_lists : (m m' : List T) (es : List ℕ) (u : ℕ) → u ≤ length m → u ≤ length m' → ordered 0 es u ≡ true → take u m' ≡ take u m → cut m' 0 es ≡ cut m 0 es
  same_lists m m' es u l l' h e = cut_cells m' es u l' h ∙ ap (λ t. cut t 0 es) e ∙ sym (cut_cells m es u l h)

  -- and where cells in use are followed by others, an open list is followed by them
  pub open_with : (m m' xs : List T) (a u u' : ℕ) → a ≤ u → u ≤ u' → u ≤ length m → take u' m' ≡ take u m ++ xs → part m' a u' ≡ part m a u ++ xs
  open_with m m' xs a u u' h k le e =
      part_cells m' a u' (omega arith)
      ∙ ap (drop a) e
      ∙ drop-append-le a (take u m) xs (let l = length-take u m in omega arith)
      ∙ ap (λ t. t ++ xs) (sym (part_cells m a u h))

  -- of the cells in use they are those of all
  pub part_take : (m : List T) (a b u : ℕ) → a ≤ b → b ≤ u → part (take u m) a b ≡ part m a b
  part_take m a b u h k = part_cells (take u m) a b h ∙ ap (drop a) (take-take b u m k) ∙ sym (part_cells m a b h)

  pub part_none : (m : List T) (a : ℕ) → part m a a ≡ []
  part_none m a = let e : a - a ≡ 0 = omega arith in ap (λ k. take k (drop a m)) e

  module _ (c : Cuts T) where
    pub used_is : length (used c) ≡ c.cells.used
    used_is = let l = length-take c.cells.used (memory c) in let f = c.cells.fits in omega arith

    marks_is : length (marks c) ≡ c.ends.used
    marks_is = let l = length-take c.ends.used (table c) in let f = c.ends.fits in omega arith

    pub number_is : length (lists c) ≡ c.ends.used
    number_is = cut_length (used c) 0 (marks c) ∙ marks_is

    pub rising_is : ordered 0 (take c.ends.used (table c)) c.cells.used ≡ true
    rising_is = sym (ap (ordered 0 (marks c)) used_is) ∙ c.rising

    pub last_in : finished c ≤ c.cells.used
    last_in = let a = used_of c in let b = used_is in omega arith

    pub draft_length : length (opened c) ≡ c.cells.used - finished c
    draft_length = let a = used_of c in let b = used_is in omega arith

    -- the lists by all the cells and places that are lent, and not by those in use alone
    pub lists_are : lists c ≡ cut (memory c) 0 (take c.ends.used (table c))
    lists_are = sym (cut_cells (memory c) (marks c) c.cells.used (let f = c.cells.fits in omega arith) rising_is)

    pub open_is : opened c ≡ part (memory c) (finished c) c.cells.used
    open_is = sym (part_cells (memory c) (finished c) c.cells.used last_in)

    -- one cell more
    module _ (x : T) (room : c.cells.used < capacity_of c) where
      pub put_lists : cut (set (memory c) c.cells.used x) 0 (take c.ends.used (table c)) ≡ lists c
      put_lists =
          same_lists (memory c) (set (memory c) c.cells.used x) (marks c) c.cells.used (omega arith) (let e = length-set (memory c) c.cells.used x in omega arith) rising_is (take-set-le c.cells.used (memory c) c.cells.used x (omega arith))
          ∙ sym lists_are

      pub put_open : part (set (memory c) c.cells.used x) (finished c) (c.cells.used + 1) ≡ opened c ++ (x ∷ [])
      put_open =
          open_with (memory c) (set (memory c) c.cells.used x) (x ∷ []) (finished c) c.cells.used (c.cells.used + 1) last_in (omega arith) (omega arith) (take_more_set (memory c) c.cells.used x (omega arith))
          ∙ ap (λ t. t ++ (x ∷ [])) (sym open_is)

      pub put_leaves : (b : Bool) → b ≡ true → PutLeaves b (finished c) (memory c) (set (memory c) c.cells.used x) (table c) (table c)
      put_leaves b k = record {
        same_places = refl;
        refused = λ e. absurd (true≢false (sym k ∙ e));
        same_values = take-set-le (finished c) (memory c) c.cells.used x last_in;
        past = drop-set-lt 1048576 (memory c) c.cells.used x (omega arith);
      }

    -- one list more, up to the last cell in use
    pub no_place : places_of c ≤ c.ends.used → has_place c ≡ false
    no_place le = le-ltb (length (lists c)) (places_of c) (let e = number_is in omega arith)

    module _ (room : c.ends.used < places_of c) where
      pub a_place : has_place c ≡ true
      a_place = lt-ltb (length (lists c)) (places_of c) (let e = number_is in omega arith)

      marks_more : take (c.ends.used + 1) (set (table c) c.ends.used c.cells.used) ≡ marks c ++ (c.cells.used ∷ [])
      marks_more = take_more_set (table c) c.ends.used c.cells.used (omega arith)

      pub close_lists : cut (memory c) 0 (take (c.ends.used + 1) (set (table c) c.ends.used c.cells.used)) ≡ lists c ++ (opened c ∷ [])
      close_lists = ap (cut (memory c) 0) marks_more ∙ cut_snoc (memory c) 0 (marks c) c.cells.used ∙ (λ j. sym lists_are j ++ (sym open_is j ∷ []))

      pub close_open : part (memory c) (final 0 (take (c.ends.used + 1) (set (table c) c.ends.used c.cells.used))) c.cells.used ≡ []
      close_open = ap (λ a. part (memory c) a c.cells.used) (ap (final 0) marks_more ∙ final_snoc 0 (marks c) c.cells.used) ∙ part_none (memory c) c.cells.used

      pub close_rising : ordered 0 (take (c.ends.used + 1) (set (table c) c.ends.used c.cells.used)) c.cells.used ≡ true
      close_rising = ap (λ es. ordered 0 es c.cells.used) marks_more ∙ ordered_snoc 0 (marks c) c.cells.used rising_is

      pub close_leaves : CloseLeaves (has_place c) c.ends.used (memory c) (memory c) (table c) (set (table c) c.ends.used c.cells.used)
      close_leaves = record {
        same_cells = refl;
        refused = λ e. absurd (true≢false (sym a_place ∙ e));
        same_values = take-set-le c.ends.used (table c) c.ends.used c.cells.used (omega arith);
        past = drop-set-lt 4096 (table c) c.ends.used c.cells.used (omega arith);
      }

    -- the open list dropped
    pub drop_open : (v : ℕ) → v ≡ finished c → part (memory c) (finished c) v ≡ []
    drop_open v e = ap (part (memory c) (finished c)) e ∙ part_none (memory c) (finished c)

    -- list n
    pub past : (n : ℕ) → c.ends.used ≤ n → length (lists c) ≤ n
    past n ge = let e = number_is in omega arith

    module _ (n : ℕ) (lt : n < c.ends.used) where
      pub within : n < length (lists c)
      within = let e = number_is in omega arith

      first : take n (marks c) ≡ take n (table c)
      first = take-take n c.ends.used (table c) (omega arith)

      end : get_or (marks c) n 0 ≡ get_or (table c) n 0
      end = get_or-take c.ends.used (table c) n 0 lt

      pub value_in : (final 0 (take n (table c)) ≤ get_or (table c) n 0) × (get_or (table c) n 0 ≤ c.cells.used)
      value_in =
          let w = list_in (used c) (marks c) c.rising n (let e = marks_is in omega arith) in
          let a = ap (final 0) first in
          let b = end in
          let u = used_is in
          (omega (arith, w.0), omega (arith, w.1))

      pub value_at : get_or (lists c) n [] ≡ part (memory c) (final 0 (take n (table c))) (get_or (table c) n 0)
      value_at =
          let w = value_in in
          sym (list_at (used c) (marks c) c.rising n (let e = marks_is in omega arith))
          ∙ (λ j. part (used c) (final 0 (first j)) (end j))
          ∙ part_take (memory c) (final 0 (take n (table c))) (get_or (table c) n 0) c.cells.used w.0 w.1

      pub value_length : get_or (table c) n 0 - final 0 (take n (table c)) ≡ length (get_or (lists c) n [])
      value_length =
          let w = value_in in
          let a : ℕ = final 0 (take n (table c)) in
          let b : ℕ = get_or (table c) n 0 in
          let l = length-take (b - a) (drop a (memory c)) in
          let d = length-drop a (memory c) in
          let f = c.cells.fits in
          let m : length (get_or (lists c) n []) ≡ length (part (memory c) a b) = ap length value_at in
          omega (arith, w.0, w.1)

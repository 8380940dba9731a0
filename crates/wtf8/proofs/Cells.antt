-- What a store of WTF-8 holds by the lent bytes and places themselves, and what its acts make of them. Assumes nothing.
use Rattle.std.proofs.Common.{◌≡◌, ℕ, suc, ◌+◌, ◌-◌, ◌<◌, ◌≤◌, min, Bool, true, false, cond, ◌&&◌, List, [], ◌∷◌, ◌++◌, map, length, get_or, take, drop, set, Some, Option, None, refl, sym, ap, subst, ◌∙◌, add-zero, arith}
use lib.Utf8.{encode}
use Rattle.std.proofs.lemmas.List.{length-set, length-map, length-append, length-take, length-drop, map_push, take-take, take_at, take-set-le, drop-set-lt, append_assoc, append-nil, take_more_set, get_or-map}
use Rattle.std.proofs.lemmas.Bool.{le-leb, lt-leb, lt-ltb, le-ltb, true≢false}
use Rattle.store.specs.Held.{Held, load, weighed, fits, with_unit, dropped, closed, has_place}
use Rattle.store.specs.Cuts.{part, cut, final, ordered, laid}
use Rattle.store.specs.Leaves.{PutLeaves, CloseLeaves}
use Rattle.store.proofs.Parts.{ordered_up, ordered_final}
use Rattle.store.proofs.Narrows.{narrow_append}
use Rattle.coding.specs.Codes.{high, low, wtf8, weight, units, trail, pairs, recode, from_of, code_of}
use Rattle.coding.proofs.Trips.{narrow_units, narrow_front, units_wtf8, front, trail_high, wtf8_high, three_bytes}
use Rattle.cuts.specs.Lists.{lists}
use Rattle.cuts.proofs.Cells as in_cells
use Rattle.wtf8.specs.declared.Wtf8.{Wtf8}
use Rattle.wtf8.specs.Views.{cells, ends, count, used, laid_with, finished, opened, meaning, IsPlace}
use Rattle.wtf8.specs.Law.{values_weigh}
use Rattle.wtf8.proofs.Steps as bytes

-- the bytes of the finished values, and of the open one, and what is held in them: so many places and bytes are in use
abbrev pub closed_bytes : List ℕ → List ℕ → ℕ → List (List ℕ)
closed_bytes m es count = cut m 0 (take count es)

abbrev pub open_bytes : List ℕ → List ℕ → ℕ → ℕ → List ℕ
open_bytes m es count used = part m (final 0 (take count es)) used

abbrev pub held_in : List ℕ → List ℕ → ℕ → ℕ → Held
held_in m es count used = record {
  values = map units (closed_bytes m es count);
  draft = units (open_bytes m es count used);
  places = min (length es) 4096;
  capacity = min (length m) 1048576;
}

-- what is known of a store of these parts
abbrev pub Kept : List ℕ → List ℕ → ℕ → ℕ → Type 0
Kept m es count used =
    (count ≤ min (length es) 4096) × ((used ≤ min (length m) 1048576) × ((ordered 0 (take count es) used ≡ true) × ((map recode (closed_bytes m es count) ≡ closed_bytes m es count) × ((recode (open_bytes m es count used) ≡ open_bytes m es count used) × Unit {0}))))

pub kept_along : (m m' es es' : List ℕ) (count count' used used' : ℕ) → m' ≡ m → es' ≡ es → count' ≡ count → used' ≡ used → Kept m es count used → Kept m' es' count' used'
kept_along m m' es es' count count' used used' p q r t k =
    subst (λ v. Kept m' es' count' v) (sym t) (subst (λ v. Kept m' es' v used) (sym r) (subst (λ v. Kept m' v count used) (sym q) (subst (λ v. Kept v es count used) (sym p) k)))

-- bytes laid from a place on
length_laid : (m : List ℕ) (i : ℕ) (bs : List ℕ) → length (laid m i bs) ≡ length m
length_laid m i [] = refl
length_laid m i (b ∷ bs) = length_laid (set m i b) (i + 1) bs ∙ length-set m i b

take_laid : (m : List ℕ) (i n : ℕ) (bs : List ℕ) → n ≤ i → take n (laid m i bs) ≡ take n m
take_laid m i n [] h = refl
take_laid m i n (b ∷ bs) h = take_laid (set m i b) (i + 1) n bs (omega arith) ∙ take-set-le n m i b h

drop_laid : (m : List ℕ) (i n : ℕ) (bs : List ℕ) → i + length bs ≤ n → drop n (laid m i bs) ≡ drop n m
drop_laid m i n [] h = refl
drop_laid m i n (b ∷ bs) h = drop_laid (set m i b) (i + 1) n bs (omega arith) ∙ drop-set-lt n m i b (omega arith)

to_laid : (m : List ℕ) (i : ℕ) (bs : List ℕ) → i + length bs ≤ length m → take (i + length bs) (laid m i bs) ≡ take i m ++ bs
to_laid m i [] h = ap (λ n. take n m) (add-zero i) ∙ sym (append-nil (take i m))
to_laid m i (b ∷ bs) h =
    let e : i + suc (length bs) ≡ i + 1 + length bs = omega arith in
    let l = length-set m i b in
    ap (λ n. take n (laid (set m i b) (i + 1) bs)) e
    ∙ to_laid (set m i b) (i + 1) bs (omega arith)
    ∙ ap (λ t. t ++ bs) (take_more_set m i b (omega arith))
    ∙ append_assoc (take i m) (b ∷ []) bs

-- the bytes of each finished value
abbrev pub stored : Wtf8 → List (List ℕ)
stored s = lists s.cuts

module _ (s : Wtf8) where
  closed_is : closed_bytes (cells s) (ends s) (count s) ≡ stored s
  closed_is = sym (in_cells.lists_are s.cuts)

  opened_is : open_bytes (cells s) (ends s) (count s) (used s) ≡ opened s
  opened_is = sym (in_cells.open_is s.cuts)

  -- bytes that are those of the store are told again from their units
  whole_by : (ps : List (List ℕ)) → ps ≡ stored s → map recode ps ≡ ps
  whole_by ps e = ap (map recode) e ∙ s.whole ∙ sym e

  fresh_by : (o : List ℕ) → o ≡ opened s → recode o ≡ o
  fresh_by o e = ap recode e ∙ s.fresh ∙ sym e

  pub held_is : meaning s ≡ held_in (cells s) (ends s) (count s) (used s)
  held_is = λ j. record { values = map units (sym closed_is j); draft = units (sym opened_is j); places = min (length (ends s)) 4096; capacity = min (length (cells s)) 1048576 }

  pub kept : Kept (cells s) (ends s) (count s) (used s)
  kept = (s.cuts.ends.fits, (s.cuts.cells.fits, (in_cells.rising_is s.cuts, (whole_by _ closed_is, (fresh_by _ opened_is, tt)))))

  pub start_in : finished s ≤ used s
  start_in = in_cells.last_in s.cuts

  pub open_length : length (opened s) ≡ used s - finished s
  open_length = in_cells.draft_length s.cuts

  pub closed_weight : weighed weight (map units (stored s)) ≡ finished s
  closed_weight = values_weigh s

  pub load_is : load weight (meaning s) ≡ used s
  load_is = let a = closed_weight in let b = ap length s.fresh ∙ open_length in let st = start_in in omega arith

  pub number_is : length (meaning s).values ≡ count s
  number_is = length-map (stored s) units ∙ in_cells.number_is s.cuts

  -- a byte written past the load
  pub past_kept : (i v : ℕ) → used s ≤ i → Kept (set (cells s) i v) (ends s) (count s) (used s)
  past_kept i v h =
      let f = s.cuts.cells.fits in
      let l = length-set (cells s) i v in
      let e = take-set-le (used s) (cells s) i v h in
      let same = in_cells.same_lists (cells s) (set (cells s) i v) (take (count s) (ends s)) (used s) (omega arith) (omega arith) (in_cells.rising_is s.cuts) e in
      let open_same = in_cells.part_cells (set (cells s) i v) (finished s) (used s) start_in ∙ ap (drop (finished s)) e in
      (s.cuts.ends.fits, (omega arith, (in_cells.rising_is s.cuts, (whole_by _ (same ∙ closed_is), (fresh_by _ open_same, tt)))))

  pub no_place : min (length (ends s)) 4096 ≤ count s → has_place (meaning s) ≡ false
  no_place past = le-ltb (length (map units (stored s))) (min (length (ends s)) 4096) (let e = number_is in omega arith)

  -- one value more: `set (ends s) (count s) (used s)` is what the clause `ends` of `close` says of the places
  module _ (room : count s < min (length (ends s)) 4096) where
    pub a_place : has_place (meaning s) ≡ true
    a_place = lt-ltb (length (map units (stored s))) (min (length (ends s)) 4096) (let e = number_is in omega arith)

    pub closed_more : closed_bytes (cells s) (set (ends s) (count s) (used s)) (count s + 1) ≡ stored s ++ (opened s ∷ [])
    closed_more = in_cells.close_lists s.cuts room

    pub shut : open_bytes (cells s) (set (ends s) (count s) (used s)) (count s + 1) (used s) ≡ []
    shut = in_cells.close_open s.cuts room

    pub close_is : held_in (cells s) (set (ends s) (count s) (used s)) (count s + 1) (used s) ≡ closed (meaning s)
    close_is = λ j. record {
      values = (ap (map units) closed_more ∙ map_push units (stored s) (opened s)) j;
      draft = units (shut j);
      places = min (length-set (ends s) (count s) (used s) j) 4096;
      capacity = min (length (cells s)) 1048576;
    }

    pub close_whole : map recode (closed_bytes (cells s) (set (ends s) (count s) (used s)) (count s + 1)) ≡ closed_bytes (cells s) (set (ends s) (count s) (used s)) (count s + 1)
    close_whole = ap (map recode) closed_more ∙ map_push recode (stored s) (opened s) ∙ (λ j. s.whole j ++ (s.fresh j ∷ [])) ∙ sym closed_more

    pub close_fresh : recode (open_bytes (cells s) (set (ends s) (count s) (used s)) (count s + 1) (used s)) ≡ open_bytes (cells s) (set (ends s) (count s) (used s)) (count s + 1) (used s)
    close_fresh = ap recode shut ∙ sym shut

    pub close_kept : Kept (cells s) (set (ends s) (count s) (used s)) (count s + 1) (used s)
    close_kept =
        let e = length-set (ends s) (count s) (used s) in
        (omega arith, (s.cuts.cells.fits, (in_cells.close_rising s.cuts room, (close_whole, (close_fresh, tt)))))

    pub close_leaves : CloseLeaves (has_place (meaning s)) (count s) (cells s) (cells s) (ends s) (set (ends s) (count s) (used s))
    close_leaves = let l = in_cells.close_leaves s.cuts room in record { same_cells = refl; refused = λ e. absurd (true≢false (sym a_place ∙ e)); same_values = l.same_values; past = l.past }

  -- the open value dropped
  module _ (v : ℕ) (e : v ≡ finished s) where
    pub dropped_open : open_bytes (cells s) (ends s) (count s) v ≡ []
    dropped_open = in_cells.drop_open s.cuts v e

    pub drop_is : held_in (cells s) (ends s) (count s) v ≡ dropped (meaning s)
    drop_is = λ j. record {
      values = map units (closed_is j);
      draft = units (dropped_open j);
      places = min (length (ends s)) 4096;
      capacity = min (length (cells s)) 1048576;
    }

    pub drop_kept : Kept (cells s) (ends s) (count s) v
    drop_kept =
        let st = start_in in
        let f = s.cuts.cells.fits in
        (s.cuts.ends.fits, (omega arith, (ap (ordered 0 (take (count s) (ends s))) e ∙ ordered_final 0 (take (count s) (ends s)) (used s) (in_cells.rising_is s.cuts), (whole_by _ closed_is, (ap recode dropped_open ∙ sym dropped_open, tt)))))

  -- value n
  pub past : (n : ℕ) → count s ≤ n → length (map units (stored s)) ≤ n
  past n ge = let e = number_is in omega arith

  module _ (n : ℕ) (lt : n < count s) where
    pub within : n < length (map units (stored s))
    within = let e = number_is in omega arith

    pub value_in : (final 0 (take n (ends s)) ≤ get_or (ends s) n 0) × (get_or (ends s) n 0 ≤ used s)
    value_in = in_cells.value_in s.cuts n lt

    pub value_bytes : part (cells s) (final 0 (take n (ends s))) (get_or (ends s) n 0) ≡ wtf8 (get_or (meaning s).values n [])
    value_bytes =
        let k = in_cells.within s.cuts n lt in
        sym (in_cells.value_at s.cuts n lt)
        ∙ sym (ap (λ t. get_or t n []) s.whole)
        ∙ get_or-map recode (stored s) n [] [] k
        ∙ ap wtf8 (sym (get_or-map units (stored s) n [] [] k))

    -- its place in all bytes
    pub place_is : (from len : ℕ) → from ≡ final 0 (take n (ends s)) → len ≡ get_or (ends s) n 0 - from → IsPlace s n from len
    place_is from len e f =
        let w = value_in in
        let l = in_cells.used_is s.cuts in
        let to : from + len ≡ get_or (ends s) n 0 = omega (arith, w.0) in
        record {
          there = within;
          inside = omega (arith, w.1);
          bytes = in_cells.part_take (cells s) from (from + len) (used s) (omega arith) (omega (arith, w.1)) ∙ (λ j. part (cells s) (e j) (to j)) ∙ value_bytes;
        }

  -- half is the last unit of the open value, where that is a high half
  module _ (half : Option ℕ) (last : half ≡ trail (units (opened s))) where
    -- the first of the open bytes
    part_open : (v : ℕ) → v ≤ used s → part (cells s) (finished s) v ≡ take (v - finished s) (opened s)
    part_open v le = sym (take-take (v - finished s) (used s - finished s) (drop (finished s) (cells s)) (omega arith)) ∙ ap (take (v - finished s)) opened_is

    -- a high half at the end takes three bytes of the open value
    pub before_half : (h : ℕ) → half ≡ Some h → (finished s + 3 ≤ used s) × (part (cells s) (finished s) (used s - 3) ≡ wtf8 (front (units (opened s))))
    before_half h e =
        let us : List ℕ = units (opened s) in
        let t : trail us ≡ Some h = sym last ∙ e in
        let split : opened s ≡ wtf8 (front us) ++ encode h = sym s.fresh ∙ wtf8_high us h t in
        let st = start_in in
        let n = open_length in
        let l = ap length split ∙ length-append (wtf8 (front us)) (encode h) in
        let w = three_bytes h (trail_high us h t) in
        (omega arith, part_open (used s - 3) (omega arith) ∙ ap (take (used s - 3 - finished s)) split ∙ take_at (wtf8 (front us)) (encode h) (used s - 3 - finished s) (omega arith))

    module _ (u : ℕ) where
      pub from_in : (finished s ≤ from_of half (used s) u) × (from_of half (used s) u ≤ used s)
      from_in = go half refl
        where
          pick : (h : ℕ) → half ≡ Some h → (b : Bool) → (finished s ≤ cond b (used s - 3) (used s)) × (cond b (used s - 3) (used s) ≤ used s)
          pick h e true = let q = before_half h e in (omega (arith, q.0), omega arith)
          pick h e false = (start_in, omega arith)

          go : (h : Option ℕ) → half ≡ h → (finished s ≤ from_of h (used s) u) × (from_of h (used s) u ≤ used s)
          go None e = (start_in, omega arith)
          go (Some h) e = pick h e (high h && low u)

      -- where the character begins, by the open value's bytes alone
      pub from_open : finished s + min (length (opened s)) (from_of half (length (opened s)) u) ≡ from_of half (used s) u
      from_open = go half refl
        where
          pick : (h : ℕ) → half ≡ Some h → (b : Bool) → finished s + min (length (opened s)) (cond b (length (opened s) - 3) (length (opened s))) ≡ cond b (used s - 3) (used s)
          pick h e true = let q = before_half h e in let n = open_length in omega (arith, q.0)
          pick h e false = let st = start_in in let n = open_length in omega arith

          go : (h : Option ℕ) → half ≡ h → finished s + min (length (opened s)) (from_of h (length (opened s)) u) ≡ from_of h (used s) u
          go None e = let st = start_in in let n = open_length in omega arith
          go (Some h) e = pick h e (high h && low u)

      -- the open value's bytes with one unit more
      pub more_is : part (cells s) (finished s) (from_of half (used s) u) ++ encode (code_of half u) ≡ wtf8 (units (opened s) ++ (u ∷ []))
      more_is =
          ap (λ t. t ++ encode (code_of half u)) (part_open (from_of half (used s) u) from_in.1 ∙ ap (λ n. take n (opened s)) (sym (go (pairs half u))))
          ∙ bytes.more_is (opened s) s.fresh half last u
        where
          go : (b : Bool) → cond b (length (opened s) - 3) (length (opened s)) ≡ cond b (used s - 3) (used s) - finished s
          go true = let n = open_length in omega arith
          go false = open_length

      rising_from : ordered 0 (take (count s) (ends s)) (from_of half (used s) u) ≡ true
      rising_from = ordered_up 0 (take (count s) (ends s)) (finished s) (from_of half (used s) u) from_in.0 (ordered_final 0 (take (count s) (ends s)) (used s) (in_cells.rising_is s.cuts))

      -- the open value without a half that is to be completed
      pub cut_kept : Kept (cells s) (ends s) (count s) (from_of half (used s) u)
      cut_kept =
          let f = from_in in
          let k = s.cuts.cells.fits in
          (s.cuts.ends.fits, (omega (arith, f.1), (rising_from, (whole_by _ closed_is, (go half refl, tt)))))
        where
          pick : (h : ℕ) → half ≡ Some h → (b : Bool) → recode (open_bytes (cells s) (ends s) (count s) (cond b (used s - 3) (used s))) ≡ open_bytes (cells s) (ends s) (count s) (cond b (used s - 3) (used s))
          pick h e true =
              let q = before_half h e in
              let us : List ℕ = units (opened s) in
              ap recode q.1 ∙ ap wtf8 (units_wtf8 (front us) (narrow_front us (narrow_units (opened s)))) ∙ sym q.1
          pick h e false = fresh_by _ opened_is

          go : (h : Option ℕ) → half ≡ h → recode (open_bytes (cells s) (ends s) (count s) (from_of h (used s) u)) ≡ open_bytes (cells s) (ends s) (count s) (from_of h (used s) u)
          go None e = fresh_by _ opened_is
          go (Some h) e = pick h e (high h && low u)

      pub load_more : load weight (with_unit (meaning s) u) ≡ from_of half (used s) u + length (encode (code_of half u))
      load_more =
          let a = closed_weight in
          let f = from_in in
          let k = s.cuts.cells.fits in
          let b = sym (ap length more_is) ∙ length-append (part (cells s) (finished s) (from_of half (used s) u)) (encode (code_of half u)) in
          let c = length-take (from_of half (used s) u - finished s) (drop (finished s) (cells s)) in
          let d = length-drop (finished s) (cells s) in
          omega (arith, f.0, f.1)

      pub full : min (length (cells s)) 1048576 < from_of half (used s) u + length (encode (code_of half u)) → fits weight (meaning s) u ≡ false
      full past = lt-leb (load weight (with_unit (meaning s) u)) (min (length (cells s)) 1048576) (let e = load_more in omega arith)

      pub free : from_of half (used s) u + length (encode (code_of half u)) ≤ min (length (cells s)) 1048576 → fits weight (meaning s) u ≡ true
      free room = le-leb (load weight (with_unit (meaning s) u)) (min (length (cells s)) 1048576) (let e = load_more in omega arith)

      -- the bytes of the character that the unit completes, laid there: `after` is `laid_with s u`, what the clause `cells` of `put` says of the cells
      abbrev to : ℕ
      to = from_of half (used s) u + length (encode (code_of half u))

      abbrev after : List ℕ
      after = laid (cells s) (from_of half (used s) u) (encode (code_of half u))

      module _ (fit : u < 65536) (room : from_of half (used s) u + length (encode (code_of half u)) ≤ min (length (cells s)) 1048576) where
        pub same_closed : closed_bytes after (ends s) (count s) ≡ stored s
        same_closed =
            let f = from_in in
            let k = s.cuts.cells.fits in
            let l = length_laid (cells s) (from_of half (used s) u) (encode (code_of half u)) in
            in_cells.same_lists (cells s) after (take (count s) (ends s)) (from_of half (used s) u) (omega (arith, f.1)) (omega (arith, f.1)) rising_from (take_laid (cells s) (from_of half (used s) u) (from_of half (used s) u) (encode (code_of half u)) (omega arith))
            ∙ closed_is

        pub next_open : open_bytes after (ends s) (count s) to ≡ wtf8 (units (opened s) ++ (u ∷ []))
        next_open =
            in_cells.open_with (cells s) after (encode (code_of half u)) (finished s) (from_of half (used s) u) to from_in.0 (omega arith) (omega arith) (to_laid (cells s) (from_of half (used s) u) (encode (code_of half u)) (omega arith))
            ∙ more_is

        pub next_units : units (open_bytes after (ends s) (count s) to) ≡ units (opened s) ++ (u ∷ [])
        next_units = ap units next_open ∙ units_wtf8 (units (opened s) ++ (u ∷ [])) (narrow_append (units (opened s)) (u ∷ []) (narrow_units (opened s)) (fit, tt))

        pub put_is : held_in after (ends s) (count s) to ≡ with_unit (meaning s) u
        put_is = λ j. record {
          values = map units (same_closed j);
          draft = next_units j;
          places = min (length (ends s)) 4096;
          capacity = min (length_laid (cells s) (from_of half (used s) u) (encode (code_of half u)) j) 1048576;
        }

        pub put_rising : ordered 0 (take (count s) (ends s)) to ≡ true
        put_rising = ordered_up 0 (take (count s) (ends s)) (from_of half (used s) u) to (omega arith) rising_from

        pub put_whole : map recode (closed_bytes after (ends s) (count s)) ≡ closed_bytes after (ends s) (count s)
        put_whole = whole_by _ same_closed

        pub put_fresh : recode (open_bytes after (ends s) (count s) to) ≡ open_bytes after (ends s) (count s) to
        put_fresh = ap wtf8 next_units ∙ sym next_open

        pub put_kept : Kept after (ends s) (count s) to
        put_kept =
            let e = length_laid (cells s) (from_of half (used s) u) (encode (code_of half u)) in
            (s.cuts.ends.fits, (omega arith, (put_rising, (put_whole, (put_fresh, tt)))))

        pub put_leaves : PutLeaves (fits weight (meaning s) u) (finished s) (cells s) after (ends s) (ends s)
        put_leaves =
            let f = from_in in
            record {
              same_places = refl;
              refused = λ e. absurd (true≢false (sym (free room) ∙ e));
              same_values = take_laid (cells s) (from_of half (used s) u) (finished s) (encode (code_of half u)) f.0;
              past = drop_laid (cells s) (from_of half (used s) u) 1048576 (encode (code_of half u)) (omega arith);
            }

-- what `put` lays in the cells, from what its calls answer
pub put_laid : (s : Wtf8) (open_now : List ℕ) (half : Option ℕ) (u kept code : ℕ) (bs : List ℕ) → open_now ≡ opened s → (recode open_now ≡ open_now → half ≡ trail (units open_now)) → kept ≡ from_of half (length open_now) u → code ≡ code_of half u → bs ≡ encode code → laid (cells s) (finished s + min (length (opened s)) kept) bs ≡ laid_with s u
put_laid s open_now half u kept code bs e last place is b =
    let same : half ≡ trail (units (opened s)) = last (ap recode e ∙ s.fresh ∙ sym e) ∙ ap (λ t. trail (units t)) e in
    let from : finished s + min (length (opened s)) kept ≡ from_of (trail (units (opened s))) (used s) u = ap (λ n. finished s + min (length (opened s)) n) (place ∙ ap (λ t. from_of half (length t) u) e) ∙ from_open s half same u ∙ ap (λ h. from_of h (used s) u) same in
    let char : bs ≡ encode (code_of (trail (units (opened s))) u) = b ∙ ap encode (is ∙ ap (λ h. code_of h u) same) in
    λ j. laid (cells s) (from j) (char j)

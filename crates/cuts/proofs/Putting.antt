-- Cells put behind some of the open list, one after another. Assumes nothing.
use Rattle.std.proofs.Common.{◌≡◌, ℕ, ◌+◌, ◌<◌, ◌≤◌, min, Bool, true, false, cond, Ok, Err, is_ok, List, [], ◌∷◌, ◌++◌, length, take, drop, set, refl, sym, ap, ◌∙◌, ⊎_elim, arith}
use Rattle.std.proofs.lemmas.List.{length-take, length-append, take_all, drop-take, append-nil, append_assoc}
use Rattle.std.proofs.lemmas.Bool.{cases_lt, cond-true, lt-ltb, true≢false}
use Rattle.refusals.specs.Numbers.{number_of, numbered}
use Rattle.refusals.specs.declared.Refusal.{Refusal}
use Rattle.lent.specs.Items.{pushed}
use Rattle.store.specs.Cuts.{cut, final, laid}
use Rattle.store.specs.Leaves.{PutLeaves}
use Rattle.store.proofs.Parts.{cut_length, laid_more}
use Rattle.cuts.proofs.Cutting.{open_length, cut_less}
use Rattle.cuts.specs.declared.lists.Cuts.{Cuts}
use Rattle.cuts.specs.Lists.{memory, table, used, marks, finished, lists, opened, capacity_of, places_of, has_cell, SameLent, Stays, SameLists}

-- no refusal where there is room
pub not_refused : {A : Type 0} (b : Bool) (a : A) (e f : Refusal) → b ≡ true → Err f ≡ cond b (Ok a) (Err e) → ⊥
not_refused true a e f k h = true≢false (sym (ap is_ok h))
not_refused false a e f k h = true≢false (sym k)

-- an answer told by number, where there is room and where there is none
pub by_number : {A : Type 0} (b : Bool) (a : A) (e : Refusal) → numbered (cond b (Ok a) (Err e)) ≡ cond b (Ok a) (Err (number_of e))
by_number true a e = refl
by_number false a e = refl

module _ {T : Type 0} where
  -- c' is c with another open list
  pub record Behind (c c' : Cuts T) (us : List T) : Type 0 where
    pub draft : opened c' ≡ us
    pub same_lists : SameLists c c'
    pub stays : Stays c c'
    pub same_table : table c' ≡ table c
    pub front : take (finished c) (memory c') ≡ take (finished c) (memory c)
    pub past : drop 1048576 (memory c') ≡ drop 1048576 (memory c)

  pub used_of : (c : Cuts T) → finished c + length (opened c) ≡ length (used c)
  used_of c = open_length (used c) (marks c) c.rising

  -- there are no more cells used than there is room for
  pub used_in : (c : Cuts T) → length (used c) ≤ capacity_of c
  used_in c = let l = length-take c.cells.used (memory c) in let f = c.cells.fits in omega arith

  -- nor more finished lists
  pub lists_in : (c : Cuts T) → length (lists c) ≤ places_of c
  lists_in c = let l = length-take c.ends.used (table c) in let f = c.ends.fits in let n = cut_length (used c) 0 (marks c) in omega arith

  -- no more cells are kept than there are
  pub take_most : (k : ℕ) (us : List T) → take (min (length us) k) us ≡ take k us
  take_most k us = ⊎_elim
      (λ lt. let e : min (length us) k ≡ length us = omega arith in ap (λ n. take n us) e ∙ take_all (length us) us (omega arith) ∙ sym (take_all k us (omega arith)))
      (λ ge. let e : min (length us) k ≡ k = omega arith in ap (λ n. take n us) e)
      (cases_lt (length us) k)

  -- only the cells that are kept
  pub behind_none : (c c' : Cuts T) (k from : ℕ) → from ≡ finished c + min (length (opened c)) k → marks c' ≡ marks c → used c' ≡ take from (used c) → memory c' ≡ memory c → table c' ≡ table c → SameLent c c' → Behind c c' (take k (opened c) ++ [])
  behind_none c c' k from f m u e t n = record {
    draft =
        (λ j. drop (final 0 (m j)) (u j))
        ∙ ap (λ i. drop (finished c) (take i (used c))) f
        ∙ drop-take (finished c) (min (length (opened c)) k) (used c)
        ∙ take_most k (opened c)
        ∙ sym (append-nil (take k (opened c)));
    same_lists = record { lists = (λ j. cut (u j) 0 (m j)) ∙ cut_less (used c) (marks c) c.rising from (omega arith); marks = m };
    stays = record { capacity = ap (λ t. min (length t) 1048576) e; places = ap (λ t. min (length t) 4096) t; lent = n };
    same_table = t;
    front = ap (take (finished c)) e;
    past = ap (drop 1048576) e;
  }

  -- where the cells that are kept end
  abbrev pub kept_to : Cuts T → ℕ → ℕ
  kept_to c k = finished c + min (length (opened c)) k

  module _ (c c' : Cuts T) (k i : ℕ) (us : List T) (so : Behind c c' (take k (opened c) ++ take i us)) (lt : i < length us) (fit : kept_to c k + length us ≤ capacity_of c) where
    same_start : finished c' ≡ finished c
    same_start = ap (final 0) so.same_lists.marks

    used_now : length (used c') ≡ kept_to c k + i
    used_now =
        let a = used_of c' in
        let f = same_start in
        let d = ap length so.draft in
        let n = length-append (take k (opened c)) (take i us) in
        let m = length-take k (opened c) in
        let l = length-take i us in
        omega arith

    -- there is room for one more
    pub still_free : has_cell c' ≡ true
    still_free = lt-ltb (length (used c')) (capacity_of c') (let u = used_now in let r = so.stays.capacity in omega arith)

    -- it is put behind them
    module _ (c'' : Cuts T) (x : T) (next : take (i + 1) us ≡ take i us ++ (x ∷ [])) where
      pub behind_one : opened c'' ≡ cond (has_cell c') (opened c' ++ (x ∷ [])) (opened c') → SameLists c' c'' → Stays c' c'' → PutLeaves (has_cell c') (finished c') (memory c') (memory c'') (table c') (table c'') → Behind c c'' (take k (opened c) ++ take (i + 1) us)
      behind_one d l t p = record {
        draft =
            d
            ∙ cond-true _ _ _ still_free
            ∙ ap (λ t. t ++ (x ∷ [])) so.draft
            ∙ append_assoc (take k (opened c)) (take i us) (x ∷ [])
            ∙ ap (λ t. take k (opened c) ++ t) (sym next);
        same_lists = record { lists = l.lists ∙ so.same_lists.lists; marks = l.marks ∙ so.same_lists.marks };
        stays = record { capacity = t.capacity ∙ so.stays.capacity; places = t.places ∙ so.stays.places; lent = (t.lent.0 ∙ so.stays.lent.0, t.lent.1 ∙ so.stays.lent.1) };
        same_table = p.same_places ∙ so.same_table;
        front = ap (λ n. take n (memory c'')) (sym same_start) ∙ p.same_values ∙ ap (λ n. take n (memory c')) same_start ∙ so.front;
        past = p.past ∙ so.past;
      }

      pub laid_one : memory c' ≡ laid (memory c) (kept_to c k) (take i us) → memory c'' ≡ pushed c'.cells x → memory c'' ≡ laid (memory c) (kept_to c k) (take (i + 1) us)
      laid_one m p =
          let at : c'.cells.used ≡ kept_to c k + length (take i us) =
          let u = used_now in let l = length-take i us in let n = length-take c'.cells.used (memory c') in let f = c'.cells.fits in omega arith in
          p ∙ cond-true _ _ _ still_free ∙ (λ j. set (m j) (at j) x) ∙ sym (laid_more (memory c) (kept_to c k) (take i us) x) ∙ ap (laid (memory c) (kept_to c k)) (sym next)

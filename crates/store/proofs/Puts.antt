-- Units put one after another into the open value. Assumes nothing.
use Rattle.std.proofs.Common.{◌≡◌, ℕ, ◌+◌, ◌<◌, ◌≤◌, Bool, true, false, cond, List, [], ◌∷◌, ◌++◌, length, get_or, take, drop, Ok, Err, Result, sym, refl, ap, ◌∙◌, subst, arith, take-append-drop}
use Rattle.std.proofs.lemmas.List.{take_more, take_all, append_assoc, append-nil}
use Rattle.std.proofs.lemmas.Bool.{leb-false, lt-leb, le-leb, lt-ltb, le-ltb, cond-true, cond-false}
use Rattle.store.specs.Held.{Held, holding, with_unit, dropped, closed, in_room, fits, has_place, Narrow, Sound, kept, keep_told}
use Rattle.store.proofs.Narrows.{narrow_append, narrow_take, narrow_drop}

-- what an answer tells of its test
pub went : (b : Bool) (v : Unit {0}) → ◌≡◌ {A = Result (Unit {0}) ℕ} (Ok v) (cond b (Ok tt) (Err 12)) → b ≡ true
went true v e = refl
went false v e = let z : ◌≡◌ {A = ℕ} 0 1 = cc in absurd (omega arith)

pub stopped : (b : Bool) (n : ℕ) → ◌≡◌ {A = Result (Unit {0}) ℕ} (Err n) (cond b (Ok tt) (Err 12)) → (b ≡ false) × (n ≡ 12)
stopped true n e = let z : ◌≡◌ {A = ℕ} 0 1 = cc in absurd (omega arith)
stopped false n e = (refl, cc)

-- a list weighs no less than its front
module _ (w : List ℕ → ℕ) (heavier : (v : List ℕ) (u : ℕ) → Narrow v → u < 65536 → w v + 1 ≤ w (v ++ (u ∷ []))) where
  pub longer : (xs ys : List ℕ) → Narrow xs → Narrow ys → w xs ≤ w (xs ++ ys)
  longer xs [] n m = rw append-nil (omega arith)
  longer xs (y ∷ ys) n m =
      let a = heavier xs y n m.0 in
      let b = longer (xs ++ (y ∷ [])) ys (narrow_append xs (y ∷ []) n (m.0, tt)) m.1 in
      let e = ap w (append_assoc xs (y ∷ []) ys) in
      omega arith

  pub front_lighter : (n : ℕ) (us : List ℕ) → Narrow us → w (take n us) ≤ w us
  front_lighter n us h = let a = longer (take n us) (drop n us) (narrow_take n us h) (narrow_drop n us h) in let e = ap w (take-append-drop n us) in omega arith

-- h is what is held after i of the units us
module _ (w : List ℕ → ℕ) (h₀ h : Held) (us : List ℕ) (i : ℕ) (so : h ≡ holding h₀ (take i us)) where
  pub one_put : (u : ℕ) (h' : Held) → i < length us → u ≡ get_or us i 0 → h' ≡ cond (fits w h u) (with_unit h u) h → fits w h u ≡ true → h' ≡ holding h₀ (take (i + 1) us)
  one_put u h' lt e after b = after ∙ cond-true _ _ _ b ∙ (λ j. with_unit (so j) (e j)) ∙ ap (holding h₀) (sym (take_more us i 0 lt))

  module _ (place : has_place h₀ ≡ true) where
    pub all_put : Sound w h → length us ≤ i → (in_room w (holding h₀ us) ≡ true) × (h ≡ holding h₀ us)
    all_put sound past =
        let whole : h ≡ holding h₀ us = so ∙ ap (holding h₀) (take_all i us past) in
        let ok : Sound w (holding h₀ us) = subst (Sound w) whole sound in
        (le-leb _ _ ok.light, whole)

    pub all_closed : (h' : Held) → Sound w h → length us ≤ i → h' ≡ cond (has_place h) (closed h) h → h' ≡ kept w h₀ us
    all_closed h' sound past after =
        let a = all_put sound past in
        let p : has_place h ≡ true = ap has_place a.1 ∙ place in
        after ∙ cond-true _ _ _ p ∙ ap closed a.1 ∙ sym (cond-true _ _ _ a.0) ∙ sym (cond-true _ _ _ place)

    pub all_told : (r : Result ℕ ℕ) → Sound w h → length us ≤ i → r ≡ cond (has_place h) (Ok (length h.values)) (Err 11) → r ≡ keep_told w h₀ us
    all_told r sound past told =
        let a = all_put sound past in
        let p : has_place h ≡ true = ap has_place a.1 ∙ place in
        told ∙ cond-true _ _ _ p ∙ ap (λ x. Ok (length x.values)) a.1 ∙ sym (cond-true _ _ _ a.0) ∙ sym (cond-true _ _ _ place)

    module _ (heavier : (v : List ℕ) (u : ℕ) → Narrow v → u < 65536 → w v + 1 ≤ w (v ++ (u ∷ []))) (narrow : Narrow us) (u : ℕ) (lt : i < length us) (e : u ≡ get_or us i 0) (b : fits w h u ≡ false) where
      pub none_fits : in_room w (holding h₀ us) ≡ false
      none_fits =
          let full : fits w (holding h₀ (take i us)) (get_or us i 0) ≡ false = sym (λ j. fits w (so j) (e j)) ∙ b in
          let over = leb-false _ _ full in
          let grown = ap w (take_more us i 0 lt) in
          let rest = front_lighter w heavier (i + 1) us narrow in
          lt-leb _ _ (omega arith)

      pub none_kept : (h' h'' : Held) → h' ≡ cond (fits w h u) (with_unit h u) h → h'' ≡ dropped h' → h'' ≡ kept w h₀ us
      none_kept h' h'' after drops = drops ∙ ap dropped (after ∙ cond-false _ _ _ b ∙ so) ∙ sym (cond-false _ _ _ none_fits) ∙ sym (cond-true _ _ _ place)

      pub none_told : (n : ℕ) → n ≡ 12 → Err n ≡ keep_told w h₀ us
      none_told n e = ap Err e ∙ sym (cond-false _ _ _ none_fits) ∙ sym (cond-true _ _ _ place)

-- no place for one more value
pub no_place_kept : (w : List ℕ → ℕ) (h : Held) (us : List ℕ) → has_place h ≡ false → (Err 11 ≡ keep_told w h us) × (h ≡ kept w h us)
no_place_kept w h us e = (sym (cond-false _ _ _ e), sym (cond-false _ _ _ e))

pub placed : (h : Held) (n p : ℕ) → n ≡ length h.values → p ≡ h.places → n < p → has_place h ≡ true
placed h n p e f lt = lt-ltb _ _ (omega arith)

pub unplaced : (h : Held) (n p : ℕ) → n ≡ length h.values → p ≡ h.places → p ≤ n → has_place h ≡ false
unplaced h n p e f le = le-ltb _ _ (omega arith)

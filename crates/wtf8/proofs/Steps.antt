-- What the acts of a store of WTF-8 do to what it holds. Assumes nothing.
use Rattle.std.proofs.Common.{◌≡◌, ℕ, zero, suc, ◌+◌, ◌-◌, ◌<◌, ◌≤◌, Bool, true, false, cond, ◌&&◌, leb, List, [], ◌∷◌, ◌++◌, map, length, get_or, take, Some, None, Option, refl, sym, ap, ◌∙◌, arith}
use lib.Utf8.{encode}
use Rattle.std.proofs.lemmas.List.{length-append, length-take, take_at, take_all}
use Rattle.std.proofs.lemmas.Bool.{and_parts}
use Rattle.store.specs.Held.{Narrow, fits, with_unit}
use Rattle.store.proofs.Narrows.{narrow_append}
use Rattle.coding.specs.Codes.{high, low, join, wtf8, weight, units, trail, pairs, recode, from_of, code_of}
use Rattle.coding.proofs.Trips.{narrow_units, units_wtf8, front, trail_high, wtf8_more, wtf8_high, wtf8_join, three_bytes}
use Rattle.cuts.specs.declared.lists.Cuts.{Cuts}
use Rattle.cuts.specs.Lists.{used, finished, lists, opened, places_of, capacity_of, takes}
use Rattle.cuts.proofs.Putting.{used_of}
use Rattle.wtf8.specs.declared.Wtf8.{Wtf8}
use Rattle.wtf8.specs.Meaning.{held_of}
use Rattle.wtf8.specs.Views.{meaning}
use Rattle.wtf8.specs.Law.{values_weigh}

-- some bytes with one unit more: those in front of the character that it completes, and that character's
module _ (o : List ℕ) (fresh : recode o ≡ o) (half : Option ℕ) (last : half ≡ trail (units o)) (u : ℕ) where
  pub more_is : take (from_of half (length o) u) o ++ encode (code_of half u) ≡ wtf8 (units o ++ (u ∷ []))
  more_is = go half refl
    where
      us : List ℕ
      us = units o

      alone : pairs half u ≡ false → take (length o) o ++ encode u ≡ wtf8 (us ++ (u ∷ []))
      alone e = ap (λ t. t ++ encode u) (take_all (length o) o (omega arith) ∙ sym fresh) ∙ sym (wtf8_more us u (ap (λ h. pairs h u) (sym last) ∙ e))

      joined : (h : ℕ) → trail us ≡ Some h → low u ≡ true → take (length o - 3) o ++ encode (join h u) ≡ wtf8 (us ++ (u ∷ []))
      joined h t k =
          let split : o ≡ wtf8 (front us) ++ encode h = sym fresh ∙ wtf8_high us h t in
          let n = ap length split ∙ length-append (wtf8 (front us)) (encode h) in
          let w = three_bytes h (trail_high us h t) in
          ap (λ t. t ++ encode (join h u)) (ap (take (length o - 3)) split ∙ take_at (wtf8 (front us)) (encode h) (length o - 3) (omega arith)) ∙ sym (wtf8_join us h u t k)

      pick : (h : ℕ) → half ≡ Some h → (b : Bool) → (high h && low u) ≡ b → take (cond b (length o - 3) (length o)) o ++ encode (cond b (join h u) u) ≡ wtf8 (us ++ (u ∷ []))
      pick h e true k = joined h (sym last ∙ e) (and_parts (high h) (low u) k).1
      pick h e false k = alone (ap (λ t. pairs t u) e ∙ k)

      go : (h : Option ℕ) → half ≡ h → take (from_of h (length o) u) o ++ encode (code_of h u) ≡ wtf8 (us ++ (u ∷ []))
      go None e = alone (ap (λ h. pairs h u) e)
      go (Some h) e = pick h e (high h && low u) refl

-- a unit's character begins among the open bytes or right behind them
from_most : (half : Option ℕ) (n u : ℕ) → from_of half n u ≤ n
from_most None n u = omega arith
from_most (Some h) n u = pick (high h && low u)
  where
    pick : (b : Bool) → cond b (n - 3) n ≤ n
    pick true = omega arith
    pick false = omega arith

-- what a store's open bytes become, from what its calls answer
pub put_bytes : (o open_now : List ℕ) (half : Option ℕ) (u kept code : ℕ) (bytes : List ℕ) → recode o ≡ o → open_now ≡ o → (recode open_now ≡ open_now → half ≡ trail (units open_now)) → kept ≡ from_of half (length open_now) u → code ≡ code_of half u → bytes ≡ encode code → take kept o ++ bytes ≡ wtf8 (units o ++ (u ∷ []))
put_bytes o open_now half u kept code bytes fresh e last place is b =
    (λ j. take ((place ∙ ap (λ t. from_of half (length t) u) e) j) o ++ (b ∙ ap encode is) j)
    ∙ more_is o fresh half (last (ap recode e ∙ fresh ∙ sym e) ∙ ap (λ t. trail (units t)) e) u

-- one unit more fits where its bytes do
pub fits_is : (s : Wtf8) (u : ℕ) → fits weight (meaning s) u ≡ takes s.cuts (wtf8 (units (opened s.cuts) ++ (u ∷ [])))
fits_is s u = ap (λ n. leb (n + weight (units (opened s.cuts) ++ (u ∷ []))) (capacity_of s.cuts)) (values_weigh s)

-- the same order with as much added on both sides
same_test : (a b c d n : ℕ) → a + n ≡ c → b + n ≡ d → leb a b ≡ leb c d
same_test a b c d n e f = grind arith

-- the same in numbers, and that the open bytes are told again: by this a test of the room in `put` itself is proved, as its must-fail edits have one
pub fits_from : (s : Wtf8) (u : ℕ) → (fits weight (meaning s) u ≡ leb (length (used s.cuts) + from_of (trail (units (opened s.cuts))) (length (opened s.cuts)) u + length (encode (code_of (trail (units (opened s.cuts))) u))) (capacity_of s.cuts + length (opened s.cuts))) × (recode (opened s.cuts) ≡ opened s.cuts)
fits_from s u =
    let o : List ℕ = opened s.cuts in
    let t : Option ℕ = trail (units o) in
    let n = used_of s.cuts in
    let m = sym (ap length (more_is o s.fresh t refl u)) in
    let a = length-append (take (from_of t (length o) u) o) (encode (code_of t u)) in
    let k = length-take (from_of t (length o) u) o in
    let f = from_most t (length o) u in
    (fits_is s u ∙ same_test (finished s.cuts + weight (units o ++ (u ∷ []))) (capacity_of s.cuts) (length (used s.cuts) + from_of t (length o) u + length (encode (code_of t u))) (capacity_of s.cuts + length o) (length o) (omega arith) refl, s.fresh)

-- what a store holds after a call, from its lists
pub held_with : (c c' : Cuts ℕ) (u : ℕ) (b : Bool) → u < 65536 → lists c' ≡ lists c → opened c' ≡ cond b (wtf8 (units (opened c) ++ (u ∷ []))) (opened c) → places_of c' ≡ places_of c → capacity_of c' ≡ capacity_of c → held_of c' ≡ cond b (with_unit (held_of c) u) (held_of c)
held_with c c' u true h l d p r = λ j. record { values = map units (l j); draft = (ap units d ∙ units_wtf8 (units (opened c) ++ (u ∷ [])) (narrow_append (units (opened c)) (u ∷ []) (narrow_units (opened c)) (h, tt))) j; places = p j; capacity = r j }
held_with c c' u false h l d p r = λ j. record { values = map units (l j); draft = units (d j); places = p j; capacity = r j }

pub fresh_with : (c c' : Cuts ℕ) (u : ℕ) (b : Bool) → u < 65536 → recode (opened c) ≡ opened c → opened c' ≡ cond b (wtf8 (units (opened c) ++ (u ∷ []))) (opened c) → recode (opened c') ≡ opened c'
fresh_with c c' u true h f d = ap recode d ∙ ap wtf8 (units_wtf8 (units (opened c) ++ (u ∷ [])) (narrow_append (units (opened c)) (u ∷ []) (narrow_units (opened c)) (h, tt))) ∙ sym d
fresh_with c c' u false h f d = ap recode d ∙ f ∙ sym d

-- value n, told again from its bytes, and its bytes
narrow_value : (ps : List (List ℕ)) (n : ℕ) → Narrow (get_or (map units ps) n [])
narrow_value [] n = tt
narrow_value (p ∷ ps) zero = narrow_units p
narrow_value (p ∷ ps) (suc n) = narrow_value ps n

pub value_units : (ps : List (List ℕ)) (n : ℕ) → units (wtf8 (get_or (map units ps) n [])) ≡ get_or (map units ps) n []
value_units ps n = units_wtf8 (get_or (map units ps) n []) (narrow_value ps n)

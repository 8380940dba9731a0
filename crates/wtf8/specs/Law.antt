-- The store of WTF-8 keeps the law. Assumes nothing.
use Rattle.std.specs.Prelude.{◌≡◌, ℕ, ◌+◌, List, [], ◌∷◌, map, length, refl}
use Rattle.std.proofs.Common.{sym, ap, ◌∙◌, add-zero, arith}
use Rattle.std.proofs.lemmas.List.{length-map}
use Rattle.store.specs.Held.{Lawful, Sound, AllNarrow, weighed}
use Rattle.store.proofs.Parts.{weighed_is}
use Rattle.coding.specs.Codes.{weight, units, recode}
use Rattle.coding.proofs.Trips.{narrow_units, heavier_is, bounded_is}
use Rattle.cuts.specs.Lists.{used, marks, finished, lists, opened}
use Rattle.cuts.proofs.Putting.{used_of, used_in, lists_in}
use Rattle.wtf8.specs.declared.Wtf8.{Wtf8}
use Rattle.wtf8.specs.Views.{meaning}

weighed_units : (ps : List (List ℕ)) → weighed weight (map units ps) ≡ weighed length (map recode ps)
weighed_units [] = refl
weighed_units (p ∷ ps) = ap (λ n. weight (units p) + n) (weighed_units ps)

narrow_values : (ps : List (List ℕ)) → AllNarrow (map units ps)
narrow_values [] = tt
narrow_values (p ∷ ps) = (narrow_units p, narrow_values ps)

module _ (s : Wtf8) where
  pub values_weigh : weighed weight (meaning s).values ≡ finished s.cuts
  values_weigh =
      let c = s.cuts in
      weighed_units (lists c) ∙ ap (weighed length) s.whole ∙ sym (add-zero _) ∙ weighed_is (used c) 0 (marks c) (length (used c)) c.rising (omega arith)

  pub sound_is : Sound weight (meaning s)
  sound_is =
      let c = s.cuts in
      let a = values_weigh in
      let b = ap length s.fresh in
      let d = used_of c in
      let e = used_in c in
      let n = length-map (lists c) units in
      let l = lists_in c in
      record { light = omega arith; few = omega arith; few_places = omega arith; narrow = narrow_values (lists c); narrow_draft = narrow_units (opened c) }

pub wtf8_lawful : Lawful weight meaning
wtf8_lawful = record {
  nothing = refl;
  heavier = λ v u n b. heavier_is v u;
  bounded = λ v u n b. bounded_is v u b;
  sound = sound_is;
}

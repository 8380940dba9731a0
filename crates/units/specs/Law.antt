-- The store of units keeps the law. Assumes nothing.
use Rattle.std.specs.Prelude.{length, refl}
use Rattle.std.proofs.Common.{ℕ, ◌≡◌, arith}
use Rattle.std.proofs.lemmas.List.{length_push}
use Rattle.store.specs.Held.{Lawful, Sound, load}
use Rattle.store.proofs.Narrows.{narrow_is, narrow_cut, narrow_drop}
use Rattle.store.proofs.Parts.{weighed_is}
use Rattle.cuts.specs.declared.lists.Cuts.{Cuts}
use Rattle.cuts.specs.Lists.{used, marks, finished}
use Rattle.cuts.proofs.Putting.{used_of, used_in, lists_in}
use Rattle.units.specs.declared.Units.{Units}
use Rattle.units.specs.Meaning.{held_of}
use Rattle.units.specs.Views.{meaning}

pub load_is : (c : Cuts ℕ) → load length (held_of c) ≡ length (used c)
load_is c = let a = weighed_is (used c) 0 (marks c) (length (used c)) c.rising (omega arith) in let b = used_of c in omega arith

pub sound_is : (s : Units) → Sound length (meaning s)
sound_is s =
    let c = s.cuts in
    let a = load_is c in
    let b = used_in c in
    let n = narrow_is (used c) s.small in
    record {
      light = omega arith;
      few = lists_in c;
      few_places = omega arith;
      narrow = narrow_cut (used c) n 0 (marks c);
      narrow_draft = narrow_drop (finished c) (used c) n;
    }

pub units_lawful : Lawful length meaning
units_lawful = record {
  nothing = refl;
  heavier = λ v u n b. let e = length_push v u in omega arith;
  bounded = λ v u n b. let e = length_push v u in omega arith;
  sound = sound_is;
}

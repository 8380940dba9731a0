-- A value is none exactly when a NotEscapeSequence stands among the characters.
use Rattle.std.proofs.Common.{◌≡◌, ℕ, T, ◌⊎◌, List, [], ◌∷◌, Some, None, Option, sym, refl, ap, ◌∙◌, inl, inr, ⊎_elim, arith}
use Rattle.grammar.specs.Rule.{codes}
use Rattle.grammar.specs.Production.{Character, source_character, line_separator, paragraph_separator, dollar, escape, not_escape, line_continuation, line_terminator}
use Rattle.grammar.specs.Value.{character_value, joined}
use Rattle.grammar.specs.Literal.{Node, units_of, is_not_escape, any_not_escape}
use Rattle.grammar.specs.Laws.{NoneExactly}
use Rattle.grammar.proofs.Classes.{either, left, right}

some_none : {us : List ℕ} → Some us ≡ None → ⊥
some_none e = let z : ◌≡◌ {A = ℕ} 0 1 = cc in omega (arith, z)

one_none : (c : Character) (cs : List ℕ) → character_value c cs ≡ None → T (is_not_escape c)
one_none source_character cs e = absurd (some_none e)
one_none line_separator cs e = absurd (some_none e)
one_none paragraph_separator cs e = absurd (some_none e)
one_none dollar cs e = absurd (some_none e)
one_none (escape k) cs e = absurd (some_none e)
one_none (not_escape n) cs e = tt
one_none (line_continuation l) cs e = absurd (some_none e)
one_none (line_terminator l) cs e = absurd (some_none e)

none_one : (c : Character) (cs : List ℕ) → T (is_not_escape c) → character_value c cs ≡ None
none_one source_character cs h = absurd h
none_one line_separator cs h = absurd h
none_one paragraph_separator cs h = absurd h
none_one dollar cs h = absurd h
none_one (escape k) cs h = absurd h
none_one (not_escape n) cs h = refl
none_one (line_continuation l) cs h = absurd h
none_one (line_terminator l) cs h = absurd h

joined_none : (u v : Option (List ℕ)) → joined u v ≡ None → (u ≡ None) ⊎ (v ≡ None)
joined_none None v e = inl refl
joined_none (Some us) None e = inr refl
joined_none (Some us) (Some vs) e = absurd (some_none e)

none_right : (u : Option (List ℕ)) → joined u None ≡ None
none_right None = refl
none_right (Some us) = refl

none_holds : (ns : List (Node Character)) → units_of ns ≡ None → T (any_not_escape ns)
none_holds [] e = absurd (some_none e)
none_holds (n ∷ ns) e =
    ⊎_elim (λ h. left (is_not_escape n.what) (any_not_escape ns) (one_none n.what (codes n.leaves) h)) (λ h. right (is_not_escape n.what) (any_not_escape ns) (none_holds ns h))
    (joined_none (character_value n.what (codes n.leaves)) (units_of ns) e)

holds_none : (ns : List (Node Character)) → T (any_not_escape ns) → units_of ns ≡ None
holds_none [] h = absurd h
holds_none (n ∷ ns) h =
    ⊎_elim (λ k. ap (λ (z : Option (List ℕ)). joined z (units_of ns)) (none_one n.what (codes n.leaves) k))
    (λ k. ap (joined (character_value n.what (codes n.leaves))) (holds_none ns k) ∙ none_right (character_value n.what (codes n.leaves)))
    (either (is_not_escape n.what) (any_not_escape ns) h)

pub none_exactly : NoneExactly
none_exactly t start k e d u x = ((λ h. none_holds d.characters (x.valued ∙ h)), (λ h. sym x.valued ∙ holds_none d.characters h))

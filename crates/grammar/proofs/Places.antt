-- The places of readings and derivations in UTF-8 bytes.
use Rattle.std.proofs.Common.{ℕ, ◌≤◌, List, [], ◌∷◌, IsUtf8, subst, le_refl, arith}
use Rattle.std.specs.Str.{IsCharBoundary}
use Rattle.grammar.specs.Utf8.{utf8, Standing}
use Rattle.grammar.specs.Rule.{Rule, Matches, Leaf, codes, Stand}
use Rattle.grammar.specs.Literal.{Node, Chain}
use Rattle.grammar.specs.Reading.{Scan, double_scan, single_scan, template_scan, resumption, opening_of, body_read, step_rule}
use Rattle.grammar.specs.Places.{ReadingsStand, DerivationsStand, NothingOffBoundaries}
use Rattle.grammar.proofs.Utf8.{characters_stand, nothing_inside}
use Rattle.grammar.proofs.Exact.{derivations_are_read}
use Rattle.grammar.proofs.Nothing.{no_derivation, no_reading}

-- from a boundary on to a boundary
abbrev On : List ℕ → ℕ → ℕ → Type 0
On bs p q = (p ≤ q) × IsCharBoundary bs q

pub stand_on : (bs : List ℕ) (p q : ℕ) (ls : List Leaf) → IsUtf8 bs → IsCharBoundary bs p → Stand (utf8 bs) p ls q → On bs p q
stand_on bs p q [] u b x = subst (On bs p) x (le_refl p, b)
stand_on bs p q (l ∷ ls) u b x =
    let m : ℕ = x.1.0 in
    let s : Standing bs p l.code m = characters_stand bs p l.code m u x.1.1 in
    let (h, c) = stand_on bs m q ls u s.ends x.1.2 in
    (omega (arith, s.further, h), c)

pub chain_on : {A : Type 0} (f : A → Rule) (bs : List ℕ) (p q : ℕ) (ns : List (Node A)) → IsUtf8 bs → IsCharBoundary bs p → Chain f (utf8 bs) p ns q → On bs p q
chain_on f bs p q [] u b x = subst (On bs p) x (le_refl p, b)
chain_on f bs p q (n ∷ ns) u b x =
    let (h, c) = stand_on bs p n.to n.leaves u b x.1.stand in
    let (k, d) = chain_on f bs n.to q ns u c x.2 in
    (omega (arith, h, k), d)

opening_stands : (g : Scan) (bs : List ℕ) (p : ℕ) (cs : List ℕ) (q : ℕ) → IsUtf8 bs → Matches (utf8 bs) p (opening_of g) cs q → (c : ℕ) × Standing bs p c q
opening_stands double_scan bs p cs q u x = (x.0, subst (Standing bs p x.0) x.6.1 (characters_stand bs p x.0 x.1 u x.3))
opening_stands single_scan bs p cs q u x = (x.0, subst (Standing bs p x.0) x.6.1 (characters_stand bs p x.0 x.1 u x.3))
opening_stands template_scan bs p cs q u x = (x.0, subst (Standing bs p x.0) x.6.1 (characters_stand bs p x.0 x.1 u x.3))
opening_stands resumption bs p cs q u x = (x.0, subst (Standing bs p x.0) x.6.1 (characters_stand bs p x.0 x.1 u x.3))

pub readings_stand : ReadingsStand
readings_stand bs r u x =
    let (c, s) = opening_stands r.scan bs r.from (codes r.opens) r.start u x.opened.matches in
    let (h, b) = chain_on (step_rule (body_read r.scan)) bs r.start r.stop r.steps u s.ends x.stepped in
    let (k, d) = stand_on bs r.stop r.to r.ends u b x.ended.stand in
    (omega (arith, s.further, h, k), s.begins, d)

pub derivations_stand : DerivationsStand
derivations_stand bs start k e d u v x =
    let (r, y, f, w, i) = derivations_are_read (utf8 bs) start k e d u x in
    let (l, b, c) = readings_stand bs r v y in
    (omega (arith, f, w.ends), subst (IsCharBoundary bs) f b, subst (IsCharBoundary bs) w.ends c)

pub nothing_off_boundaries : NothingOffBoundaries
nothing_off_boundaries bs p n = let e = nothing_inside bs p n in (no_derivation (utf8 bs) p e, no_reading (utf8 bs) p e)

-- Where no character stands, nothing is derived or read.
use Rattle.std.proofs.Common.{◌≡◌, ℕ, List, Option, ap, ◌∙◌, arith}
use Rattle.grammar.specs.Text.{Text, Spot, over, char}
use Rattle.grammar.specs.Rule.{Matches, codes}
use Rattle.grammar.specs.Literal.{Kind, Production, double_string, single_string, no_substitution, head, middle, tail, opening, Tree, Derivation}
use Rattle.grammar.specs.Reading.{Scan, double_scan, single_scan, template_scan, resumption, opening_of, Read, Reading}

over_off : {c m : ℕ} {s : Spot} → s ≡ over → s ≡ char c m → ⊥
over_off p q = let z : ◌≡◌ {A = ℕ} 0 1 = cc in omega (arith, z)

opens_off : (g : Production) (t : Text) (p : ℕ) (cs : List ℕ) (q : ℕ) → t p ≡ over → Matches t p (opening g) cs q → ⊥
opens_off double_string t p cs q e x = over_off e x.3
opens_off single_string t p cs q e x = over_off e x.3
opens_off no_substitution t p cs q e x = over_off e x.3
opens_off head t p cs q e x = over_off e x.3
opens_off middle t p cs q e x = over_off e x.3
opens_off tail t p cs q e x = over_off e x.3

scans_off : (g : Scan) (t : Text) (p : ℕ) (cs : List ℕ) (q : ℕ) → t p ≡ over → Matches t p (opening_of g) cs q → ⊥
scans_off double_scan t p cs q e x = over_off e x.3
scans_off single_scan t p cs q e x = over_off e x.3
scans_off template_scan t p cs q e x = over_off e x.3
scans_off resumption t p cs q e x = over_off e x.3

pub no_derivation : (t : Text) (p : ℕ) → t p ≡ over → (k : Kind) (e : ℕ) (d : Tree) (u : Option (List ℕ)) → Derivation t p k e d u → ⊥
no_derivation t p h k e d u x = opens_off d.production t d.from (codes d.opens) d.start (ap t x.starts ∙ h) x.derives.opened.matches

pub no_reading : (t : Text) (p : ℕ) → t p ≡ over → (r : Read) → Reading t r → r.from ≡ p → ⊥
no_reading t p h r x f = scans_off r.scan t r.from (codes r.opens) r.start (ap t f ∙ h) x.opened.matches

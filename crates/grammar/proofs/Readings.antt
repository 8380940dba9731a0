-- Any two readings from one start are the same.
use Rattle.std.proofs.Common.{◌≡◌, ℕ, T, refl, subst, subst₂}
use Rattle.grammar.specs.Text.{Text}
use Rattle.grammar.specs.Rule.{codes, Takes}
use Rattle.grammar.specs.Literal.{Body, Chain}
use Rattle.grammar.specs.Reading.{Scan, double_scan, single_scan, template_scan, resumption, opening_of, body_read, step_rule, Ending, end_rule, Read, Reading}
use Rattle.grammar.specs.Laws.{ReadingsAreOne}
use Rattle.grammar.proofs.Apart.{apart, settled, apart_off}
use Rattle.grammar.proofs.Leaves.{takes_same}
use Rattle.grammar.proofs.Table.{one_entry, settled_entry}
use Rattle.grammar.proofs.Steps.{steps, steps_clear, endings, endings_clear, ending_ends}
use Rattle.grammar.proofs.Unique.{chain_same}

read_path :
    (r s : Read) → r.scan ≡ s.scan → r.from ≡ s.from → r.opens ≡ s.opens → r.start ≡ s.start → r.steps ≡ s.steps → r.stop ≡ s.stop → r.ending ≡ s.ending
    → r.ends ≡ s.ends → r.to ≡ s.to → r ≡ s
read_path r s a b c d e f g h k i = record { scan = a i; from = b i; opens = c i; start = d i; steps = e i; stop = f i; ending = g i; ends = h i; to = k i }

-- two scans are one, or open apart

data Scans (g h : Scan) : Type 0 where
  same : g ≡ h → Scans g h
  opens_apart : T (apart (opening_of g) (opening_of h)) → Scans g h

scans : (g h : Scan) → Scans g h
scans double_scan double_scan = same refl
scans double_scan single_scan = opens_apart tt
scans double_scan template_scan = opens_apart tt
scans double_scan resumption = opens_apart tt
scans single_scan double_scan = opens_apart tt
scans single_scan single_scan = same refl
scans single_scan template_scan = opens_apart tt
scans single_scan resumption = opens_apart tt
scans template_scan double_scan = opens_apart tt
scans template_scan single_scan = opens_apart tt
scans template_scan template_scan = same refl
scans template_scan resumption = opens_apart tt
scans resumption double_scan = opens_apart tt
scans resumption single_scan = opens_apart tt
scans resumption template_scan = opens_apart tt
scans resumption resumption = same refl

settled_opening : (g : Scan) → T (settled (opening_of g))
settled_opening double_scan = tt
settled_opening single_scan = tt
settled_opening template_scan = tt
settled_opening resumption = tt

read_by : (t : Text) (r s : Read) → Scans r.scan s.scan → r.from ≡ s.from → Reading t r → Reading t s → r ≡ s
read_by t r s (opens_apart h) f x y =
    absurd (apart_off (opening_of r.scan) (opening_of s.scan) h t s.from (codes r.opens) (codes s.opens) r.start s.start
    (subst (λ (z : ℕ). Takes t z (opening_of r.scan) r.opens r.start) f x.opened).matches y.opened.matches)
read_by t r s (same g) f x y =
    let b : Body = body_read s.scan in
    let (a, m) = takes_same (opening_of s.scan) (settled_opening s.scan) t s.from r.opens s.opens r.start s.start
    (subst₂ (λ (z : ℕ) (w : Scan). Takes t z (opening_of w) r.opens r.start) f g x.opened) y.opened in
    let xe : Takes t r.stop (end_rule b r.ending) r.ends r.to = subst (λ (w : Scan). Takes t r.stop (end_rule (body_read w) r.ending) r.ends r.to) g x.ended in
    let (n, c) = chain_same steps (step_rule b) (steps_clear b) (end_rule b r.ending) (end_rule b s.ending) (ending_ends b r.ending) (ending_ends b s.ending) t s.start
    r.steps s.steps r.stop s.stop r.ends s.ends r.to s.to
    (subst₂ (λ (z : ℕ) (w : Scan). Chain (step_rule (body_read w)) t z r.steps r.stop) m g x.stepped) xe y.stepped y.ended in
    let xf : Takes t s.stop (end_rule b r.ending) r.ends r.to = subst (λ (z : ℕ). Takes t z (end_rule b r.ending) r.ends r.to) c xe in
    let e = one_entry endings (end_rule b) (endings_clear b) t s.stop r.ending s.ending r.ends s.ends r.to s.to xf y.ended in
    let (k, l) = takes_same (end_rule b s.ending) (settled_entry endings (end_rule b) (endings_clear b) s.ending) t s.stop r.ends s.ends r.to s.to
    (subst (λ (z : Ending). Takes t s.stop (end_rule b z) r.ends r.to) e xf) y.ended in
    read_path r s g f a m n c e k l

pub readings_are_one : ReadingsAreOne
readings_are_one t r s f x y = read_by t r s (scans r.scan s.scan) f x y

-- A step over two leading bytes. Assumes nothing.
use Rattle.std.proofs.Common.{◌≡◌, ℕ, ◌+◌, ◌<◌, List, length, get_or, drop, IsUtf8, sym, ap, ◌∙◌, subst, arith, length-drop}
use Rattle.std.specs.Str.{IsCharBoundary}
use Rattle.std.proofs.lemmas.List.{get_or-drop}
use Rattle.std.proofs.lemmas.Str.{IsCharBoundary-after_ascii}
use Rattle.source.specs.Fronts.{Begins}

-- behind two characters of ASCII is a boundary
pub past_two : (bs : List ℕ) (i n a b : ℕ) → IsUtf8 bs → b < 128 → Begins a b (drop i bs) → n ≡ i + 2 → IsCharBoundary bs n
past_two bs i n a b u l (rest, e) k =
    let d : get_or bs (i + 1) 0 ≡ b = sym (get_or-drop i bs 1 0) ∙ ap (λ (xs : List ℕ). get_or xs 1 0) e in
    let m : i + 1 + 1 ≡ n = omega arith in
    subst (λ (m : ℕ). IsCharBoundary bs m) m (IsCharBoundary-after_ascii bs (i + 1) u (omega (arith, length-drop i bs, ap length e)) (omega arith))

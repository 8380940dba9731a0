-- Runs of hex digits: those that nothing lengthens are one, and so are those that their last digit lifts above a number.
use Rattle.std.proofs.Common.{◌≡◌, ℕ, ◌+◌, ◌*◌, ◌≤◌, Bool, false, ◌&&◌, T, ltb, leb, List, [], ◌∷◌, sym, refl, ap, ◌∙◌, subst, ap₂, le_refl, arith, le→leb, ltb→lt, leb→le}
use Rattle.grammar.specs.Text.{Text, Spot, char}
use Rattle.grammar.specs.Rule.{member, hex_digit, Run, mv_from, digit, but_last}
use Rattle.grammar.proofs.Classes.{both, pair}

pub same_char : {s : Spot} {c d m n : ℕ} → s ≡ char c m → s ≡ char d n → (c ≡ d) × (m ≡ n)
same_char p q = (cc, cc)

-- no hex digit stands at a place
abbrev pub Shut : Text → ℕ → Type 0
Shut t m = (c k : ℕ) → t m ≡ char c k → T (member c hex_digit) → ⊥

pub run_same : (t : Text) (p m n : ℕ) (ds es : List ℕ) → Run t p ds m → Run t p es n → Shut t m → Shut t n → (ds ≡ es) × (m ≡ n)
run_same t p m n [] [] x y f g = (refl, sym x ∙ y)
run_same t p m n [] (e ∷ es) x y f g = absurd (f e y.0 (ap t (sym x) ∙ y.1) y.2)
run_same t p m n (d ∷ ds) [] x y f g = absurd (g d x.0 (ap t (sym y) ∙ x.1) x.2)
run_same t p m n (d ∷ ds) (e ∷ es) x y f g =
    let (i, j) = same_char x.1 y.1 in
    let (k, l) = run_same t y.0 m n ds es (subst (λ (z : ℕ). Run t z ds m) j x.3) y.3 f g in
    (ap₂ ◌∷◌ i k, l)

-- an MV only grows with its digits
pub grows : (v : ℕ) (ds : List ℕ) → v ≤ mv_from 16 v ds
grows v [] = le_refl v
grows v (d ∷ ds) = omega (arith, grows (v * 16 + digit d) ds)

-- the MV passes b at the last digit and not before it; v is the MV of the digits in front
abbrev pub lifted : ℕ → ℕ → List ℕ → Bool
lifted b v [] = false
lifted b v (d ∷ []) = ltb b (v * 16 + digit d)
lifted b v (d ∷ e ∷ es) = leb (v * 16 + digit d) b && lifted b (v * 16 + digit d) (e ∷ es)

pub lifted_from : (b v d : ℕ) (ds : List ℕ) → T (ltb b (mv_from 16 v (d ∷ ds))) → T (leb (mv_from 16 v (but_last (d ∷ ds))) b) → T (lifted b v (d ∷ ds))
lifted_from b v d [] h k = h
lifted_from b v d (e ∷ es) h k =
    let w : ℕ = v * 16 + digit d in
    let l : w ≤ b = omega (arith, grows w (but_last (e ∷ es)), leb→le (mv_from 16 w (but_last (e ∷ es))) b k) in
    pair (leb w b) (lifted b w (e ∷ es)) (le→leb w b l) (lifted_from b w e es h k)

lift_off : (b v d e : ℕ) → d ≡ e → T (ltb b (v * 16 + digit d)) → T (leb (v * 16 + digit e) b) → ⊥
lift_off b v d e i h k = omega (arith, ltb→lt b (v * 16 + digit e) (subst (λ (z : ℕ). T (ltb b (v * 16 + digit z))) i h), leb→le (v * 16 + digit e) b k)

pub lifted_same : (t : Text) (p m n b v : ℕ) (ds es : List ℕ) → T (lifted b v ds) → T (lifted b v es) → Run t p ds m → Run t p es n → (ds ≡ es) × (m ≡ n)
lifted_same t p m n b v [] es h k x y = absurd h
lifted_same t p m n b v (d ∷ ds) [] h k x y = absurd k
lifted_same t p m n b v (d ∷ []) (e ∷ []) h k x y =
    let (i, j) = same_char x.1 y.1 in
    (ap (λ z. z ∷ []) i, sym x.3 ∙ j ∙ y.3)
lifted_same t p m n b v (d ∷ []) (e ∷ e' ∷ es) h k x y =
    let (i, j) = same_char x.1 y.1 in
    let k₀ : T (leb (v * 16 + digit e) b) = (both (leb (v * 16 + digit e) b) (lifted b (v * 16 + digit e) (e' ∷ es)) k).0 in
    absurd (lift_off b v d e i h k₀)
lifted_same t p m n b v (d ∷ d' ∷ ds) (e ∷ []) h k x y =
    let (i, j) = same_char x.1 y.1 in
    let h₀ : T (leb (v * 16 + digit d) b) = (both (leb (v * 16 + digit d) b) (lifted b (v * 16 + digit d) (d' ∷ ds)) h).0 in
    absurd (lift_off b v e d (sym i) k h₀)
lifted_same t p m n b v (d ∷ d' ∷ ds) (e ∷ e' ∷ es) h k x y =
    let (i, j) = same_char x.1 y.1 in
    let h₁ = (both (leb (v * 16 + digit d) b) (lifted b (v * 16 + digit d) (d' ∷ ds)) h).1 in
    let k₁ = (both (leb (v * 16 + digit e) b) (lifted b (v * 16 + digit e) (e' ∷ es)) k).1 in
    let (a, c) = lifted_same t y.0 m n b (v * 16 + digit e) (d' ∷ ds) (e' ∷ es) (subst (λ (z : ℕ). T (lifted b (v * 16 + digit z) (d' ∷ ds))) i h₁) k₁
    (subst (λ (z : ℕ). Run t z (d' ∷ ds) m) j x.3) y.3 in
    (ap₂ ◌∷◌ i a, c)

-- beside a run that nothing lengthens and whose MV is at most a, none is lifted above b
pub lifted_off : (t : Text) (p m n a b v : ℕ) (ds es : List ℕ) → a ≤ b → mv_from 16 v ds ≤ a → T (lifted b v es) → Run t p ds m → Run t p es n → Shut t m → ⊥
lifted_off t p m n a b v ds [] l h k x y f = k
lifted_off t p m n a b v [] (e ∷ es) l h k x y f = f e y.0 (ap t (sym x) ∙ y.1) y.2
lifted_off t p m n a b v (d ∷ ds) (e ∷ []) l h k x y f =
    let i = (same_char x.1 y.1).0 in
    lift_off b v e d (sym i) k (le→leb (v * 16 + digit d) b (omega (arith, grows (v * 16 + digit d) ds)))
lifted_off t p m n a b v (d ∷ ds) (e ∷ e' ∷ es) l h k x y f =
    let (i, j) = same_char x.1 y.1 in
    let k₁ = (both (leb (v * 16 + digit e) b) (lifted b (v * 16 + digit e) (e' ∷ es)) k).1 in
    lifted_off t y.0 m n a b (v * 16 + digit e) ds (e' ∷ es) l (subst (λ (z : ℕ). mv_from 16 (v * 16 + digit z) ds ≤ a) i h) k₁ (subst (λ (z : ℕ). Run t z ds m) j x.3) y.3 f

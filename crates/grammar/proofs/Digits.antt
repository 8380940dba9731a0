-- One digit more: for readers that take hex digits one by one.
use Rattle.std.proofs.Common.{◌≡◌, ℕ, ◌+◌, ◌*◌, ◌<◌, ◌≤◌, T, ltb, leb, List, [], ◌∷◌, ◌++◌, sym, refl, ap, ◌∙◌, subst, le→leb, lt→ltb}
use Rattle.grammar.specs.Text.{Text, char}
use Rattle.grammar.specs.Rule.{member, hex_digit, digit, mv, mv_from, but_last, at_most, above, just_above, meets, Run}
use Rattle.grammar.proofs.Classes.{pair}

pub run_push : (t : Text) (p m q d : ℕ) (ds : List ℕ) → Run t p ds m → t m ≡ char d q → T (member d hex_digit) → Run t p (ds ++ d ∷ []) q
run_push t p m q d [] x e h = (q, ap t x ∙ e, h, refl)
run_push t p m q d (c ∷ ds) x e h = (x.0, x.1, x.2, run_push t x.0 m q d ds x.3 e h)

mv_from_push : (b v d : ℕ) (ds : List ℕ) → mv_from b v (ds ++ d ∷ []) ≡ mv_from b v ds * b + digit d
mv_from_push b v d [] = refl
mv_from_push b v d (c ∷ ds) = mv_from_push b (v * b + digit c) d ds

pub mv_push : (b d : ℕ) (ds : List ℕ) → mv b (ds ++ d ∷ []) ≡ mv b ds * b + digit d
mv_push b d ds = mv_from_push b 0 d ds

pub but_last_push : (d : ℕ) (ds : List ℕ) → but_last (ds ++ d ∷ []) ≡ ds
but_last_push d [] = refl
but_last_push d (c ∷ []) = refl
but_last_push d (c ∷ e ∷ es) = ap (λ (z : List ℕ). c ∷ z) (but_last_push d (e ∷ es))

-- digits within a bound

pub meets_most : (n d : ℕ) (ds : List ℕ) → mv 16 (d ∷ ds) ≤ n → T (meets (at_most n) (d ∷ ds))
meets_most n d ds h = le→leb (mv 16 (d ∷ ds)) n h

pub meets_above : (n d : ℕ) (ds : List ℕ) → n < mv 16 (d ∷ ds) → T (meets (above n) (d ∷ ds))
meets_above n d ds h = lt→ltb n (mv 16 (d ∷ ds)) h

pub meets_lifted : (n d : ℕ) (ds : List ℕ) → mv 16 ds ≤ n → n < mv 16 (ds ++ d ∷ []) → T (meets (just_above n) (ds ++ d ∷ []))
meets_lifted n d [] l h = pair (ltb n (mv 16 (d ∷ []))) (leb (mv 16 []) n) (lt→ltb n (mv 16 (d ∷ [])) h) (le→leb 0 n l)
meets_lifted n d (c ∷ cs) l h =
    pair (ltb n (mv 16 (c ∷ (cs ++ d ∷ [])))) (leb (mv 16 (but_last (c ∷ (cs ++ d ∷ [])))) n) (lt→ltb n (mv 16 (c ∷ (cs ++ d ∷ []))) h)
    (subst (λ (z : List ℕ). T (leb (mv 16 z) n)) (sym (but_last_push d (c ∷ cs))) (le→leb (mv 16 (c ∷ cs)) n l))

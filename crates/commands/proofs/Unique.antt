-- An input has one first line, so what is no input of the rest is none of the whole.
use Rattle.std.proofs.Common.{◌≡◌, ℕ, Bool, true, false, cond, T, eqb, List, [], ◌∷◌, ◌++◌, length, get_or, drop, sym, refl, ap, ◌∙◌, subst, arith, rules}
use Rattle.std.proofs.ByRecursion.{All-append, All-weaker}
use Rattle.std.proofs.lemmas.Bool.{eqb-false}
use Rattle.commands.specs.declared.kinds.Word.{Word}
use Rattle.commands.specs.declared.kinds.Word.TheVariants.{Str, Template, Resume, Value}
use Rattle.commands.specs.declared.kinds.Command.{Command}
use Rattle.commands.specs.Format.{Digit, Line, Lacks, Input, NoInput, spelled}

-- lists that are the same begin and go on the same
head_is : (x y : ℕ) (xs ys : List ℕ) → x ∷ xs ≡ y ∷ ys → x ≡ y
head_is x y xs ys e = ap (λ (l : List ℕ). get_or l 0 0) e

tail_is : (x y : ℕ) (xs ys : List ℕ) → x ∷ xs ≡ y ∷ ys → xs ≡ ys
tail_is x y xs ys e = ap (λ (l : List ℕ). drop 1 l) e

-- and are cut the same at their first line feed
pub same_cut : (a b x y : List ℕ) → Lacks a → Lacks b → a ++ 10 ∷ x ≡ b ++ 10 ∷ y → (a ≡ b) × (x ≡ y)
same_cut [] [] x y p q e = (refl, cc)
same_cut [] (c ∷ b) x y p q e = absurd (q.0 (cc))
same_cut (c ∷ a) [] x y p q e = absurd (p.0 (cc))
same_cut (c ∷ a) (d ∷ b) x y p q e =
    let more = same_cut a b x y p.1 q.1 (cc) in
    (cc (more.0), more.1)

-- the test that a list has no line feed
abbrev free : List ℕ → Bool
free [] = true
free (x ∷ xs) = cond (eqb x 10) false (free xs)

free_step : (x : ℕ) (xs : List ℕ) (b : Bool) → (free xs ≡ true → Lacks xs) → eqb x 10 ≡ b → cond b false (free xs) ≡ true → Lacks (x ∷ xs)
free_step x xs true more e t = absurd (subst T (sym t) tt)
free_step x xs false more e t = (eqb-false x 10 e, more t)

free_lacks : (xs : List ℕ) → free xs ≡ true → Lacks xs
free_lacks [] t = tt
free_lacks (x ∷ xs) t = free_step x xs (eqb x 10) (λ u. free_lacks xs u) refl t

spelled_lacks : (w : Word) → Lacks (spelled w)
spelled_lacks Str = search rules
spelled_lacks Template = search rules
spelled_lacks Resume = search rules
spelled_lacks Value = search rules

line_lacks : (c : Command) (xs : List ℕ) → Line c xs → Lacks xs
line_lacks c xs h =
    subst Lacks (sym h.1) (All-append (λ b. b ≡ 10 → ⊥) (spelled c.word) h.0 (spelled_lacks c.word) (All-weaker Digit (λ b. b ≡ 10 → ⊥) (λ b d e. omega arith) h.0 h.2.2))

-- no line feed, no input
pub none_lacks : (xs : List ℕ) → Lacks xs → NoInput xs
none_lacks xs p [] text h = (subst Lacks h p).0 refl
none_lacks xs p (c ∷ cs) text h = ended h.0 h.1 (subst Lacks h.2 p)
  where
    ended : (front rest : List ℕ) → Lacks (front ++ 10 ∷ rest) → ⊥
    ended [] rest q = q.0 refl
    ended (x ∷ front) rest q = ended front rest q.1

-- where the first line is not empty, an input has it as a command, and an input of the rest
module _ (xs front rest : List ℕ) (e : xs ≡ front ++ 10 ∷ rest) (p : Lacks front) (some : false ≡ eqb (length front) 0) where
  pub split : (cs : List Command) (text : List ℕ) → Input cs text xs → ((c : Command) × Line c front) × ((ds : List Command) × Input ds text rest)
  split [] text h = absurd (eqb-false _ _ (sym some) (ap length (same_cut front [] rest text p tt (sym e ∙ h)).0))
  split (c ∷ cs) text h =
      let one = same_cut h.0 front h.1 rest (line_lacks c h.0 h.3) p (sym h.2 ∙ e) in
      ((c, subst (Line c) one.0 h.3), (cs, subst (Input cs text) one.1 h.4))

  pub no_command : ((c : Command) → Line c front → ⊥) → NoInput xs
  no_command none cs text h = let s = split cs text h in none s.0.0 s.0.1

  pub no_rest : NoInput rest → NoInput xs
  no_rest none cs text h = let s = split cs text h in none s.1.0 text s.1.1

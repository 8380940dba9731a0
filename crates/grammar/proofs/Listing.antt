-- A test at every entry of a type's list, which antt computes, carried to each entry.
use Rattle.std.proofs.Common.{◌≡◌, Bool, true, false, ◌&&◌, ◌||◌, T, List, [], ◌∷◌, sym, subst, ⊎_elim}
use Rattle.grammar.proofs.Classes.{both, either}

abbrev pub is_yes : {A : Type 0} → Dec A → Bool
is_yes (yes p) = true
is_yes (no n) = false

pub from_yes : {A : Type 0} (d : Dec A) → T (is_yes d) → A
from_yes (yes p) h = p
from_yes (no n) h = absurd h

abbrev pub every : {A : Type 0} → (A → Bool) → List A → Bool
every f [] = true
every f (x ∷ xs) = f x && every f xs

abbrev pub is_in : {A : Type 0} → ((x y : A) → Dec (x ≡ y)) → A → List A → Bool
is_in e a [] = false
is_in e a (x ∷ xs) = is_yes (e a x) || is_in e a xs

pub every_at : {A : Type 0} (e : (x y : A) → Dec (x ≡ y)) (f : A → Bool) (xs : List A) (a : A) → T (every f xs) → T (is_in e a xs) → T (f a)
every_at e f [] a h k = absurd k
every_at e f (x ∷ xs) a h k =
    let (h₀, h₁) = both (f x) (every f xs) h in
    ⊎_elim (λ y. subst (λ z. T (f z)) (sym (from_yes (e a x) y)) h₀) (λ y. every_at e f xs a h₁ y) (either (is_yes (e a x)) (is_in e a xs) k)

-- all entries of a type, which are told apart, and a test over them carried to each
pub record Listing (A : Type 0) : Type 0 where
  pub same : (x y : A) → Dec (x ≡ y)
  pub all : List A
  pub at : (f : A → Bool) → T (every f all) → (a : A) → T (f a)

pub at_two : {A : Type 0} (l : Listing A) (f : A → A → Bool) → T (every (λ a. every (f a) l.all) l.all) → (a b : A) → T (f a b)
at_two l f h a b = l.at (f a) (l.at (λ z. every (f z) l.all) h a) b

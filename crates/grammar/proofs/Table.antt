-- Tables of rules: every two of a table are apart, each matches in one way, and none matches where the table ends. One test each, which antt computes.
use Rattle.std.proofs.Common.{◌≡◌, ℕ, Bool, ◌||◌, T, List, ⊎_elim}
use Rattle.grammar.specs.Text.{Text}
use Rattle.grammar.specs.Rule.{Rule, Leaf, codes, Takes}
use Rattle.grammar.proofs.Classes.{either}
use Rattle.grammar.proofs.Apart.{apart, settled, apart_off}
use Rattle.grammar.proofs.Listing.{is_yes, from_yes, every, Listing, at_two}

abbrev one_of : {A : Type 0} → Listing A → (A → Rule) → A → A → Bool
one_of l f a b = is_yes (l.same a b) || apart (f a) (f b)

pub record Clear {A : Type 0} (l : Listing A) (f : A → Rule) : Type 0 where
  pub pairs : T (every (λ a. every (one_of l f a) l.all) l.all)
  pub settles : T (every (λ a. settled (f a)) l.all)

-- none of the table where the rule r matches
abbrev pub Ends : {A : Type 0} → Listing A → (A → Rule) → Rule → Type 0
Ends l f r = T (every (λ a. apart (f a) r) l.all)

pub one_entry :
    {A : Type 0} (l : Listing A) (f : A → Rule) → Clear l f → (t : Text) (p : ℕ) (a b : A) (ks hs : List Leaf) (q u : ℕ) → Takes t p (f a) ks q → Takes t p (f b) hs u → a ≡ b
one_entry l f k t p a b ks hs q u x y =
    ⊎_elim (λ h. from_yes (l.same a b) h) (λ h. absurd (apart_off (f a) (f b) h t p (codes ks) (codes hs) q u x.matches y.matches))
    (either (is_yes (l.same a b)) (apart (f a) (f b)) (at_two l (one_of l f) k.pairs a b))

pub settled_entry : {A : Type 0} (l : Listing A) (f : A → Rule) → Clear l f → (a : A) → T (settled (f a))
settled_entry l f k a = l.at (λ z. settled (f z)) k.settles a

pub no_entry : {A : Type 0} (l : Listing A) (f : A → Rule) (r : Rule) → Ends l f r → (t : Text) (p : ℕ) (a : A) (ks hs : List Leaf) (q u : ℕ) → Takes t p (f a) ks q → Takes t p r hs u → ⊥
no_entry l f r k t p a ks hs q u x y = apart_off (f a) r (l.at (λ z. apart (f z) r) k a) t p (codes ks) (codes hs) q u x.matches y.matches

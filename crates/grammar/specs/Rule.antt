-- The right-hand side of a production, and what it takes from a text. Assumes nothing.
use Rattle.std.specs.Prelude.{◌≡◌, ℕ, ◌+◌, ◌-◌, ◌*◌, Bool, true, false, cond, not, ◌&&◌, ◌||◌, T, List, [], ◌∷◌, ◌++◌, nat_le, nat_lt}
use Rattle.grammar.specs.Text.{Text, Spot, over, char}

-- CLASSES OF CHARACTERS

-- the code points from one number to another
abbrev pub Span : Type 0
Span = ℕ × ℕ

-- one of these; or SourceCharacter but not one of these
pub data Class : Type 0 where
  only : List Span → Class
  but : List Span → Class

abbrev pub within : ℕ → Span → Bool
within c s = nat_le s.0 c && nat_le c s.1

abbrev pub among : ℕ → List Span → Bool
among c [] = false
among c (s ∷ ss) = within c s || among c ss

abbrev pub member : ℕ → Class → Bool
member c (only ss) = among c ss
member c (but ss) = not (among c ss)

-- HexDigit :: one of 0 1 2 3 4 5 6 7 8 9 a b c d e f A B C D E F
abbrev pub hex_digits : List Span
hex_digits = (0x30, 0x39) ∷ (0x41, 0x46) ∷ (0x61, 0x66) ∷ []

abbrev pub hex_digit : Class
hex_digit = only hex_digits

-- THE MV OF DIGITS

abbrev pub digit : ℕ → ℕ
digit c = cond (nat_le c 0x39) (c - 0x30) (cond (nat_le c 0x46) (c - 0x41 + 10) (c - 0x61 + 10))

abbrev pub mv_from : ℕ → ℕ → List ℕ → ℕ
mv_from base v [] = v
mv_from base v (d ∷ ds) = mv_from base (v * base + digit d) ds

abbrev pub mv : ℕ → List ℕ → ℕ
mv base ds = mv_from base 0 ds

abbrev pub but_last : List ℕ → List ℕ
but_last [] = []
but_last (d ∷ []) = []
but_last (d ∷ e ∷ es) = d ∷ but_last (e ∷ es)

-- "but only if": the MV is at most a number; is above it; is above it, but not without the last digit
pub data Bound : Type 0 where
  at_most above just_above : ℕ → Bound

abbrev pub bounded : Bound → List ℕ → Bool
bounded (at_most n) ds = nat_le (mv 16 ds) n
bounded (above n) ds = nat_lt n (mv 16 ds)
bounded (just_above n) ds = nat_lt n (mv 16 ds) && nat_le (mv 16 (but_last ds)) n

-- HexDigits: at least one, within the bound
abbrev pub meets : Bound → List ℕ → Bool
meets b [] = false
meets b (d ∷ ds) = bounded b (d ∷ ds)

-- RULES

infixr 60 ◌▸◌
pub data Rule : Type 0 where
  -- the end of the rule. What stands behind is not taken: a character of the class or, if the mark is true, the text's end
  ahead : Class → Bool → Rule
  -- a character of the class, then the rest
  ◌▸◌ : Class → Rule → Rule
  -- HexDigits within the bound, then the rest
  digits : Bound → Rule → Rule

-- anything may stand behind
abbrev pub done : Rule
done = ahead (but []) true

-- [lookahead ∉ ss]
abbrev pub lookahead_not : List Span → Rule
lookahead_not ss = ahead (but ss) true

-- [lookahead ∈ ss]
abbrev pub lookahead : List Span → Rule
lookahead ss = ahead (only ss) false

-- the text's end
abbrev pub text_over : Rule
text_over = ahead (only []) true

-- no text is taken by it: the mark of an alternative that a production does not have
abbrev pub absent : Rule
absent = ahead (only []) false

abbrev pub Ahead : Spot → Class → Bool → Type 0
Ahead over k e = T e
Ahead (char c q) k e = T (member c k)

-- from p to q stand the hex digits ds
abbrev pub Run : Text → ℕ → List ℕ → ℕ → Type 0
Run t p [] q = p ≡ q
Run t p (d ∷ ds) q = (m : ℕ) × (t p ≡ char d m) × T (member d hex_digit) × Run t m ds q

-- from p to q the text has the characters cs, by the rule
abbrev pub Matches : Text → ℕ → Rule → List ℕ → ℕ → Type 0
Matches t p (ahead k e) cs q = (cs ≡ []) × (p ≡ q) × Ahead (t p) k e
Matches t p (k ▸ r) cs q = (c : ℕ) × (m : ℕ) × (es : List ℕ) × (t p ≡ char c m) × (cs ≡ c ∷ es) × T (member c k) × Matches t m r es q
Matches t p (digits b r) cs q = (ds : List ℕ) × (m : ℕ) × (es : List ℕ) × Run t p ds m × (cs ≡ ds ++ es) × T (meets b ds) × Matches t m r es q

-- LEAVES: the characters that a rule took, each with its place

pub record Leaf : Type 0 where
  pub place : ℕ
  pub code : ℕ

abbrev pub codes : List Leaf → List ℕ
codes [] = []
codes (l ∷ ls) = l.code ∷ codes ls

-- the leaves stand in the text in a row, from p to q
abbrev pub Stand : Text → ℕ → List Leaf → ℕ → Type 0
Stand t p [] q = p ≡ q
Stand t p (l ∷ ls) q = (l.place ≡ p) × ((m : ℕ) × (t p ≡ char l.code m) × Stand t m ls q)

-- from p to q the rule takes the leaves
pub record Takes (t : Text) (p : ℕ) (r : Rule) (ls : List Leaf) (q : ℕ) : Type 0 where
  pub matches : Matches t p r (codes ls) q
  pub stand : Stand t p ls q

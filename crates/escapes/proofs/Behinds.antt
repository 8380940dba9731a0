-- What each reader of an escape answers, from what it saw in the bytes. Assumes nothing.
use Rattle.std.proofs.Common.{◌≡◌, ℕ, zero, suc, ◌+◌, ◌*◌, ◌<◌, ◌≤◌, Bool, true, false, T, ◌⊎◌, List, [], ◌∷◌, length, drop, Some, None, Option, sym, refl, ap, ◌∙◌, Ok, Err, Result, subst, inl, inr, arith}
use Rattle.std.specs.Option.{MatchOption, unwrap_or}
use Rattle.std.specs.Result.{IsErrAnd}
use Rattle.std.proofs.lemmas.Result.{err_from_is_err_and}
use Rattle.std.proofs.lemmas.Bool.Decides.{nat_tests}
use Rattle.std.proofs.lemmas.Str.{len_utf8_ascii}
use Rattle.grammar.specs.Text.{char}
use Rattle.grammar.specs.Utf8.{utf8}
use Rattle.grammar.specs.Rule.{Ahead, but, mv, Run, hex_digits, just_above, meets}
use Rattle.grammar.specs.Production.{chars, octal_digits, code_point}
use Rattle.grammar.specs.Value.{utf16}
use Rattle.source.specs.Fronts.{Begins}
use Rattle.escapes.specs.Places.{At, Here, Stands}
use Rattle.escapes.specs.Digits.{Digit, DecimalAt, Digits, Skipped}
use Rattle.escapes.specs.Escapes.{Alone, Behind, Low, Leads, listed}
use Rattle.escapes.specs.declared.unicode.Units.{Units}
use Rattle.escapes.specs.declared.unicode.Units.TheVariants.{Nothing, One}
use Rattle.escapes.specs.declared.unicode.Given.{Given}
use Rattle.escapes.specs.declared.unicode.Invalid.{Invalid}
use Rattle.escapes.specs.declared.unicode.Lead.TheVariants.{Single, Nul, Octal, ZeroDecimal, Decimal, Other}
use Rattle.escapes.proofs.Looks.{stands_moves, stands_here, two_here, second_ahead}
use Rattle.escapes.proofs.Nodes

-- the two answers of a reader
abbrev pub gives : Units → ℕ → Result Given Invalid
gives us q = Ok (record { units = us; next = q })

abbrev pub invalid : ℕ → Result Given Invalid
invalid q = Err (record { next = q })

-- the error that a `?` hands on
pub same_err : {T E : Type 0} (r : Result T E) (e : E) → IsErrAnd r (λ y. y ≡ e) → r ≡ Err e
same_err r e h = let (y, f, k) = err_from_is_err_and r h in f ∙ ap Err k

step_to : (bs : List ℕ) (p c q : ℕ) → q ≡ p + 1 → Here bs p c → utf8 bs p ≡ char c q
step_to bs p c q e h = h.step ∙ ap (char c) (sym e)

at_to : (bs : List ℕ) (p c q : ℕ) → q ≡ p + 1 → Here bs p c → At bs q
at_to bs p c q e h = subst (At bs) (sym e) h.behind

module _ (bs : List ℕ) (p : ℕ) where
  -- line continuations, single and other characters

  pub line_break_lem : (m : Bool) (c q : ℕ) → Stands bs p c q → (c ≡ 10) ⊎ ((c ≡ 8232) ⊎ (c ≡ 8233)) → Behind m bs p (gives Nothing q)
  line_break_lem m c q s h = (inl (Nodes.alone_break m (utf8 bs) p c q s.step h), s.behind, stands_moves bs p c q s)

  pub single : (m d : Bool) (c q u : ℕ) → Stands bs p c q → Leads c d m (Single u) → Behind m bs p (gives (One u) q)
  single m d c q u s h = (inl (Nodes.alone_single m (utf8 bs) p c q u s.step h.0 h.1), s.behind, stands_moves bs p c q s)

  pub other : (m d : Bool) (c q : ℕ) (us : Units) → Stands bs p c q → Leads c d m Other → listed us ≡ utf16 c → Behind m bs p (gives us q)
  other m d c q us s (inl h) e = (inl (Nodes.alone_other m (utf8 bs) p c q (listed us) s.step h e), s.behind, stands_moves bs p c q s)
  other m d c q us s (inr h) e =
      subst (λ (z : Bool). Behind z bs p (gives us q)) (sym h.1)
      (inl (Nodes.non_octal (utf8 bs) p c q (listed us) s.step h.0 e), s.behind, stands_moves bs p c q s)

  pub crlf : (m : Bool) (q : ℕ) → Here bs p 13 → Begins 13 10 (drop p bs) × (q ≡ p + 2) → Behind m bs p (gives Nothing q)
  crlf m q h (b, e) =
      let k = (two_here bs p 13 10 h.at (omega arith) (omega arith) b).1 in
      let f : q ≡ p + 1 + 1 = omega arith in
      (inl (Nodes.alone_crlf m (utf8 bs) p (p + 1) q h.step (step_to bs (p + 1) 10 q f k)), at_to bs (p + 1) 10 q f k, omega arith)

  pub return : (m : Bool) → Here bs p 13 → (Begins 13 10 (drop p bs) → ⊥) → Behind m bs p (gives Nothing (p + 1))
  return m h n = (inl (Nodes.alone_return m (utf8 bs) p (p + 1) h.step (second_ahead bs p 13 10 (omega arith) h n)), h.behind, omega arith)

  pub return_by : (m : Bool) (r : Option ℕ) → Here bs p 13 → MatchOption r (Begins 13 10 (drop p bs) → ⊥) (λ q. Begins 13 10 (drop p bs) × (q ≡ p + 2)) → Behind m bs p (gives Nothing (unwrap_or r (p + 1)))
  return_by m None h n = return m h n
  return_by m (Some q) h k = crlf m q h k

  -- `x`

  pub hex_all : (m : Bool) (v q : ℕ) → Here bs p 120 → (d : Digits bs (p + 1) v q) → length d.chars ≡ 2 → Behind m bs p (gives (One v) q)
  hex_all m v q h d l = (inl (Nodes.hex_all m (utf8 bs) p q v d.chars h.step d.run l d.value), d.behind, omega (arith, d.moves))

  pub hex_short : (m : Bool) (v q : ℕ) → Here bs p 120 → (d : Digits bs (p + 1) v q) → length d.chars < 2 → Ahead (utf8 bs q) (but hex_digits) true → Behind m bs p (invalid q)
  hex_short m v q h d l a = (Nodes.hex_short m (utf8 bs) p q d.chars h.step d.run l a, d.behind, omega (arith, d.moves))

  -- `u` and four digits

  pub unit_all : (m : Bool) (v q : ℕ) (us : Units) → Here bs p 117 → (d : Digits bs (p + 1) v q) → length d.chars ≡ 4 → listed us ≡ v ∷ [] → Behind m bs p (gives us q)
  unit_all m v q us h d l k =
      (inl (subst (λ (z : List ℕ). Alone m (utf8 bs) p z q) (sym k) (Nodes.unit_all m (utf8 bs) p q v d.chars h.step d.run l d.value)), d.behind, omega (arith, d.moves))

  pub unit_short : (m : Bool) (v q : ℕ) → Here bs p 117 → Ahead (utf8 bs (p + 1)) (but (chars "{")) true → (d : Digits bs (p + 1) v q) → length d.chars < 4 → Ahead (utf8 bs q) (but hex_digits) true → Behind m bs p (invalid q)
  unit_short m v q h k d l a = (Nodes.unit_short m (utf8 bs) p q d.chars h.step k d.run l a, d.behind, omega (arith, d.moves))

  pub unit_pair : (m : Bool) (v n w q : ℕ) (us : Units) → Here bs p 117 → (d : Digits bs (p + 1) v n) → length d.chars ≡ 4 → Low bs n w q → listed us ≡ v ∷ w ∷ [] → Behind m bs p (gives us q)
  unit_pair m v n w q us h d l y k =
      let e : n + 2 ≡ n + 1 + 1 = omega arith in (
        inr (record {
          middle = n;
          second = n + 1;
          highs = 117 ∷ d.chars;
          lows = 117 ∷ y.digits.chars;
          first_matches = Nodes.four (utf8 bs) p n d.chars h.step d.run l;
          backslash = y.backslash.step;
          second_matches = Nodes.four (utf8 bs) (n + 1) q y.digits.chars y.letter.step (subst (λ (z : ℕ). Run (utf8 bs) z y.digits.chars q) e y.digits.run) y.four;
          units = k ∙ ap (λ (z : ℕ). z ∷ w ∷ []) d.value ∙ ap (λ (z : ℕ). mv 16 d.chars ∷ z ∷ []) y.digits.value;
        }),
        y.digits.behind,
        omega (arith, d.moves, y.digits.moves),
      )

  -- `u{`

  brace : Here bs (p + 1) 123 → utf8 bs (p + 1) ≡ char 123 (p + 2)
  brace k = step_to bs (p + 1) 123 (p + 2) (omega arith) k

  pub braces_none : (m : Bool) → Here bs p 117 → Here bs (p + 1) 123 → Ahead (utf8 bs (p + 2)) (but hex_digits) true → Behind m bs p (invalid (p + 2))
  braces_none m h k a = (Nodes.braces_none m (utf8 bs) p (p + 2) h.step (brace k) a, at_to bs (p + 1) 123 (p + 2) (omega arith) k, omega arith)

  pub braces_lift : (m : Bool) (v q : ℕ) → m ≡ false → Here bs p 117 → Here bs (p + 1) 123 → (d : Digits bs (p + 2) v q) → T (meets (just_above 0x10FFFF) d.chars) → Behind m bs p (invalid q)
  braces_lift m v q i h k d l =
      subst (λ (z : Bool). Behind z bs p (invalid q)) (sym i) (Nodes.braces_lift (utf8 bs) p (p + 2) q d.chars h.step (brace k) d.run l, d.behind, omega (arith, d.moves))

  pub braces_over : (m : Bool) (v n q : ℕ) → m ≡ true → Here bs p 117 → Here bs (p + 1) 123 → (d : Digits bs (p + 2) v n) → T (meets (just_above 0x10FFFF) d.chars) → Skipped bs n q → Behind m bs p (invalid q)
  braces_over m v n q i h k d l (w, e, a) =
      subst (λ (z : Bool). Behind z bs p (invalid q)) (sym i)
      (Nodes.braces_over (utf8 bs) p (p + 2) n q d.chars e.chars h.step (brace k) d.run l e.run a, e.behind, omega (arith, d.moves, e.moves))

  pub braces_all : (m : Bool) (v n : ℕ) (us : Units) → Here bs p 117 → Here bs (p + 1) 123 → (d : Digits bs (p + 2) v n) → T (meets code_point d.chars) → Here bs n 125 → listed us ≡ utf16 v → Behind m bs p (gives us (n + 1))
  braces_all m v n us h k d c g e =
      (inl (Nodes.braces_all m (utf8 bs) p (p + 2) n (n + 1) v d.chars (listed us) h.step (brace k) d.run c g.step d.value e), g.behind, omega (arith, d.moves))

  pub braces_open : (m : Bool) (v q : ℕ) → Here bs p 117 → Here bs (p + 1) 123 → (d : Digits bs (p + 2) v q) → T (meets code_point d.chars) → Ahead (utf8 bs q) (but hex_digits) true → Ahead (utf8 bs q) (but (chars "}")) true → Behind m bs p (invalid q)
  braces_open m v q h k d c a b = (Nodes.braces_open m (utf8 bs) p (p + 2) q d.chars h.step (brace k) d.run c a b, d.behind, omega (arith, d.moves))

  -- digits

  pub nul : (m d : Bool) (c q : ℕ) → Stands bs p c q → Leads c d m Nul → DecimalAt bs q d → Behind m bs p (gives (One 0) q)
  nul m d c q s (e, i) a = (inl (Nodes.alone_nul m (utf8 bs) p q (s.step ∙ ap (λ (z : ℕ). char z q) e) (subst (DecimalAt bs q) i a)), s.behind, stands_moves bs p c q s)

  pub zero_decimal_lem : (m d : Bool) (c q : ℕ) → Stands bs p c q → Leads c d m ZeroDecimal → DecimalAt bs q d → Behind m bs p (invalid (q + 1))
  zero_decimal_lem m d c q s (e, j, i) w =
      let (x, k, b) = subst (DecimalAt bs q) j w in
      subst (λ (z : Bool). Behind z bs p (invalid (q + 1))) (sym i)
      (Nodes.zero_decimal_lem (utf8 bs) p q x (q + 1) (s.step ∙ ap (λ (z : ℕ). char z q) e) k.step b, k.behind, omega (arith, stands_moves bs p c q s))

  pub not_zero : (m d : Bool) (c q : ℕ) → Stands bs p c q → Leads c d m Decimal → Behind m bs p (invalid q)
  not_zero m d c q s h = subst (λ (z : Bool). Behind z bs p (invalid q)) (sym h.1) (Nodes.not_zero (utf8 bs) p c q s.step h.0, s.behind, stands_moves bs p c q s)

  pub octal_one : (v : ℕ) → Digit octal_digits bs p v → (v ≡ 0 → DecimalAt bs (p + 1) true) → Ahead (utf8 bs (p + 1)) (but octal_digits) true → Behind false bs p (gives (One v) (p + 1))
  octal_one v d z a = (inl (go v d z), d.here.behind, omega arith)
    where
      go : (v : ℕ) (d : Digit octal_digits bs p v) → (v ≡ 0 → DecimalAt bs (p + 1) true) → Alone false (utf8 bs) p (v ∷ []) (p + 1)
      go zero d z = let (b, k, i) = z refl in Nodes.octal_zero (utf8 bs) p d.char (p + 1) b (p + 1 + 1) 0 d.here.step d.belongs (sym d.value) k.step i a d.value
      go (suc v) d z = Nodes.octal_one (utf8 bs) p d.char (p + 1) (suc v) d.here.step d.belongs (omega (arith, d.value)) a d.value

  pub octal_high : (v w : ℕ) → Digit octal_digits bs p v → 3 < v → Digit octal_digits bs (p + 1) w → Behind false bs p (gives (One (v * 8 + w)) (p + 2))
  octal_high v w d l f =
      let e : p + 2 ≡ p + 1 + 1 = omega arith in (
        inl (Nodes.octal_two_high (utf8 bs) p d.char (p + 1) f.char (p + 2) (v * 8 + w) d.here.step d.belongs (omega (arith, d.value)) (step_to bs (p + 1) f.char (p + 2) e f.here) f.belongs (omega (arith, d.value, f.value))),
        at_to bs (p + 1) f.char (p + 2) e f.here,
        omega arith,
      )

  pub octal_low : (v w : ℕ) → Digit octal_digits bs p v → v ≤ 3 → Digit octal_digits bs (p + 1) w → Ahead (utf8 bs (p + 2)) (but octal_digits) true → Behind false bs p (gives (One (v * 8 + w)) (p + 2))
  octal_low v w d l f a =
      let e : p + 2 ≡ p + 1 + 1 = omega arith in (
        inl (Nodes.octal_two_low (utf8 bs) p d.char (p + 1) f.char (p + 2) (v * 8 + w) d.here.step d.belongs (omega (arith, d.value)) (step_to bs (p + 1) f.char (p + 2) e f.here) f.belongs a (omega (arith, d.value, f.value))),
        at_to bs (p + 1) f.char (p + 2) e f.here,
        omega arith,
      )

  pub octal_three : (v w x : ℕ) → Digit octal_digits bs p v → v ≤ 3 → Digit octal_digits bs (p + 1) w → Digit octal_digits bs (p + 2) x → Behind false bs p (gives (One ((v * 8 + w) * 8 + x)) (p + 3))
  octal_three v w x d l f g =
      let e : p + 2 ≡ p + 1 + 1 = omega arith in
      let i : p + 3 ≡ p + 2 + 1 = omega arith in (
        inl (Nodes.octal_three (utf8 bs) p d.char (p + 1) f.char (p + 2) g.char (p + 3) ((v * 8 + w) * 8 + x) d.here.step d.belongs (omega (arith, d.value)) (step_to bs (p + 1) f.char (p + 2) e f.here) f.belongs (step_to bs (p + 2) g.char (p + 3) i g.here) g.belongs (omega (arith, d.value, f.value, g.value))),
        at_to bs (p + 2) g.char (p + 3) i g.here,
        omega arith,
      )

-- a unit is its own UTF-16
pub utf16_unit : (v : ℕ) → v < 65536 → utf16 v ≡ v ∷ []
utf16_unit v l = grind (arith, nat_tests)

-- the place behind `\u`, from where the trial began
pub prefix_at : (bs bs' : List ℕ) (p p' a : ℕ) → p' ≡ p → bs' ≡ bs → At bs p → Begins 92 117 (drop p' bs') → a ≡ p' + 2 → Here bs p 92 × Here bs (p + 1) 117 × At bs a
prefix_at bs bs' p p' a e f x b i =
    let b₁ = subst (λ (z : List ℕ). Begins 92 117 (drop p z)) f (subst (λ (z : ℕ). Begins 92 117 (drop z bs')) e b) in
    let (h, k) = two_here bs p 92 117 x (omega arith) (omega arith) b₁ in
    (h, k, at_to bs (p + 1) 117 a (omega arith) k)

-- a low half, with the places that the trial saw
pub low_by : (bs bs' : List ℕ) (p p' a l q r : ℕ) → p' ≡ p → bs' ≡ bs → At bs p → Begins 92 117 (drop p' bs') → a ≡ p' + 2 → (x : Digits bs a l q) → length x.chars ≡ 4 → r ≡ q → 56320 ≤ l → l ≤ 57343 → Low bs p l r
low_by bs bs' p p' a l q r e f x b i d n g u v =
    let (h, k, _) = prefix_at bs bs' p p' a e f x b i in
    let j : a ≡ p + 2 = omega arith in
    let y = subst (λ (z : ℕ). (y : Digits bs z l r) × (length y.chars ≡ 4)) j (subst (λ (z : ℕ). (y : Digits bs a l z) × (length y.chars ≡ 4)) (sym g) (d, n)) in
    record { backslash = h; letter = k; digits = y.0; four = y.1; low = u; high = v }

-- a character that is a certain one of ASCII
pub here_of : (bs : List ℕ) (p c q k : ℕ) → Stands bs p c q → c ≡ k → k < 128 → Here bs p k
here_of bs p c q k s e l = subst (Here bs p) e (stands_here bs p c q s (omega arith))

-- an octal digit
pub octal_of : (bs : List ℕ) (p c q v : ℕ) (d m : Bool) → Stands bs p c q → Leads c d m (Octal v) → DecimalAt bs q d
    → Digit octal_digits bs p v × ((v < 8) × (v ≡ 0 → DecimalAt bs (p + 1) true))
octal_of bs p c q v d m s (h, e, _, z) w =
    let o = Nodes.octal_value c h in
    let x = stands_here bs p c q s (omega arith) in
    let n : q ≡ p + 1 = s.moves ∙ ap (λ (i : ℕ). p + i) (len_utf8_ascii c (omega arith)) in (
      record { char = c; here = x; belongs = h; value = e },
      (omega arith, λ i. subst (λ (j : ℕ). DecimalAt bs j true) n (subst (DecimalAt bs q) (z i) w)),
    )

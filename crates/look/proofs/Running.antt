-- A literal run through, piece by piece. Assumes nothing.
use Rattle.std.proofs.Common.{◌≡◌, ℕ, ◌+◌, ◌<◌, ◌≤◌, Bool, true, false, cond, ◌&&◌, ◌||◌, List, [], ◌∷◌, ◌++◌, length, is_some, Some, None, Option, sym, refl, ◌∙◌, subst, ap₂, arith, length-append}
use Rattle.grammar.specs.Utf8.{utf8}
use Rattle.grammar.specs.Value.{joined}
use Rattle.grammar.specs.Outcome.{Fault, fault, invalid_escape}
use Rattle.std.specs.Str.{IsCharBoundary}
use Rattle.grammar.specs.Literal.{Body}
use Rattle.escapes.specs.Escapes.{Part, is_template}
use Rattle.escapes.proofs.Parts.{part_join, no_step}
use Rattle.pieces.specs.Plain.{Plain, spelt, utf16s}
use Rattle.pieces.specs.Pieces.{body_of, ending_of, Ends, StopRead, PieceRead}
use Rattle.pieces.specs.declared.piece.Opening.{Opening}
use Rattle.pieces.specs.declared.piece.Piece.{Piece}
use Rattle.source.specs.declared.cursor.Cursor.{Cursor}
use Rattle.look.specs.Goes.{PassedRead, faults_at}
use Rattle.look.specs.Runs.{Upto, Ran}
use Rattle.look.specs.Units.{Opened}
use Rattle.look.specs.declared.go.Passed.{Passed}
use Rattle.look.specs.declared.run.Tally.{Tally}
use Rattle.look.specs.declared.run.Run.{Run}

some_joined : (u v : Option (List ℕ)) → is_some (joined u v) ≡ (is_some u && is_some v)
some_joined None v = refl
some_joined (Some us) None = refl
some_joined (Some us) (Some vs) = refl

or_false : (b : Bool) → (b || false) ≡ b
or_false true = refl
or_false false = refl

and_true : (b : Bool) → (b && true) ≡ b
and_true true = refl
and_true false = refl

pub upto_none : (bs : List ℕ) (start : ℕ) (o : Opening) (at : ℕ) → at ≡ start + 1 → Upto bs start o at (record { faults = 0; cooked = true; marked = false })
upto_none bs start o at e =
    record { units = Some []; faults = []; part = subst (Part (body_of o) (utf8 bs) (start + 1) (Some []) [] false) (sym e) (no_step (body_of o) (utf8 bs) (start + 1)); faulted = refl; cooked = refl }

-- plain characters count nothing
pub upto_plain : (bs : List ℕ) (start : ℕ) (o : Opening) (p q : ℕ) (t : Tally) → Upto bs start o p t → Plain (body_of o) bs p q → Upto bs start o q t
upto_plain bs start o p q t x y =
    let v = Some (utf16s (spelt bs p q)) in
    let z = part_join (body_of o) (utf8 bs) (start + 1) p q x.units v x.faults [] t.marked false x.part y.part in
    record {
      units = joined x.units v;
      faults = x.faults ++ [];
      part = subst (λ b. Part (body_of o) (utf8 bs) (start + 1) (joined x.units v) (x.faults ++ []) b q) (or_false t.marked) z;
      faulted = let n = length-append x.faults [] in omega (arith, x.faulted);
      cooked = x.cooked ∙ sym (some_joined x.units v ∙ and_true (is_some x.units));
    }

one_or_none : (f : Fault) (b : Bool) → length (cond b (f ∷ []) []) ≡ cond b 1 0
one_or_none f true = refl
one_or_none f false = refl

abbrev Counted : Tally → Passed → Tally → Type 0
Counted t w r = (r.faults ≡ t.faults + cond w.faulty 1 0) × (r.cooked ≡ (t.cooked && w.cooked)) × (r.marked ≡ (t.marked || w.marked))

pub upto_on : (bs : List ℕ) (start : ℕ) (o : Opening) (p q : ℕ) (t r : Tally) (w : Passed) → Upto bs start o p t → Plain (body_of o) bs p q → PassedRead (body_of o) bs q w → Counted t w r → Upto bs start o w.next r
upto_on bs start o p q t r w x y h (a, b, c) =
    let x₁ = upto_plain bs start o p q t x y in
    let z = part_join (body_of o) (utf8 bs) (start + 1) q w.next x₁.units h.units x₁.faults (faults_at q w) t.marked w.marked x₁.part h.on.part in
    record {
      units = joined x₁.units h.units;
      faults = x₁.faults ++ faults_at q w;
      part = subst (λ m. Part (body_of o) (utf8 bs) (start + 1) (joined x₁.units h.units) (x₁.faults ++ faults_at q w) m w.next) (sym c) z;
      faulted = let n = length-append x₁.faults (faults_at q w) in omega (arith, x₁.faulted, one_or_none (fault invalid_escape q w.next) w.faulty);
      cooked = b ∙ ap₂ ◌&&◌ x₁.cooked h.cooked ∙ sym (some_joined x₁.units h.units);
    }

pub one_more : (w : Passed) → cond w.faulty 1 0 ≤ 1
one_more w = go w.faulty
  where
    go : (b : Bool) → cond b 1 0 ≤ 1
    go true = omega arith
    go false = omega arith

-- A PIECE THAT IS PASSED

-- what next_piece told of a cursor, of bytes that are its own
pub piece_in : (bs : List ℕ) (o : Opening) (k : Cursor) (y : Piece) → k.bytes.now ≡ bs → PieceRead (body_of o) k.bytes.now k.place.at y.to y.stop → PieceRead (body_of o) bs k.place.at y.to y.stop
piece_in bs o k y e x = subst (λ z. PieceRead (body_of o) z k.place.at y.to y.stop) e x

-- a cursor k, moved behind the stop of its piece, stands at `at`
pub record On (bs : List ℕ) (o : Opening) (k : Cursor) (y : Piece) (w : Passed) (at : ℕ) : Type 0 where
  pub plain : Plain (body_of o) bs k.place.at y.to
  pub passed : PassedRead (body_of o) bs y.to w
  pub place : at ≡ w.next
  pub moves : k.place.at < at
  pub within : at ≤ length bs

pub on :
    (bs : List ℕ) (o : Opening) (k : Cursor) (y : Piece) (w : Passed) (m : Bool) (at : ℕ) → k.bytes.now ≡ bs → PieceRead (body_of o) k.bytes.now k.place.at y.to y.stop → m ≡ is_template (body_of o)
    → ((b : Body) (bs : List ℕ) (p : ℕ) → is_template b ≡ m → StopRead b bs p y.stop → PassedRead b bs p w) → (IsCharBoundary k.bytes.now w.next → at ≡ w.next) → On bs o k y w at
on bs o k y w m at e x f g h =
    let z = piece_in bs o k y e x in
    let v = g (body_of o) bs y.to (sym f) z.stop in
    let i = h (subst (λ c. IsCharBoundary c w.next) (sym e) v.on.behind.boundary) in
    record { plain = z.plain; passed = v; place = i; moves = omega (arith, z.plain.order, v.on.moves); within = omega (arith, v.on.behind.boundary.0) }

-- THE LOOP, from p₀ on

pub reached_on :
    (bs : List ℕ) (o : Opening) (p₀ : ℕ) (k : Cursor) (y : Piece) (w : Passed) (at : ℕ) (t r : Tally) → On bs o k y w at → Counted t w r → t.faults ≤ k.place.at → ((start : ℕ) → p₀ ≡ start + 1 → Upto bs start o k.place.at t)
    → (r.faults ≤ at) × ((start : ℕ) → p₀ ≡ start + 1 → Upto bs start o at r)
reached_on bs o p₀ k y w at t r d c n x = (
  omega (arith, c.0, one_more w, d.moves),
  λ start e. subst (λ z. Upto bs start o z r) (sym d.place) (upto_on bs start o k.place.at y.to t r w (x start e) d.plain d.passed c),
)

pub ran :
    (bs : List ℕ) (start : ℕ) (o : Opening) (p q : ℕ) (r : Run) → Opened bs start o → Plain (body_of o) bs p q → Ends (body_of o) bs q (ending_of r.ending) r.end → r.tally.faults ≤ p → Upto bs start o p r.tally → Ran bs start o r
ran bs start o p q r l y h n x = record { opened = l; stop = q; upto = upto_plain bs start o p q r.tally x y; ends = h; few = omega (arith, y.order, y.behind.boundary.0) }

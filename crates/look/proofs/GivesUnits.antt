-- The reader of units, read by read. Assumes nothing.
use Rattle.std.proofs.Common.{◌≡◌, ℕ, ◌+◌, ◌-◌, ◌*◌, ◌<◌, ◌≤◌, false, ◌||◌, List, [], ◌∷◌, ◌++◌, length, Some, None, Option, sym, refl, ap, ◌∙◌, subst, ap₂, append_assoc, arith}
use Rattle.std.proofs.Math.Logic.{∥∥₁_elim}
use Rattle.std.proofs.Math.Bridge.{le_prop}
use Rattle.std.specs.Iterator.{Yields, Drains}
use Rattle.std.specs.Str.{IsCharBoundary}
use Rattle.grammar.specs.Text.{char}
use Rattle.grammar.specs.Utf8.{utf8}
use Rattle.grammar.specs.Value.{utf16, joined}
use Rattle.source.specs.Texts.{CharAt}
use Rattle.source.specs.declared.cursor.Cursor.{Cursor}
use Rattle.escapes.specs.Places.{At}
use Rattle.escapes.specs.Escapes.{Part, listed}
use Rattle.escapes.specs.declared.unicode.Given.{Given}
use Rattle.escapes.specs.declared.unicode.Units.{Units}
use Rattle.escapes.specs.declared.unicode.Units.TheVariants.{Nothing, One, Two}
use Rattle.std.proofs.lemmas.List.{append-nil}
use Rattle.escapes.proofs.Parts.{part_join}
use Rattle.escapes.proofs.Looks.{stands_by, stands_moves}
use Rattle.pieces.specs.Plain.{spelt, utf16s}
use Rattle.pieces.specs.Pieces.{scan_of, body_of, StopRead, PieceRead}
use Rattle.pieces.specs.declared.piece.Opening.{Opening}
use Rattle.pieces.specs.declared.piece.Piece.{Piece}
use Rattle.look.specs.Units.{Opened, Holds, GivenRead, Sofar, AllGiven, Gave, GaveAll, Same, Gives, CountedUnits, unread, togo}
use Rattle.look.specs.declared.literal.Literal.{Literal}
use Rattle.look.specs.declared.units.UnitReader.{UnitReader}
use Rattle.look.proofs.Opens.{place}
use Rattle.look.proofs.Spelt.{spelt_step, spelt_none}

joined_some : (u v : Option (List ℕ)) (ws : List ℕ) → joined u v ≡ Some ws → (us : List ℕ) × (vs : List ℕ) × (u ≡ Some us) × (v ≡ Some vs) × (ws ≡ us ++ vs)
joined_some None v ws e = absurd (let z : ◌≡◌ {A = ℕ} 0 1 = cc in omega arith)
joined_some (Some us) None ws e = absurd (let z : ◌≡◌ {A = ℕ} 0 1 = cc in omega arith)
joined_some (Some us) (Some vs) ws e = (us, vs, refl, refl, cc)

holds_join : (u v : Option (List ℕ)) (xs ys : List ℕ) → Holds u xs → Holds v ys → Holds (joined u v) (xs ++ ys)
holds_join u v xs ys h k ws e = let (us, vs, i, j, f) = joined_some u v ws e in f ∙ ap₂ ◌++◌ (h us i) (k vs j)

holds_self : (xs : List ℕ) → Holds (Some xs) xs
holds_self xs us i = cc

holds_by : (u : Option (List ℕ)) (xs ys : List ℕ) → xs ≡ ys → Holds u xs → Holds u ys
holds_by u xs ys e h us i = h us i ∙ e

-- the start
pub sofar_new : (bs : List ℕ) (start : ℕ) (o : Opening) (at : ℕ) (y : Piece) → Opened bs start o → at ≡ start + 1 → PieceRead (body_of o) bs at y.to y.stop → Sofar bs start o at y [] []
sofar_new bs start o at y d e x =
    record {
      opened = d;
      units = Some (utf16s (spelt bs at y.to));
      faults = [];
      mark = false;
      part = subst (λ (z : ℕ). Part (body_of o) (utf8 bs) z (Some (utf16s (spelt bs at y.to))) [] false y.to) e x.plain.part;
      holds = holds_self (utf16s (spelt bs at y.to));
      from = at;
      read = x;
    }

-- a pending unit is given
sofar_taken : (bs : List ℕ) (start : ℕ) (o : Opening) (at : ℕ) (y : Piece) (u : ℕ) (ps us : List ℕ) → Sofar bs start o at y (u ∷ ps) us → Sofar bs start o at y ps (us ++ u ∷ [])
sofar_taken bs start o at y u ps us x =
    record {
      opened = x.opened;
      units = x.units;
      faults = x.faults;
      mark = x.mark;
      part = x.part;
      holds = holds_by x.units _ _ (sym (append_assoc us (u ∷ []) (ps ++ utf16s (spelt bs at y.to)))) x.holds;
      from = x.from;
      read = x.read;
    }

-- a character of the piece is read
sofar_plain : (bs : List ℕ) (start : ℕ) (o : Opening) (at : ℕ) (y : Piece) (us : List ℕ) (c q : ℕ) → Sofar bs start o at y [] us → At bs at → at < y.to → utf8 bs at ≡ char c q → Sofar bs start o q y (utf16 c) us
sofar_plain bs start o at y us c q x a l e =
    let (_, j) = spelt_step bs at y.to c q a x.read.plain.behind l e in
    record {
      opened = x.opened;
      units = x.units;
      faults = x.faults;
      mark = x.mark;
      part = x.part;
      holds = holds_by x.units _ _ (ap (λ (z : List ℕ). us ++ utf16s z) j) x.holds;
      from = x.from;
      read = x.read;
    }

-- all of a piece is given
done : (bs us : List ℕ) (at to : ℕ) → to ≤ at → us ++ ([] ++ utf16s (spelt bs at to)) ≡ us
done bs us at to l = ap (λ (z : List ℕ). us ++ utf16s z) (spelt_none bs at to l) ∙ append-nil us

-- the stop behind it and the next piece are read
sofar_stop :
    (bs : List ℕ) (start : ℕ) (o : Opening) (at : ℕ) (y z : Piece) (g : Given) (us : List ℕ) → Sofar bs start o at y [] us → y.to ≤ at → GivenRead (body_of o) bs y.to (Some g)
    → PieceRead (body_of o) bs g.next z.to z.stop → Sofar bs start o g.next z (listed g.units) us
sofar_stop bs start o at y z g us x l (u, fs, m, on, h) n =
    let w = g.units in
    let next = g.next in
    let v = Some (utf16s (spelt bs next z.to)) in
    let p = part_join (body_of o) (utf8 bs) (start + 1) y.to next x.units u x.faults fs x.mark m x.part on.part in
    let first = holds_by x.units _ us (done bs us at y.to l) x.holds in
    record {
      opened = x.opened;
      units = joined (joined x.units u) v;
      faults = (x.faults ++ fs) ++ [];
      mark = (x.mark || m) || false;
      part = part_join (body_of o) (utf8 bs) (start + 1) next z.to (joined x.units u) v (x.faults ++ fs) [] (x.mark || m) false p n.plain.part;
      holds =
          holds_by (joined (joined x.units u) v) _ _ (append_assoc us (listed w) (utf16s (spelt bs next z.to)))
          (holds_join (joined x.units u) v (us ++ listed w) (utf16s (spelt bs next z.to)) (holds_join x.units u us (listed w) first h) (holds_self (utf16s (spelt bs next z.to))));
      from = next;
      read = n;
    }

-- the end
pub all_given : (bs : List ℕ) (start : ℕ) (o : Opening) (at : ℕ) (y : Piece) (us : List ℕ) → Sofar bs start o at y [] us → y.to ≤ at → GivenRead (body_of o) bs y.to None → AllGiven bs start o us
all_given bs start o at y us x l (e, q, h) =
    record {
      read = record { scan = scan_of o; from = start; opens = x.opened.leaves; start = start + 1; steps = x.part.nodes; stop = y.to; ending = e; ends = h.leaves; to = q };
      reading = record { opened = x.opened.takes; stepped = x.part.chain; ended = h.takes };
      starts = refl;
      scans = refl;
      value = λ vs i. holds_by x.units _ us (done bs us at y.to l) x.holds vs (sym x.part.units ∙ i);
    }

-- THE SAME OF READERS

-- what a stop gives, whatever the text
abbrev pub Stopped : UnitReader → Option Given → Type 0
Stopped r g = GivenRead (body_of r.opening) r.cursor.bytes.now r.piece.to g

pub few : (w : Units) → length (listed w) ≤ 2
few Nothing = omega arith
few (One u) = omega arith
few (Two u v) = omega arith

-- a text's units, however they are read: two a byte at most, which is the limit of a text
pub togo_few : (r : UnitReader) → togo r ≤ 33554433
togo_few r = omega (arith, r.few, r.cursor.short, r.cursor.boundary.0)

-- a cursor that moved on brings a reader nearer to the end, and no more units are to come
pub nearer :
    (r : UnitReader) (k : Cursor) (w : Units) → k.bytes.now ≡ r.cursor.bytes.now → listed r.pending ≡ [] → r.cursor.place.at < k.place.at
    → (length k.bytes.now - k.place.at < unread r) × (2 * (length k.bytes.now - k.place.at) + length (listed w) ≤ togo r)
nearer r k w e n l =
    let m = ap length e in
    let z : length (listed r.pending) ≡ 0 = ap length n in
    (omega (arith, k.boundary.0), omega (arith, few w, k.boundary.0))

-- a character: where it stands, and that it stands in the piece
pub record Read (r : UnitReader) (k : Cursor) (c : ℕ) : Type 0 where
  pub at : At r.cursor.bytes.now r.cursor.place.at
  pub step : utf8 r.cursor.bytes.now r.cursor.place.at ≡ char c k.place.at
  pub moves : r.cursor.place.at < k.place.at
  pub order : k.place.at ≤ r.piece.to

pub read : (r : UnitReader) (k : Cursor) (c q : ℕ) → r.cursor.place.at < r.piece.to → CharAt r.cursor.bytes.now r.cursor.place.at (Some (c, q)) → (IsCharBoundary r.cursor.bytes.now q → k.place.at ≡ q) → Read r k c
read r k c q l h m =
    let bs = r.cursor.bytes.now in
    let at = r.cursor.place.at in
    let d = stands_by bs bs at at c q refl refl r.cursor.well r.cursor.boundary h in
    let e : k.place.at ≡ q = m d.behind.boundary in
    let b : IsCharBoundary bs r.piece.to = ∥∥₁_elim r.read (hlevel (le_prop)) (λ (f, x). x.plain.behind.boundary) in
    let (o, _) = spelt_step bs at r.piece.to c q d.at (place bs r.piece.to r.cursor.well b) l d.step in
    let n = stands_moves bs at c q d in
    record { at = d.at; step = subst (λ z. utf8 bs at ≡ char c z) (sym e) d.step; moves = omega arith; order = omega arith }

pub gave_plain :
    (r : UnitReader) (k : Cursor) (c : ℕ) (w : Units) (start : ℕ) (us : List ℕ) → listed r.pending ≡ [] → r.cursor.place.at < r.piece.to → Read r k c → k.bytes.now ≡ r.cursor.bytes.now → listed w ≡ utf16 c → Gave r start us
    → Sofar k.bytes.now start r.opening k.place.at r.piece (listed w) us
gave_plain r k c w start us e l d i f x =
    let bs = r.cursor.bytes.now in
    let o = r.opening in
    let y = subst (λ z. Sofar bs start o r.cursor.place.at r.piece z us) e x in
    let z = subst (λ z. Sofar bs start o k.place.at r.piece z us) (sym f) (sofar_plain bs start o r.cursor.place.at r.piece us c k.place.at y d.at l d.step) in
    subst (λ b. Sofar b start o k.place.at r.piece (listed w) us) (sym i) z

-- a stop: where the literal goes on
pub passes : (r : UnitReader) (g : Given) → (StopRead (body_of r.opening) r.cursor.bytes.now r.piece.to r.piece.stop → Stopped r (Some g)) → IsCharBoundary r.cursor.bytes.now g.next × (r.piece.to < g.next)
passes r g k = ∥∥₁_elim r.read (hlevel (le_prop)) (λ (f, x). let (u, fs, m, on, h) = k x.stop in (on.behind.boundary, on.moves))

pub gave_stop :
    (r : UnitReader) (k : Cursor) (y : Piece) (g : Given) (start : ℕ) (us : List ℕ) → listed r.pending ≡ [] → r.piece.to ≤ r.cursor.place.at → (StopRead (body_of r.opening) r.cursor.bytes.now r.piece.to r.piece.stop → Stopped r (Some g))
    → k.bytes.now ≡ r.cursor.bytes.now → k.place.at ≡ g.next → PieceRead (body_of r.opening) k.bytes.now k.place.at y.to y.stop → Gave r start us → Sofar k.bytes.now start r.opening k.place.at y (listed g.units) us
gave_stop r k y g start us e l h j i n x =
    let bs = r.cursor.bytes.now in
    let o = r.opening in
    let z = subst (λ z. Sofar bs start o r.cursor.place.at r.piece z us) e x in
    let m = subst (λ q. PieceRead (body_of o) bs q y.to y.stop) i (subst (λ b. PieceRead (body_of o) b k.place.at y.to y.stop) j n) in
    let s = subst (λ q. Sofar bs start o q y (listed g.units) us) (sym i) (sofar_stop bs start o r.cursor.place.at r.piece y g us z l (h x.read.stop) m) in
    subst (λ b. Sofar b start o k.place.at y (listed g.units) us) (sym j) s

pub gave_all :
    (r : UnitReader) (start : ℕ) (us : List ℕ) → listed r.pending ≡ [] → r.piece.to ≤ r.cursor.place.at → (StopRead (body_of r.opening) r.cursor.bytes.now r.piece.to r.piece.stop → Stopped r None) → Gave r start us → GaveAll r start us
gave_all r start us e l g x =
    let bs = r.cursor.bytes.now in
    all_given bs start r.opening r.cursor.place.at r.piece us (subst (λ z. Sofar bs start r.opening r.cursor.place.at r.piece z us) e x) l (g x.read.stop)

-- a pending unit
pub gave_taken : (r : UnitReader) (w : Units) (u start : ℕ) (us : List ℕ) → listed r.pending ≡ u ∷ listed w → Gave r start us → Sofar r.cursor.bytes.now start r.opening r.cursor.place.at r.piece (listed w) (us ++ u ∷ [])
gave_taken r w u start us e x =
    let bs = r.cursor.bytes.now in
    let o = r.opening in
    sofar_taken bs start o r.cursor.place.at r.piece u (listed w) us (subst (λ z. Sofar bs start o r.cursor.place.at r.piece z us) e x)

-- A RUN OF CALLS

-- calls give units that follow those that were given
pub gave_along : (r s : UnitReader) (start : ℕ) (us xs : List ℕ) → Gave r start us → Yields Gives r xs s → Same s r × Gave s start (us ++ xs)
gave_along r s start us [] g y =
    ((ap (λ z. z.cursor.bytes.now) (sym y), ap (λ z. z.opening) (sym y)), subst (λ z. Gave z start (us ++ [])) y (subst (Gave r start) (sym (append-nil us)) g))
gave_along r s start us (x ∷ xs) g (j, h, y) =
    let (e, k) = gave_along j s start (us ++ x ∷ []) xs (h.1 start us g) y in
    ((e.0 ∙ h.0.0, e.1 ∙ h.0.1), subst (Gave s start) (append_assoc us (x ∷ []) xs) k)

-- and up to `None` they are all of them
pub gave_drained : (r : UnitReader) (start : ℕ) (xs : List ℕ) → Gave r start [] → Drains Gives r xs → GaveAll r start xs
gave_drained r start xs g (u, (s, y, n)) =
    let (e, k) = gave_along r s start [] xs g y in
    subst (λ o. AllGiven r.cursor.bytes.now start o xs) e.1 (subst (λ b. AllGiven b start s.opening xs) e.0 (n.1 start xs k))

-- those of a literal that was found
pub given_in : (l : Literal) (r : UnitReader) (xs : List ℕ) → (r.cursor ≡ l.inside) × (r.opening ≡ l.opening) → Gave r l.start [] → Drains Gives r xs → AllGiven l.inside.bytes.now l.start l.opening xs
given_in l r xs (e, f) g d = subst (λ o. AllGiven l.inside.bytes.now l.start o xs) f (subst (λ k. AllGiven k.bytes.now l.start r.opening xs) e (gave_drained r l.start xs g d))

pub counted : (l : Literal) (r : UnitReader) (xs : List ℕ) (n : ℕ) → (r.cursor ≡ l.inside) × (r.opening ≡ l.opening) → Gave r l.start [] → Drains Gives r xs → n ≡ length xs → CountedUnits l.inside.bytes.now l.start l.opening n
counted l r xs n e g d i =
    let x = given_in l r xs e g d in
    record { read = x.read; reading = x.reading; starts = x.starts; count = λ us j. i ∙ ap length (sym (x.value us j)) }

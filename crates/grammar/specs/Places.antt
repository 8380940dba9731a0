-- The places of readings and derivations in UTF-8 bytes. Assumes nothing.
use Rattle.std.specs.Prelude.{ℕ, ◌<◌, List, IsUtf8, Option, ◌≢◌}
use Rattle.std.specs.Str.{IsCharBoundary}
use Rattle.grammar.specs.Utf8.{utf8}
use Rattle.grammar.specs.Literal.{Kind, Tree, Derivation}
use Rattle.grammar.specs.Reading.{Read, Reading}

-- in well-formed UTF-8 bytes a reading's start and end are boundaries, and the end is further on; so of a derivation

abbrev pub ReadingsStand : Type 0
ReadingsStand = (bs : List ℕ) (r : Read) → IsUtf8 bs → Reading (utf8 bs) r → (r.from < r.to) × IsCharBoundary bs r.from × IsCharBoundary bs r.to

abbrev pub DerivationsStand : Type 0
DerivationsStand =
    (bs : List ℕ) (start : ℕ) (k : Kind) (e : ℕ) (d : Tree) (u : Option (List ℕ)) → IsUtf8 bs → Derivation (utf8 bs) start k e d u → (start < e) × IsCharBoundary bs start × IsCharBoundary bs e

-- nothing is derived or read from a place that is no boundary, of any bytes
abbrev pub NothingOffBoundaries : Type 0
NothingOffBoundaries =
    (bs : List ℕ) (p : ℕ) → (IsCharBoundary bs p → ⊥)
    → ((k : Kind) (e : ℕ) (d : Tree) (u : Option (List ℕ)) → Derivation (utf8 bs) p k e d u → ⊥) × ((r : Read) → Reading (utf8 bs) r → r.from ≢ p)

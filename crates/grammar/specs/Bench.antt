-- The bench: literals, and what their readings tell. Assumes nothing.
use Rattle.std.specs.Prelude.{◌≡◌, ℕ, Bool, true, false, cond, List, [], ◌∷◌, ◌++◌, Some, None, codes, Option}
use Rattle.std.specs.List.{AllByRecursion}
use Rattle.grammar.specs.Utf8.{utf8}
use Rattle.grammar.specs.Literal.{Kind, str, no_substitution_template, template_head, Derivable}
use Rattle.grammar.specs.Reading.{Scan, double_scan, template_scan, Read, Reading}
use Rattle.grammar.specs.Outcome.{Fault, fault, unterminated, invalid_escape, kind_read, end_read, faults_read, units_read, mark_read, entry_read}

pub record Told : Type 0 where
  pub kind : Option Kind
  pub end : ℕ
  pub faults : List Fault
  pub units : Option (List ℕ)
  pub mark : Bool
  pub entry : Option (Option (List ℕ))

abbrev pub tells : Read → Told
tells r = record { kind = kind_read r; end = end_read r; faults = faults_read r; units = units_read r; mark = mark_read r; entry = entry_read r }

-- bytes, the scan at place 0, and what it is to tell
pub record Case : Type 0 where
  pub bytes : List ℕ
  pub scan : Scan
  pub told : Told

-- the codes of ASCII characters are their bytes

abbrev string : List ℕ → ℕ → List Fault → List ℕ → Case
string bs e fs us = record { bytes = bs; scan = double_scan; told = record { kind = Some str; end = e; faults = fs; units = Some us; mark = true; entry = Some (Some us) } }

abbrev broken : List ℕ → ℕ → List Fault → List ℕ → Case
broken bs e fs us = record { bytes = bs; scan = double_scan; told = record { kind = None; end = e; faults = fs; units = Some us; mark = false; entry = None } }

abbrev template : List ℕ → Kind → ℕ → Option (List ℕ) → Bool → Case
template bs k e us m = record { bytes = bs; scan = template_scan; told = record { kind = Some k; end = e; faults = []; units = us; mark = m; entry = cond m (Some us) None } }

abbrev pub bench : List Case
bench =
    -- "a\x41"
    string (codes "\"a\\x41\"") 7 [] (0x61 ∷ 0x41 ∷ [])
    -- "\08"
    ∷ string (codes "\"\\08\"") 5 [] (0x00 ∷ 0x38 ∷ [])
    -- "\477"
    ∷ string (codes "\"\\477\"") 6 [] (0x27 ∷ 0x37 ∷ [])
    -- "\uD83D\uDE00"
    ∷ string (codes "\"\\uD83D\\uDE00\"") 14 [] (0xD83D ∷ 0xDE00 ∷ [])
    -- "\u{D83D}\u{DE00}"
    ∷ string (codes "\"\\u{D83D}\\u{DE00}\"") 18 [] (0xD83D ∷ 0xDE00 ∷ [])
    -- "\u{110000}"
    ∷ string (codes "\"\\u{110000}\"") 12 (fault invalid_escape 1 10 ∷ []) (0x7D ∷ [])
    -- "ab and LF
    ∷ broken (codes "\"ab" ++ 0x0A ∷ []) 4 (fault unterminated 0 4 ∷ []) (0x61 ∷ 0x62 ∷ [])
    -- "\ and the text's end
    ∷ broken (codes "\"\\") 2 (fault unterminated 0 2 ∷ fault unterminated 0 2 ∷ []) []
    -- `a CR LF b`
    ∷ template (codes "`a" ++ 0x0D ∷ 0x0A ∷ codes "b`") no_substitution_template 6 (Some (0x61 ∷ 0x0A ∷ 0x62 ∷ [])) true
    -- `\07`
    ∷ template (codes "`\\07`") no_substitution_template 5 None true
    -- `a$${
    ∷ template (codes "`a$${") template_head 5 (Some (0x61 ∷ 0x24 ∷ [])) false
    ∷ []

-- from place 0 the text is read so
abbrev pub Stands : Case → Type 0
Stands c = (r : Read) × Reading (utf8 c.bytes) r × (r.scan ≡ c.scan) × (r.from ≡ 0) × (tells r ≡ c.told)

abbrev pub BenchStands : Type 0
BenchStands = AllByRecursion Stands bench

-- those of a kind and without a fault are derived by the standard, so; those with a fault are not derived at all
abbrev pub Derived : Case → Type 0
Derived c =
    ((k : Kind) → c.told.kind ≡ Some k → c.told.faults ≡ [] → Derivable (utf8 c.bytes) 0 k c.told.end c.told.units)
    × ((k : Kind) (e : ℕ) (u : Option (List ℕ)) → Derivable (utf8 c.bytes) 0 k e u → c.told.faults ≡ [])

abbrev pub BenchDerived : Type 0
BenchDerived = AllByRecursion Derived bench

-- Worked examples of WTF-8, when its bytes are text, and the way back. Assumes nothing.
use Rattle.std.specs.Prelude.{◌≡◌, ℕ, true, List, [], ◌∷◌, map, Some, None, IsUtf8, Option}
use Rattle.std.proofs.Math.Utf8.{scalars}
use Rattle.grammar.specs.Bench.{bench, BenchStands}
use Rattle.store.specs.Held.{Narrow}
use Rattle.coding.specs.Codes.{points, wtf8, units}

pub record Worked : Type 0 where
  pub pair : wtf8 (55357 ∷ 56832 ∷ []) ≡ 240 ∷ 159 ∷ 152 ∷ 128 ∷ []
  pub turned : wtf8 (56832 ∷ 55357 ∷ []) ≡ 237 ∷ 184 ∷ 128 ∷ 237 ∷ 160 ∷ 189 ∷ []
  pub twice : wtf8 (55357 ∷ 55357 ∷ 56832 ∷ []) ≡ 237 ∷ 160 ∷ 189 ∷ 240 ∷ 159 ∷ 152 ∷ 128 ∷ []
  pub plain : wtf8 (97 ∷ 233 ∷ 8364 ∷ []) ≡ 97 ∷ 195 ∷ 169 ∷ 226 ∷ 130 ∷ 172 ∷ []
  pub back : units (240 ∷ 159 ∷ 152 ∷ 128 ∷ []) ≡ 55357 ∷ 56832 ∷ []

-- the bytes are text exactly where no half stands alone
abbrev pub TextWhenPaired : Type 0
TextWhenPaired = (us : List ℕ) → (scalars (points us) ≡ true → IsUtf8 (wtf8 us)) × (IsUtf8 (wtf8 us) → scalars (points us) ≡ true)

-- no unit is lost
abbrev pub ReadsBack : Type 0
ReadsBack = (us : List ℕ) → Narrow us → units (wtf8 us) ≡ us

-- the bench's values as WTF-8: the literals are read as listed, and the bytes of each one's value are these
abbrev pub stored : Option (List ℕ) → Option (List ℕ)
stored (Some us) = Some (wtf8 us)
stored None = None

abbrev pub in_bytes : List (Option (List ℕ))
in_bytes =
    Some (0x61 ∷ 0x41 ∷ [])
    ∷ Some (0x00 ∷ 0x38 ∷ [])
    ∷ Some (0x27 ∷ 0x37 ∷ [])
    ∷ Some (0xF0 ∷ 0x9F ∷ 0x98 ∷ 0x80 ∷ [])
    ∷ Some (0xF0 ∷ 0x9F ∷ 0x98 ∷ 0x80 ∷ [])
    ∷ Some (0x7D ∷ [])
    ∷ Some (0x61 ∷ 0x62 ∷ [])
    ∷ Some []
    ∷ Some (0x61 ∷ 0x0A ∷ 0x62 ∷ [])
    ∷ None
    ∷ Some (0x61 ∷ 0x24 ∷ [])
    ∷ []

abbrev pub BenchInBytes : Type 0
BenchInBytes = BenchStands × (map (λ c. stored c.told.units) bench ≡ in_bytes)

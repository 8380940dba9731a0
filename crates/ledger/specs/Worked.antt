-- Worked lives: the law speaks of something. The weight is the number of units. Assumes nothing.
use Rattle.std.specs.Prelude.{ℕ, true, false, List, [], ◌∷◌, ◌++◌, length, Some, None, codes}
use Rattle.faults.specs.declared.list.Fault.{Fault}
use Rattle.faults.specs.declared.list.FaultKind.{FaultKind}
use Rattle.faults.specs.declared.list.FaultKind.TheVariants.{Unterminated, InvalidEscape}
use Rattle.tokens.specs.declared.Kind.{Kind}
use Rattle.tokens.specs.declared.Kind.TheVariants.{Undetermined, Str, NoSubstitutionTemplate}
use Rattle.ledger.specs.Calls.{string, template, resumption, scan, value, unit, fault_count, fault_at, Reply, token, valued, united, counted, faulted, refused, Exchange, says}
use Rattle.ledger.specs.Ledger.{Limits, Ledger}
use Rattle.ledger.specs.Life.{Lived}

-- a string with a value, a template with one, a template of which none is cooked, and a string with a bad escape
abbrev pub script : List ℕ
script = codes "\"a\\x41\" `b\\x42` `\\07` \"\\u{110000}\""

abbrev pub limits : ℕ → ℕ → ℕ → ℕ → ℕ → Limits
limits r s t p c = record { records = r; string_slots = s; template_slots = t; places = p; capacity = c }

-- a value stored before the making
abbrev pub stored : List (List ℕ)
stored = (0x31 ∷ 0x32 ∷ []) ∷ []

abbrev pub escaped : ℕ → ℕ → Kind → Reply
escaped s e k = token (record { start = s; end = e; kind = k; escaped = true })

abbrev pub fault : FaultKind → ℕ → ℕ → Fault
fault k p q = record { kind = k; from = p; to = q }

-- a life with room: literals are stored and told, a rescan stores nothing and records its faults again, and the refusals 3, 4, 5, 8 and 9
abbrev pub long_past : List Exchange
long_past =
    says (scan string 0) (escaped 0 7 Str) ∷ says (value 0) (valued true 2) ∷ says (unit 0 1) (united 0x41) ∷ says (unit 0 2) (refused 5)
    ∷ says (scan template 8) (escaped 8 15 NoSubstitutionTemplate) ∷ says (value 8) (valued true 2) ∷ says (unit 8 0) (united 0x62)
    ∷ says (scan template 16) (escaped 16 21 NoSubstitutionTemplate) ∷ says (value 16) (valued false 0) ∷ says (unit 16 0) (refused 5)
    ∷ says (scan string 22) (escaped 22 34 Str) ∷ says (value 22) (valued true 1) ∷ says (unit 22 0) (united 0x7D)
    ∷ says fault_count (counted 1) ∷ says (fault_at 0) (faulted (fault InvalidEscape 23 32)) ∷ says (fault_at 1) (refused 5)
    ∷ says (scan string 22) (escaped 22 34 Str) ∷ says fault_count (counted 2) ∷ says (scan string 22) (refused 9) ∷ says (scan string 0) (escaped 0 7 Str)
    ∷ says (scan resumption 34) (refused 3) ∷ says (scan string 1) (refused 4) ∷ says (scan template 0) (refused 4) ∷ says (value 1) (refused 8) ∷ says (unit 1 0) (refused 8) ∷ []

abbrev pub long_held : Ledger
long_held = record {
  values = (0x31 ∷ 0x32 ∷ []) ∷ (0x61 ∷ 0x41 ∷ []) ∷ (0x62 ∷ 0x42 ∷ []) ∷ (0x7D ∷ []) ∷ [];
  draft = [];
  faults = fault InvalidEscape 23 32 ∷ fault InvalidEscape 23 32 ∷ [];
  strings = (0, 1) ∷ (22, 3) ∷ [];
  templates = (8, Some 2) ∷ (16, None) ∷ [];
}

abbrev pub ALongLife : Type 0
ALongLife = Lived length (limits 2 2 2 4 7) script stored long_past (limits 2 2 2 4 7) long_held

-- no slot, no place, no capacity: the refusals 10, 11 and 12, and what needs none of them goes on

abbrev pub bare : List (List ℕ) → Ledger
bare vs = record { values = vs; draft = []; faults = []; strings = []; templates = [] }

abbrev pub WithoutSlots : Type 0
WithoutSlots = Lived length (limits 2 0 1 4 7) script stored (says (scan string 0) (refused 10) ∷ says (value 0) (refused 8) ∷ []) (limits 2 0 1 4 7) (bare stored)

abbrev pub WithoutPlaces : Type 0
WithoutPlaces =
    Lived length (limits 2 2 2 1 7) script stored
    (says (scan string 0) (refused 11) ∷ says (scan template 16) (escaped 16 21 NoSubstitutionTemplate) ∷ says (value 16) (valued false 0) ∷ says (value 0) (refused 8) ∷ [])
    (limits 2 2 2 1 7) (record { values = stored; draft = []; faults = []; strings = []; templates = (16, None) ∷ [] })

abbrev pub WithoutCapacity : Type 0
WithoutCapacity = Lived length (limits 2 2 2 4 3) script stored (says (scan string 0) (refused 12) ∷ says fault_count (counted 0) ∷ []) (limits 2 2 2 4 3) (bare stored)

-- an unterminated literal stores nothing, and needs its record alone
abbrev pub BrokenOff : Type 0
BrokenOff =
    Lived length (limits 1 0 0 0 0) (codes "\"\\x41" ++ 0x0A ∷ []) []
    (says (scan string 0) (token (record { start = 0; end = 6; kind = Undetermined; escaped = false })) ∷ says (value 0) (refused 8) ∷ says (fault_at 0) (faulted (fault Unterminated 0 6)) ∷ says (scan string 0) (refused 9) ∷ [])
    (limits 1 0 0 0 0) (record { values = []; draft = []; faults = fault Unterminated 0 6 ∷ []; strings = []; templates = [] })

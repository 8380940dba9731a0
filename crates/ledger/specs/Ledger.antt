-- The ledger of a session's life: what it holds, what a call needs, what is free, and what a call replies and leaves.
-- It is reckoned from the script, the limits, the store's weight, the values stored at the making and the calls. Assumes nothing.
use Rattle.std.specs.Prelude.{◌≡◌, ℕ, ◌+◌, ◌-◌, ◌<◌, ◌≤◌, Bool, true, false, cond, not, ◌&&◌, ◌||◌, List, [], ◌∷◌, ◌++◌, length, is_some, Some, None, Ok, Err, Option, Result, ◌==◌, nat_lt, slice_index, slice_index_or}
use Rattle.grammar.specs.Utf8.{utf8}
use Rattle.grammar.specs.Reading.{Scan, double_scan, single_scan, template_scan, Read, Reading}
use Rattle.grammar.specs.Reading as reading
use Rattle.grammar.specs.Outcome.{kind_read, mark_read, faults_read, units_read}
use Rattle.faults.specs.declared.list.Fault.{Fault}
use Rattle.faults.specs.Records.{fault_told}
use Rattle.tokens.specs.declared.Token.{Token}
use Rattle.tokens.specs.Grammar.{named, recorded}
use Rattle.slots.specs.Entries.{lookup}
use Rattle.store.specs.Held.{weighed}
use Rattle.ledger.specs.Calls.{Sort, string, template, resumption, Call, scan, value, unit, fault_count, fault_at, Reply, token, valued, united, counted, faulted, refused}

-- how much may be held: fault records, slots of each table, finished values, and what all values may weigh
pub record Limits : Type 0 where
  pub records : ℕ
  pub string_slots : ℕ
  pub template_slots : ℕ
  pub places : ℕ
  pub capacity : ℕ

-- what is held: the finished values, the open one, the faults, and the entries of both tables. An entry has a start and its value's number; a template's number may be none
pub record Ledger : Type 0 where
  pub values : List (List ℕ)
  pub draft : List ℕ
  pub faults : List Fault
  pub strings : List (ℕ × ℕ)
  pub templates : List (ℕ × Option ℕ)

-- at the making: the values stored before it, and nothing else
abbrev pub made : List (List ℕ) → Ledger
made vs = record { values = vs; draft = []; faults = []; strings = []; templates = [] }

-- the token of a reading
abbrev pub token_of : Read → Token
token_of r = record { start = r.from; end = r.to; kind = named (kind_read r); escaped = mark_read r }

-- the sort of a scan, and the table that it uses

abbrev pub sort_of : Scan → Sort
sort_of double_scan = string
sort_of single_scan = string
sort_of template_scan = template
sort_of reading.resumption = resumption

abbrev pub of_string : Sort → Bool
of_string string = true
of_string template = false
of_string resumption = false

abbrev pub in_strings : Read → Bool
in_strings r = of_string (sort_of r.scan)

abbrev pub has_entry : Ledger → Read → Bool
has_entry l r = cond (in_strings r) (is_some (lookup l.strings r.from)) (is_some (lookup l.templates r.from))

-- WHAT A LITERAL NEEDS

-- an entry: it is escaped, and its start has none
abbrev pub needs_entry : Ledger → Read → Bool
needs_entry l r = mark_read r && not (has_entry l r)

-- a value stored: it needs an entry, and a value is cooked
abbrev pub needs_value : Ledger → Read → Bool
needs_value l r = needs_entry l r && is_some (units_read r)

abbrev pub units : Option (List ℕ) → List ℕ
units None = []
units (Some us) = us

-- a record for each fault, again at each scan
abbrev pub needed_records : Read → ℕ
needed_records r = length (recorded (faults_read r))

abbrev pub needed_slots : Ledger → Read → ℕ
needed_slots l r = cond (needs_entry l r) 1 0

abbrev pub needed_places : Ledger → Read → ℕ
needed_places l r = cond (needs_value l r) 1 0

abbrev pub needed_weight : (List ℕ → ℕ) → Ledger → Read → ℕ
needed_weight w l r = cond (needs_value l r) (w (units (units_read r))) 0

-- WHAT IS FREE

abbrev pub free_records : Limits → Ledger → ℕ
free_records m l = m.records - length l.faults

abbrev pub free_slots : Limits → Ledger → Read → ℕ
free_slots m l r = cond (in_strings r) (m.string_slots - length l.strings) (m.template_slots - length l.templates)

abbrev pub free_places : Limits → Ledger → ℕ
free_places m l = m.places - length l.values

abbrev pub free_capacity : (List ℕ → ℕ) → Limits → Ledger → ℕ
free_capacity w m l = m.capacity - (weighed w l.values + w l.draft)

-- the first need that exceeds what is free, by its refusal's number: faults 9, slot 10, place 11, weight 12
abbrev pub exceeded : (List ℕ → ℕ) → Limits → Ledger → Read → Option ℕ
exceeded w m l r =
    cond (nat_lt (free_records m l) (needed_records r)) (Some 9)
    (cond (nat_lt (free_slots m l r) (needed_slots l r)) (Some 10)
    (cond (nat_lt (free_places m l) (needed_places l r)) (Some 11)
    (cond (nat_lt (free_capacity w m l) (needed_weight w l r)) (Some 12)
    None)))

-- WHAT A SCAN ADDS

-- the number of the value stored next, or none where none is cooked
abbrev pub next_number : Ledger → Option (List ℕ) → Option ℕ
next_number l None = None
next_number l (Some us) = Some (length l.values)

-- its faults; where it needs an entry, one at its start; where it needs a value stored, one finished value more, whose number the entry holds
abbrev pub added : Ledger → Read → Ledger
added l r = record {
  values = l.values ++ cond (needs_value l r) (units (units_read r) ∷ []) [];
  draft = l.draft;
  faults = l.faults ++ recorded (faults_read r);
  strings = l.strings ++ cond (needs_entry l r && in_strings r) ((r.from, length l.values) ∷ []) [];
  templates = l.templates ++ cond (needs_entry l r && not (in_strings r)) ((r.from, next_number l (units_read r)) ∷ []) [];
}

-- THE SCANS

-- the bytes that a scan may open with: a quote, a backtick, a closing brace
abbrev pub opens : Sort → ℕ → Bool
opens string b = b == 34 || b == 39
opens template b = b == 96
opens resumption b = b == 125

-- a scan whose needs are met or not: turned down, it adds nothing; else it answers its token
abbrev pub Decided : Option ℕ → Read → Ledger → Reply → Ledger → Type 0
Decided (Some n) r l a l' = (a ≡ refused n) × (l' ≡ l)
Decided None r l a l' = (a ≡ token (token_of r)) × (l' ≡ added l r)

-- what a scan from s replies and leaves
pub record Scanned (w : List ℕ → ℕ) (m : Limits) (text : List ℕ) (k : Sort) (s : ℕ) (l : Ledger) (a : Reply) (l' : Ledger) : Type 0 where
  -- the start is at the text's end or past it
  pub outside : length text ≤ s → (a ≡ refused 3) × (l' ≡ l)
  -- another byte stands there
  pub unopened : s < length text → opens k (slice_index text s) ≡ false → (a ≡ refused 4) × (l' ≡ l)
  -- else there is a reading of the literal, and its needs decide
  pub opened :
      s < length text → opens k (slice_index text s) ≡ true
      → (r : Read) × Reading (utf8 text) r × (r.from ≡ s) × (sort_of r.scan ≡ k) × Decided (exceeded w m l r) r l a l'

-- THE QUESTIONS

-- the entry at a start, in either table: none, or a value's number or none
abbrev pub number_by : Option ℕ → Option (Option ℕ) → Option (Option ℕ)
number_by (Some n) o = Some (Some n)
number_by None o = o

abbrev pub number_at : Ledger → ℕ → Option (Option ℕ)
number_at l s = number_by (lookup l.strings s) (lookup l.templates s)

-- what is kept at a start: nothing; an entry with no value; or the units of its value
abbrev pub value_numbered : Ledger → Option ℕ → Option (List ℕ)
value_numbered l None = None
value_numbered l (Some n) = Some (slice_index_or l.values n [])

abbrev pub kept_by : Ledger → Option (Option ℕ) → Option (Option (List ℕ))
kept_by l None = None
kept_by l (Some o) = Some (value_numbered l o)

abbrev pub kept_at : Ledger → ℕ → Option (Option (List ℕ))
kept_at l s = kept_by l (number_at l s)

-- what the value question and the unit question say of units, or none
abbrev pub value_told : Option (List ℕ) → Reply
value_told None = valued false 0
value_told (Some us) = valued true (length us)

abbrev pub unit_told : Option (List ℕ) → ℕ → Reply
unit_told v i = cond (nat_lt i (length (units v))) (united (slice_index (units v) i)) (refused 5)

abbrev pub value_asked : Option (Option (List ℕ)) → Reply
value_asked None = refused 8
value_asked (Some v) = value_told v

abbrev pub unit_asked : Option (Option (List ℕ)) → ℕ → Reply
unit_asked None i = refused 8
unit_asked (Some v) i = unit_told v i

abbrev pub fault_by : Result Fault ℕ → Reply
fault_by (Ok f) = faulted f
fault_by (Err n) = refused n

abbrev pub fault_asked : List Fault → ℕ → Reply
fault_asked fs i = fault_by (fault_told fs i)

-- a question is answered, and leaves all as it was
abbrev pub Asked : Reply → Ledger → Reply → Ledger → Type 0
Asked is l a l' = (a ≡ is) × (l' ≡ l)

-- WHAT A CALL REPLIES AND LEAVES
abbrev pub Step : (List ℕ → ℕ) → Limits → List ℕ → Ledger → Call → Reply → Ledger → Type 0
Step w m text l (scan k s) a l' = Scanned w m text k s l a l'
Step w m text l (value s) a l' = Asked (value_asked (kept_at l s)) l a l'
Step w m text l (unit s i) a l' = Asked (unit_asked (kept_at l s) i) l a l'
Step w m text l fault_count a l' = Asked (counted (length l.faults)) l a l'
Step w m text l (fault_at i) a l' = Asked (fault_asked l.faults i) l a l'

-- The parts of a scan: what is put into the store, what is entered, and what is recorded. Assumes nothing.
use Rattle.std.specs.Prelude.{◌≡◌, ℕ, Bool, true, false, not, ◌&&◌, ◌⊎◌, List, [], ◌∷◌, ◌++◌, length, drop, is_some, slice_index, Some, None, Ok, Err, Option, Result}
use Rattle.refusals.specs.declared.Refusal.{Refusal}
use Rattle.refusals.specs.Numbers.{number_of, numbered}
use Rattle.grammar.specs.Reading.{Read}
use Rattle.grammar.specs.Outcome.{units_read}
use Rattle.source.specs.declared.text.Text.{Text}
use Rattle.tokens.specs.declared.Token.{Token}
use Rattle.look.specs.declared.literal.Literal.{Literal}
use Rattle.look.specs.declared.answer.Scan.{Scan}
use Rattle.look.specs.Looked.{opens, suits, LookedAt}
use Rattle.pieces.specs.Pieces.{scan_of}
use Rattle.faults.specs.declared.list.Fault.{Fault}
use Rattle.faults.specs.declared.list.FaultList.{FaultList}
use Rattle.faults.specs.Records as faulty
use Rattle.slots.specs.declared.map.SlotMap.{SlotMap}
use Rattle.slots.specs.Entries.{has_slot, lookup}
use Rattle.slots.specs.Views as slotted
use Rattle.store.specs.Held.{Held, holding, dropped, closed, in_room, has_place, kept, keep_told}
use Rattle.session.specs.declared.Session.{Session}
use Rattle.session.specs.declared.seen.Seen.{Seen}
use Rattle.session.specs.Literals.{IsRead}

abbrev pub bytes_of : Text → List ℕ
bytes_of t = t.bytes.now

-- what a scan sees at a start: a literal that opens there, and the look at it
abbrev pub Sees : List ℕ → ℕ → Scan → Seen → Type 0
Sees text s k x =
    (x.literal.inside.bytes.now ≡ text) × (x.literal.start ≡ s) × (x.scan ≡ k) × (opens k (slice_index text s) ≡ true) × (suits k (scan_of x.literal.opening) ≡ true)
    × LookedAt x.literal.inside.bytes.now x.literal.start x.literal.opening x.look

-- the units of a literal, stored as a value at once
abbrev pub Stores : (List ℕ → ℕ) → Literal → Held → Result ℕ Refusal → Held → Type 0
Stores w l h a h' = (r : Read) (us : List ℕ) → IsRead l r → units_read r ≡ Some us → (numbered a ≡ keep_told w h us) × (h' ≡ kept w h us)

-- a value, or none, is put, and this is its number, or none; or it is not put, for want of a place or of capacity

abbrev pub Put : (List ℕ → ℕ) → Held → Option (List ℕ) → Option ℕ → Held → Type 0
Put w h None o h' = (o ≡ None) × (h' ≡ h)
Put w h (Some us) o h' = (o ≡ Some (length h.values)) × (has_place h ≡ true) × (in_room w (holding h us) ≡ true) × (h' ≡ closed (holding h us))

abbrev pub Unput : (List ℕ → ℕ) → Held → Option (List ℕ) → ℕ → Held → Type 0
Unput w h None n h' = ⊥
Unput w h (Some us) n h' =
    ((n ≡ 11) × (has_place h ≡ false) × (h' ≡ h))
    ⊎ ((n ≡ 12) × (has_place h ≡ true) × (in_room w (holding h us) ≡ false) × (h' ≡ dropped h))

-- a map with one entry more
pub record Entered {V : Type 0} (x : SlotMap V) (s : ℕ) (v : V) (x' : SlotMap V) : Type 0 where
  pub free : has_slot (slotted.entries_of x) (slotted.room_of x) ≡ true
  pub entries : slotted.entries_of x' ≡ slotted.entries_of x ++ ((s, v) ∷ [])
  pub past : drop 4096 (slotted.slots_of x') ≡ drop 4096 (slotted.slots_of x)
  pub room : slotted.room_of x' ≡ slotted.room_of x

-- a list with these faults more
pub record Recorded (x : FaultList) (fs : List Fault) (x' : FaultList) : Type 0 where
  pub faults : faulty.faults_of x' ≡ faulty.faults_of x ++ fs
  pub unwritten : fs ≡ [] → faulty.records_of x' ≡ faulty.records_of x
  pub past : drop 4096 (faulty.records_of x') ≡ drop 4096 (faulty.records_of x)
  pub room : faulty.room_of x' ≡ faulty.room_of x

-- a value, or none, is filed in a map under a start: it is put and entered; or there is no slot, or it is not put, and the map is as it was
abbrev pub Files : {V : Type 0} → (Option ℕ → V → Type 0) → (List ℕ → ℕ) → SlotMap V → Held → ℕ → Option (List ℕ) → Result (Unit {0}) Refusal → SlotMap V → Held → Type 0
Files {V} holds w x h s u (Ok t) x' h' = (o : Option ℕ) × (v : V) × holds o v × Put w h u o h' × Entered x s v x'
Files holds w x h s u (Err e) x' h' =
    (x' ≡ x)
    × (((number_of e ≡ 10) × (has_slot (slotted.entries_of x) (slotted.room_of x) ≡ false) × (h' ≡ h))
    ⊎ ((has_slot (slotted.entries_of x) (slotted.room_of x) ≡ true) × Unput w h u (number_of e) h'))

-- filed where an entry is needed, and else nothing is done
abbrev pub Needed : {V : Type 0} → Bool → (Option ℕ → V → Type 0) → (List ℕ → ℕ) → SlotMap V → Held → ℕ → Option (List ℕ) → Result (Unit {0}) Refusal → SlotMap V → Held → Type 0
Needed false holds w x h s u a x' h' = (a ≡ Ok tt) × (x' ≡ x) × (h' ≡ h)
Needed true holds w x h s u a x' h' = Files holds w x h s u a x' h'

-- a literal needs an entry: it is escaped, and its start has none in the map
abbrev pub needs : {V : Type 0} → Token → SlotMap V → Bool
needs t x = t.escaped && not (is_some (lookup (slotted.entries_of x) t.start))

-- a string's entry is a number, a template's a number or none

abbrev pub AsNumber : Option ℕ → ℕ → Type 0
AsNumber o n = o ≡ Some n

abbrev pub AsOption : Option ℕ → Option ℕ → Type 0
AsOption o p = o ≡ p

-- a literal's value, or none, is kept in the table of strings or in that of templates, where an entry is needed; the other table and the faults stay
abbrev pub Keeps : Bool → (List ℕ → ℕ) → Session → Held → Token → Option (List ℕ) → Result (Unit {0}) Refusal → Session → Held → Type 0
Keeps true w x h t u a x' h' = Needed (needs t x.strings) AsNumber w x.strings h t.start u a x'.strings h' × (x'.templates ≡ x.templates) × (x'.faults ≡ x.faults)
Keeps false w x h t u a x' h' = Needed (needs t x.templates) AsOption w x.templates h t.start u a x'.templates h' × (x'.strings ≡ x.strings) × (x'.faults ≡ x.faults)

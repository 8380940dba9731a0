-- What a session and a store hold, as a ledger and its limits, and the memory behind it. Assumes nothing.
use Rattle.std.specs.Prelude.{ℕ, min, List, drop, Option}
use Rattle.faults.specs.declared.list.Fault.{Fault}
use Rattle.faults.specs.Records as faulty
use Rattle.slots.specs.declared.map.Slot.{Slot}
use Rattle.slots.specs.Views as slotted
use Rattle.store.specs.Held.{Held}
use Rattle.ledger.specs.Ledger.{Limits, Ledger}
use Rattle.session.specs.declared.Session.{Session}

-- the limits that lent slots, lent records and a store make: up to 4,096 slots a table and 4,096 records; what lies past them is not counted
abbrev pub lent : ℕ → ℕ → ℕ → Held → Limits
lent strings templates records h = record {
  records = min records 4096;
  string_slots = min strings 4096;
  template_slots = min templates 4096;
  places = h.places;
  capacity = h.capacity;
}

abbrev pub limits_of : Session → Held → Limits
limits_of x h = record {
  records = faulty.room_of x.faults;
  string_slots = slotted.room_of x.strings;
  template_slots = slotted.room_of x.templates;
  places = h.places;
  capacity = h.capacity;
}

abbrev pub ledger_of : Session → Held → Ledger
ledger_of x h = record {
  values = h.values;
  draft = h.draft;
  faults = faulty.faults_of x.faults;
  strings = slotted.entries_of x.strings;
  templates = slotted.entries_of x.templates;
}

-- all slots and records, used or not

pub record Memory : Type 0 where
  pub strings : List (Slot ℕ)
  pub templates : List (Slot (Option ℕ))
  pub records : List Fault

abbrev pub memory_of : Session → Memory
memory_of x = record { strings = slotted.slots_of x.strings; templates = slotted.slots_of x.templates; records = faulty.records_of x.faults }

-- those past the limits
abbrev pub unused : Memory → Memory
unused m = record { strings = drop 4096 m.strings; templates = drop 4096 m.templates; records = drop 4096 m.records }

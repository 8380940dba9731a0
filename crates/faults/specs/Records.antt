-- Faults by number and word. A fault list: its lent records, how many of them it may use, and the faults recorded. Assumes nothing.
use Rattle.std.specs.Prelude.{ℕ, Bool, List, ◌++◌, Result, codes, slice_get}
use Rattle.std.specs.Fmt.{decimal}
use Rattle.std.specs.Option.{ok_or}
use Rattle.lent.specs.Items as lent
use Rattle.faults.specs.declared.list.Fault.{Fault}
use Rattle.faults.specs.declared.list.FaultKind.{FaultKind}
use Rattle.faults.specs.declared.list.FaultKind.TheVariants.{Unterminated, InvalidEscape}
use Rattle.faults.specs.declared.list.FaultList.{FaultList}

-- the number of each kind
abbrev pub kind_of : FaultKind → ℕ
kind_of Unterminated = 1
kind_of InvalidEscape = 2

-- the word of each kind
abbrev pub word_of : FaultKind → List ℕ
word_of Unterminated = codes "unterminated"
word_of InvalidEscape = codes "invalid"

-- what a fault prints: its kind, and where it begins and ends
abbrev pub fault_text : Fault → List ℕ
fault_text f = word_of f.kind ++ codes " " ++ decimal f.from ++ codes " " ++ decimal f.to

abbrev pub records_of : FaultList → List Fault
records_of l = lent.memory_of l.records

-- the first records, as many as are used
abbrev pub faults_of : FaultList → List Fault
faults_of l = lent.items_of l.records

-- the records, up to 4,096
abbrev pub room_of : FaultList → ℕ
room_of l = lent.room_of l.records

-- some record is free
abbrev pub has_record : FaultList → Bool
has_record l = lent.free l.records

-- the fault at an index, or that there is none
abbrev pub fault_told : List Fault → ℕ → Result Fault ℕ
fault_told fs i = ok_or (slice_get fs i) 5

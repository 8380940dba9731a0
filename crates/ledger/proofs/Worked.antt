-- The worked lives. Assumes nothing.
use Rattle.std.proofs.Common.{[], ◌∷◌, ◌++◌, length, codes}
use Rattle.std.specs.Str.{chars}
use Rattle.grammar.proofs.Finder.{the}
use Rattle.ledger.specs.Calls.{string, template, scan, value, fault_count, fault_at}
use Rattle.ledger.specs.Ledger.{made}
use Rattle.ledger.specs.Laws.{calls_of}
use Rattle.ledger.specs.Worked.{script, limits, stored, long_past, ALongLife, WithoutSlots, WithoutPlaces, WithoutCapacity, BrokenOff}
use Rattle.ledger.proofs.Lives.{runs_keep}
use Rattle.ledger.proofs.Played.{play}

pub a_long_life : ALongLife
unfolding chars
a_long_life =
    let p = the (play length (limits 2 2 2 4 7) script (made stored) (calls_of long_past)) tt in
    runs_keep length (limits 2 2 2 4 7) script stored p.0 p.1 p.2

pub without_slots : WithoutSlots
unfolding chars
without_slots =
    let p = the (play length (limits 2 0 1 4 7) script (made stored) (scan string 0 ∷ value 0 ∷ [])) tt in
    runs_keep length (limits 2 0 1 4 7) script stored p.0 p.1 p.2

pub without_places : WithoutPlaces
unfolding chars
without_places =
    let p = the (play length (limits 2 2 2 1 7) script (made stored) (scan string 0 ∷ scan template 16 ∷ value 16 ∷ value 0 ∷ [])) tt in
    runs_keep length (limits 2 2 2 1 7) script stored p.0 p.1 p.2

pub without_capacity : WithoutCapacity
unfolding chars
without_capacity =
    let p = the (play length (limits 2 2 2 4 3) script (made stored) (scan string 0 ∷ fault_count ∷ [])) tt in
    runs_keep length (limits 2 2 2 4 3) script stored p.0 p.1 p.2

pub broken_off : BrokenOff
unfolding chars
broken_off =
    let p = the (play length (limits 1 0 0 0 0) (codes "\"\\x41" ++ 0x0A ∷ []) (made []) (scan string 0 ∷ value 0 ∷ fault_at 0 ∷ scan string 0 ∷ [])) tt in
    runs_keep length (limits 1 0 0 0 0) (codes "\"\\x41" ++ 0x0A ∷ []) [] p.0 p.1 p.2

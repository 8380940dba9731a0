-- What the answers of a session's calls reply. Assumes nothing.
use Rattle.std.specs.Prelude.{ℕ, true, false, List, [], length, Some, None, Ok, Err, Option, Result, slice_index_or}
use Rattle.refusals.specs.declared.Refusal.{Refusal}
use Rattle.refusals.specs.Numbers.{number_of, numbered}
use Rattle.faults.specs.declared.list.Fault.{Fault}
use Rattle.tokens.specs.declared.Token.{Token}
use Rattle.ledger.specs.Calls.{Reply, token, valued, united, refused}
use Rattle.ledger.specs.Ledger.{fault_by}

abbrev pub token_reply : Result Token Refusal → Reply
token_reply (Ok t) = token t
token_reply (Err e) = refused (number_of e)

-- the length of a value, or that none is cooked
abbrev pub value_by : Option ℕ → Reply
value_by None = valued false 0
value_by (Some n) = valued true n

abbrev pub value_reply : Result (Option ℕ) Refusal → Reply
value_reply (Ok v) = value_by v
value_reply (Err e) = refused (number_of e)

abbrev pub unit_by : Result ℕ ℕ → Reply
unit_by (Ok u) = united u
unit_by (Err n) = refused n

abbrev pub unit_reply : Result ℕ Refusal → Reply
unit_reply r = unit_by (numbered r)

abbrev pub fault_reply : Result Fault Refusal → Reply
fault_reply r = fault_by (numbered r)

-- what the value question says of a number, or of none, in these finished values
abbrev pub value_of : List (List ℕ) → Option ℕ → Option ℕ
value_of vs None = None
value_of vs (Some n) = Some (length (slice_index_or vs n []))

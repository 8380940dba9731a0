-- The calls of a session, and what is replied to them. Assumes nothing.
use Rattle.std.specs.Prelude.{ℕ, Bool, true, false}
use Rattle.faults.specs.declared.list.Fault.{Fault}
use Rattle.tokens.specs.declared.Token.{Token}

-- the three scans: of a string at a quote, of a template at `, of the rest of a template at }
pub data Sort : Type 0 where
  string template resumption : Sort

pub data Call : Type 0 where
  -- a scan, from a start
  scan : Sort → ℕ → Call
  -- whether a value is cooked at a start, and its length
  value : ℕ → Call
  -- the unit of the value at a start, at an index
  unit : ℕ → ℕ → Call
  -- how many faults are recorded, and the one at an index
  fault_count : Call
  fault_at : ℕ → Call

pub data Reply : Type 0 where
  token : Token → Reply
  valued : Bool → ℕ → Reply
  united : ℕ → Reply
  counted : ℕ → Reply
  faulted : Fault → Reply
  -- turned down, with the refusal's number
  refused : ℕ → Reply

abbrev pub turned_down : Reply → Bool
turned_down (token t) = false
turned_down (valued c n) = false
turned_down (united u) = false
turned_down (counted n) = false
turned_down (faulted f) = false
turned_down (refused n) = true

-- a call and its reply
pub record Exchange : Type 0 where
  pub call : Call
  pub reply : Reply

abbrev pub says : Call → Reply → Exchange
says c a = record { call = c; reply = a }

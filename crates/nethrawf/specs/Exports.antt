-- What the exported functions answer. Assumes nothing.
use Rattle.std.specs.Prelude.{◌≡◌, ℕ, ◌<◌, ◌≤◌, min, ◌⊎◌, List, [], map, length, take, drop, Some, None, Ok, Err, Result, IsUtf8}
use Rattle.std.specs.Str.{IsValidUpTo}
use Rattle.refusals.specs.declared.Refusal.{Refusal}
use Rattle.refusals.specs.declared.failure.Failure.{Failure}
use Rattle.refusals.specs.declared.failure.Failure.TheVariants.{Refused, NoMemory}
use Rattle.refusals.specs.Numbers.{number_of}
use Rattle.source.specs.Checks.{NoText}
use Rattle.source.specs.Texts.{IsText, limit}
use Rattle.look.specs.declared.answer.Scan.{Scan}
use Rattle.look.specs.declared.answer.Look.{Look}
use Rattle.look.specs.Looked.{Answered}
use Rattle.ledger.specs.Calls as ask
use Rattle.ledger.specs.Ledger.{Limits, Ledger}
use Rattle.ledger.specs.Life.{Lived}
use Rattle.nethrawf.specs.declared.forms.Request.{Request}
use Rattle.nethrawf.specs.declared.forms.Response.{Response}
use Rattle.nethrawf.specs.declared.forms.Room.{Room}
use Rattle.nethrawf.specs.declared.forms.Seen.{Seen}
use Rattle.nethrawf.specs.Numbers.{scan_numbered, seen_of, written}
use Rattle.nethrawf.specs.Lives.{exchanges, MalformedRefused}

-- bytes are no text, and this is the number of why
abbrev pub TextRefused : List ℕ → ℕ → Type 0
TextRefused bytes n = (e : Refusal) × (n ≡ number_of e) × NoText bytes e

-- 0 for a text; 1 for too many bytes; 2 for others, and then the longest well-formed prefix is told
abbrev pub Checked : List ℕ → ℕ → ℕ → ℕ → Type 0
Checked bytes before n after =
    ((n ≡ 0) × IsText bytes × (after ≡ before))
    ⊎ (((n ≡ 1) × (limit < length bytes) × (after ≡ before))
    ⊎ ((n ≡ 2) × (length bytes ≤ limit) × (IsUtf8 bytes → ⊥) × IsValidUpTo bytes after))

-- 0, and what a look at the literal answers; else a refusal: of the bytes, then of the scan's number, then of the look
abbrev pub Looks : List ℕ → ℕ → ℕ → Seen → ℕ → Seen → Type 0
Looks bytes k start before n after =
    ((n ≡ 0) × IsText bytes × ((s : Scan) × (l : Look) × (scan_numbered k ≡ Some s) × (after ≡ seen_of l) × Answered bytes start s (Ok l)))
    ⊎ ((after ≡ before)
    × (TextRefused bytes n
    ⊎ (((n ≡ 7) × IsText bytes × (scan_numbered k ≡ None))
    ⊎ (IsText bytes × ((s : Scan) × (e : Refusal) × (scan_numbered k ≡ Some s) × (n ≡ number_of e) × Answered bytes start s (Err e))))))

-- the number that C is told: 0 where it was done, that of a refusal, or 255 for no memory
abbrev pub status_of : Result (Unit {0}) Failure → ℕ
status_of (Ok t) = 0
status_of (Err (Refused e)) = number_of e
status_of (Err (NoMemory e)) = 255

-- what a session with such room may hold, over a store of some places and some capacity
abbrev pub limits : Room → ℕ → ℕ → Limits
limits room places capacity = record {
  records = min room.records 4096;
  string_slots = min room.strings 4096;
  template_slots = min room.templates 4096;
  places = places;
  capacity = capacity;
}

-- the responses are the replies of one life on the text, with the law, from the making on; those past the last request are as they were
pub record LivedThrough (w : List ℕ → ℕ) (m : Limits) (text : List ℕ) (qs : List Request) (rs₀ rs : List Response) : Type 0 where
  pub replies : List ask.Reply
  pub all : length replies ≡ min (length qs) (length rs₀)
  pub told : take (length replies) rs ≡ map written replies
  pub past : drop (length qs) rs ≡ drop (length qs) rs₀
  pub malformed : MalformedRefused qs replies
  pub held : Ledger
  pub lived : Lived w m text [] (exchanges qs replies) m held

-- 0, and a life; else nothing is responded: the bytes are no text, or there was no memory, which is 255
abbrev pub Serves : (List ℕ → ℕ) → Limits → List ℕ → List Request → List Response → ℕ → List Response → Type 0
Serves w m bytes qs rs₀ n rs =
    ((n ≡ 0) × IsText bytes × LivedThrough w m bytes qs rs₀ rs)
    ⊎ ((rs ≡ rs₀) × (TextRefused bytes n ⊎ ((n ≡ 255) × IsText bytes)))

-- A session's whole life: the making, and then any calls in any order and number. Assumes nothing.
use Rattle.std.specs.Prelude.{◌≡◌, ℕ, ◌<◌, Bool, true, false, T, ◌⊎◌, ◌↔◌, List, [], ◌∷◌, ◌++◌, map, length, Some, None, Option, slice_index}
use Rattle.grammar.specs.Text.{Text, char}
use Rattle.grammar.specs.Utf8.{utf8}
use Rattle.grammar.specs.Value.{utf16}
use Rattle.grammar.specs.Literal.{Kind, str, Tree, Derivation, any_not_escape}
use Rattle.grammar.specs.Reading.{Read, Reading}
use Rattle.tokens.specs.Grammar.{named}
use Rattle.slots.specs.Entries.{OneAStart}
use Rattle.ledger.specs.Calls.{Sort, Call, scan, value, unit, Reply, token, turned_down, Exchange}
use Rattle.ledger.specs.Ledger.{Limits, Ledger, made, opens, token_of, needed_records, needed_slots, needed_places, needed_weight, free_records, free_slots, free_places, free_capacity, value_told, unit_told, Step}

-- a call and its reply, with the ledger before the call and after it
pub record Line : Type 0 where
  pub before : Ledger
  pub call : Call
  pub reply : Reply
  pub after : Ledger

abbrev pub exchange : Line → Exchange
exchange x = record { call = x.call; reply = x.reply }

-- a run from a ledger to a ledger: each line begins with what the one before it left, and replies and leaves what its call must
abbrev pub Run : (List ℕ → ℕ) → Limits → List ℕ → Ledger → List Line → Ledger → Type 0
Run w m text l [] l' = l ≡ l'
Run w m text l (x ∷ xs) l' = (x.before ≡ l) × Step w m text x.before x.call x.reply x.after × Run w m text x.after xs l'

-- x stands in the list; x stands in it, and q somewhere behind x
abbrev pub Among : {A : Type 0} → A → List A → Type 0
Among x [] = ⊥
Among x (y ∷ ys) = (y ≡ x) ⊎ Among x ys

abbrev pub Then : {A : Type 0} → A → A → List A → Type 0
Then x q [] = ⊥
Then x q (y ∷ ys) = ((y ≡ x) × Among q ys) ⊎ Then x q ys

-- the line accepts kind k from s to e, with the mark b: it replies that token, of a string without a new fault
abbrev pub Accepts : Line → ℕ → Kind → ℕ → Bool → Type 0
Accepts x s k e b = (x.reply ≡ token (record { start = s; end = e; kind = named (Some k); escaped = b })) × (k ≡ str → x.after.faults ≡ x.before.faults)

-- the standard derives kind k from s to e
abbrev pub Derived : List ℕ → ℕ → Kind → ℕ → Type 0
Derived text s k e = (d : Tree) × (u : Option (List ℕ)) × Derivation (utf8 text) s k e d u

-- from p to q the text has the characters cs
abbrev pub Spells : Text → ℕ → List ℕ → ℕ → Type 0
Spells t p [] q = p ≡ q
Spells t p (c ∷ cs) q = (n : ℕ) × (t p ≡ char c n) × Spells t n cs q

abbrev pub in_utf16 : List ℕ → List ℕ
in_utf16 [] = []
in_utf16 (c ∷ cs) = utf16 c ++ in_utf16 cs

-- the value is the script between the delimiters, in UTF-16
abbrev pub Verbatim : List ℕ → Tree → Option (List ℕ) → Type 0
Verbatim text d u = (cs : List ℕ) × Spells (utf8 text) d.start cs d.close × (u ≡ Some (in_utf16 cs))

-- the faults, the slot, the place or the weight that a literal needs exceed what the ledger leaves free
abbrev pub Exceeds : (List ℕ → ℕ) → Limits → Ledger → Read → Type 0
Exceeds w m l r =
    (free_records m l < needed_records r)
    ⊎ ((free_slots m l r < needed_slots l r)
    ⊎ ((free_places m l < needed_places l r)
    ⊎ (free_capacity w m l < needed_weight w l r)))

-- THE LAW. After its making on the text, under the limits m, over a store of weight w that held the values `stored`, a session has had the exchanges `past`;
-- session and store now hold what `held` says, under the limits `bounds`
pub record Lived (w : List ℕ → ℕ) (m : Limits) (text : List ℕ) (stored : List (List ℕ)) (past : List Exchange) (bounds : Limits) (held : Ledger) : Type 0 where
  -- the ledger was reckoned line by line from the making on, and session and store hold what it holds
  pub lines : List Line
  pub exchanged : map exchange lines ≡ past
  pub holds : Run w m text (made stored) lines held
  -- the limits are those of the making, no value is open, and no start has two entries in a table
  pub limits : bounds ≡ m
  pub shut : held.draft ≡ []
  pub one_string_a_start : OneAStart held.strings
  pub one_template_a_start : OneAStart held.templates
  -- (accepts) a scan not turned down accepts kind k with end e exactly when the standard derives k from its start to e
  pub accepts :
      (x : Line) (g : Sort) (s : ℕ) → Among x lines → x.call ≡ scan g s → turned_down x.reply ≡ false
      → (k : Kind) (e : ℕ) → ((b : Bool) × Accepts x s k e b) ↔ Derived text s k e
  -- any two derivations from one start are the same: kind, end, tree and value
  pub derived_once :
      (s : ℕ) (k k' : Kind) (e e' : ℕ) (d d' : Tree) (u u' : Option (List ℕ)) → Derivation (utf8 text) s k e d u → Derivation (utf8 text) s k' e' d' u'
      → (k ≡ k') × (e ≡ e') × (d ≡ d') × (u ≡ u')
  -- (tells) an accepted plain literal has as its value the script between its delimiters
  pub verbatim :
      (x : Line) (g : Sort) (s : ℕ) → Among x lines → x.call ≡ scan g s
      → (k : Kind) (e : ℕ) → Accepts x s k e false → (d : Tree) (u : Option (List ℕ)) → Derivation (utf8 text) s k e d u → Verbatim text d u
  -- an accepted escaped literal's value is told by every later value question and unit question at its start
  pub told :
      (x q : Line) (g : Sort) (s : ℕ) → Then x q lines → x.call ≡ scan g s
      → (k : Kind) (e : ℕ) → Accepts x s k e true → (d : Tree) (u : Option (List ℕ)) → Derivation (utf8 text) s k e d u
      → (q.call ≡ value s → q.reply ≡ value_told u) × ((i : ℕ) → q.call ≡ unit s i → q.reply ≡ unit_told u i)
  -- none is cooked exactly when the derivation holds a NotEscapeSequence
  pub none_cooked : (s : ℕ) (k : Kind) (e : ℕ) (d : Tree) (u : Option (List ℕ)) → Derivation (utf8 text) s k e d u → (u ≡ None) ↔ T (any_not_escape d.characters)
  -- (keeps the ledger) a scan at its opening byte has a reading; it is turned down exactly when what the literal needs exceeds what is free, and else answers the reading's token
  pub decided :
      (x : Line) (g : Sort) (s : ℕ) → Among x lines → x.call ≡ scan g s → s < length text → opens g (slice_index text s) ≡ true
      → (r : Read) × Reading (utf8 text) r × (r.from ≡ s)
      × ((turned_down x.reply ≡ true) ↔ Exceeds w m x.before r) × (turned_down x.reply ≡ false → x.reply ≡ token (token_of r))

-- From a look to what a scan replies and leaves. Assumes nothing.
use Rattle.std.proofs.Common.{◌≡◌, ℕ, ◌+◌, ◌-◌, ◌<◌, ◌≤◌, Bool, true, false, not, ◌&&◌, List, [], length, get_or, is_some, Ok, Err, Option, Result, sym, refl, ap, ◌∙◌, subst, inl, inr, arith}
use Rattle.std.proofs.lemmas.Bool.{cond-true, cond-false}
use Rattle.std.proofs.lemmas.List.{length-take}
use Rattle.refusals.specs.declared.Refusal.{Refusal}
use Rattle.refusals.specs.Numbers.{number_of}
use Rattle.grammar.specs.Utf8.{utf8}
use Rattle.grammar.specs.Reading.{Read, Reading}
use Rattle.grammar.specs.Outcome.{mark_read, faults_read, units_read}
use Rattle.tokens.specs.declared.Token.{Token}
use Rattle.tokens.specs.Grammar.{recorded}
use Rattle.pieces.specs.Pieces.{scan_of}
use Rattle.look.specs.declared.answer.Scan.{Scan}
use Rattle.look.specs.declared.answer.Scan.TheVariants.{Str, Template, Resumption}
use Rattle.look.specs.Looked as looked
use Rattle.faults.specs.declared.list.FaultList.{FaultList}
use Rattle.faults.specs.Records as faulty
use Rattle.slots.specs.declared.map.SlotMap.{SlotMap}
use Rattle.slots.specs.Entries.{lookup}
use Rattle.slots.specs.Views.{entries_of, room_of}
use Rattle.store.specs.Held.{Held, weighed, dropped}
use Rattle.ledger.specs.Calls.{scan, Reply, token, refused}
use Rattle.ledger.specs.Ledger.{sort_of, of_string, in_strings, opens, token_of, has_entry, needs_entry, needed_records, free_records, free_slots}
use Rattle.session.specs.declared.Session.{Session}
use Rattle.session.specs.Views.{limits_of, ledger_of}
use Rattle.session.specs.Replies.{token_reply}
use Rattle.session.specs.Calls.{Called, Plays}
use Rattle.session.specs.declared.seen.Seen.{Seen}
use Rattle.session.specs.Literals.{sort_by, IsRead}
use Rattle.session.specs.Scans.{Sees, Recorded, Needed, needs, AsNumber, AsOption, Keeps}
use Rattle.session.proofs.Goes.{plays}
use Rattle.session.proofs.Seeing.{sort_same}
use Rattle.session.proofs.Scanning as scanning
use Rattle.session.proofs.Scanning.{length_recorded}

-- the scan's own words for opening bytes and sorts

opens_same : (k : Scan) (b : ℕ) → looked.opens k b ≡ opens (sort_by k) b
opens_same Str b = refl
opens_same Template b = refl
opens_same Resumption b = refl

-- a refusal passed on
pub passed_on :
    (w : List ℕ → ℕ) (text : List ℕ) (k : Scan) (s : ℕ) (x : Session) (h : Held) (t : Result Token Refusal) (d e : Refusal) (x' : Session) (h' : Held) → t ≡ Err d → d ≡ e
    → Plays w text (scan (sort_by k) s) x h (refused (number_of e)) x' h' → Plays w text (scan (sort_by k) s) x h (token_reply t) x' h'
passed_on w text k s x h t d e x' h' is same = subst (λ (a : Reply). Plays w text (scan (sort_by k) s) x h a x' h') (sym (ap token_reply is ∙ ap (λ (z : Refusal). refused (number_of z)) same))

module _ (w : List ℕ → ℕ) (nothing : w [] ≡ 0) (text : List ℕ) (k : Scan) (s : ℕ) (x : Session) (h : Held) where
  -- the look is refused
  pub unseen : (e : Refusal) → looked.Refused text s k e → Plays w text (scan (sort_by k) s) x h (refused (number_of e)) x h
  unseen e (inl (n, ge)) = plays w text (scan (sort_by k) s) x h (refused (number_of e)) x h (scanning.past_text w nothing text (sort_by k) s x h (number_of e) n ge)
  unseen e (inr (n, lt, other)) = plays w text (scan (sort_by k) s) x h (refused (number_of e)) x h (scanning.wrong_opening w nothing text (sort_by k) s x h (number_of e) n lt (sym (opens_same k (get_or text s 0)) ∙ other))

  module _ (seen : Seen) (sees : Sees text s k seen) where
    lt : s < length text
    lt = let n = ap length sees.0 in let e = sees.1 in omega (arith, seen.literal.within)

    right : opens (sort_by k) (get_or text s 0) ≡ true
    right = sym (opens_same k (get_or text s 0)) ∙ sees.3

    at : looked.LookedAt text s seen.literal.opening seen.look
    at = subst (λ (z : ℕ). looked.LookedAt text z seen.literal.opening seen.look) sees.1 (subst (λ (z : List ℕ). looked.LookedAt z seen.literal.start seen.literal.opening seen.look) sees.0 sees.5)

    r : Read
    unfolding at
    r = at.read

    sort : sort_of r.scan ≡ sort_by k
    unfolding r at
    sort = ap sort_of at.scans ∙ sort_same k (scan_of seen.literal.opening) sees.4

    told : seen.look.token ≡ token_of r
    unfolding r at
    told j = record { start = (at.starts ∙ sym at.from) j; end = at.ends j; kind = at.kinded j; escaped = at.marked j }

    needed : needed_records r ≡ seen.look.faults
    unfolding r at
    needed = length_recorded (faults_read r) ∙ sym at.faulted

    read : IsRead seen.literal r
    unfolding r at
    read = (subst (λ (z : List ℕ). Reading (utf8 z) r) (sym sees.0) at.reading, at.from ∙ sym sees.1)

    module _ (free : ℕ) (free_is : free ≡ faulty.room_of x.faults - length (faulty.faults_of x.faults)) where
      -- more faults than free records
      pub too_many : free < seen.look.faults → Plays w text (scan (sort_by k) s) x h (refused 9) x h
      unfolding r at
      too_many more =
          plays w text (scan (sort_by k) s) x h (refused 9) x h
          (scanning.no_records w nothing text (sort_by k) s x h lt right r at.reading at.from sort (let e = needed in omega arith))

      module _ (enough : seen.look.faults ≤ free) where
        records : needed_records r ≤ free_records (limits_of x h) (ledger_of x (dropped h))
        unfolding r at
        records = let e = needed in omega arith

        few : length (faulty.faults_of x.faults) + length (recorded (faults_read r)) ≤ faulty.room_of x.faults
        unfolding r at
        few = let e = needed in let b = length-take x.faults.records.used (faulty.records_of x.faults) in let f = x.faults.records.fits in omega arith

        -- what was kept, by the table
        module _ (light : weighed w h.values ≤ h.capacity) (x₁ : Session) (h' : Held) where
          abbrev Kept : Bool → Result (Unit {0}) Refusal → Type 0
          Kept b a = Keeps b w x h seen.look.token (units_read r) a x₁ h'

          abbrev FromKeep : Result (Unit {0}) Refusal → Type 0
          FromKeep a = (q : Read) → IsRead seen.literal q → Keeps (of_string (sort_by seen.scan)) w x h seen.look.token (units_read q) a x₁ h'

          kept : (a : Result (Unit {0}) Refusal) → FromKeep a → Kept (in_strings r) a
          unfolding r at read
          kept a from = subst (λ (b : Bool). Kept b a) (ap (λ (z : Scan). of_string (sort_by z)) sees.2 ∙ sym (ap of_string sort)) (from r read)

          -- an entry is needed as the ledger says
          needed_in :
              {V : Type 0} (holds : Option ℕ → V → Type 0) (t t' : SlotMap V) (a : Result (Unit {0}) Refusal) → is_some (lookup (entries_of t) r.from) ≡ has_entry (ledger_of x (dropped h)) r
              → Needed (needs seen.look.token t) holds w t h seen.look.token.start (units_read r) a t' h' → Needed (needs_entry (ledger_of x (dropped h)) r) holds w t h s (units_read r) a t' h'
          unfolding r at
          needed_in holds t t' a has needed =
              let same : needs seen.look.token t ≡ needs_entry (ledger_of x (dropped h)) r =
              (λ j. at.marked j && not (is_some (lookup (entries_of t) ((at.starts ∙ sym at.from) j)))) ∙ ap (λ (b : Bool). mark_read r && not b) has in
              subst (λ (n : ℕ). Needed (needs_entry (ledger_of x (dropped h)) r) holds w t h n (units_read r) a t' h') at.starts
              (subst (λ (b : Bool). Needed b holds w t h seen.look.token.start (units_read r) a t' h') same needed)

          module _ (f : FaultList) (rec : (q : Read) → IsRead seen.literal q → length (faulty.faults_of x₁.faults) + length (recorded (faults_read q)) ≤ faulty.room_of x₁.faults → Recorded x₁.faults (recorded (faults_read q)) f) where
            abbrev Done : Type 0
            Done = Called w text (scan (sort_by k) s) x h (token seen.look.token) (record { strings = x₁.strings; templates = x₁.templates; faults = f }) h'

            recs : x₁.faults ≡ x.faults → Recorded x.faults (recorded (faults_read r)) f
            unfolding r at read
            recs e = subst (λ (y : FaultList). length (faulty.faults_of y) + length (recorded (faults_read r)) ≤ faulty.room_of y → Recorded y (recorded (faults_read r)) f) e (rec r read) few

            string_done : (b : Bool) → in_strings r ≡ true → x₁.templates ≡ x.templates → x₁.faults ≡ x.faults → needs_entry (ledger_of x (dropped h)) r ≡ b → Needed b AsNumber w x.strings h s (units_read r) (Ok tt) x₁.strings h' → Done
            unfolding r at
            string_done false inside et ef n st = scanning.goes_without w nothing text (sort_by k) s x h lt right r at.reading at.from sort records seen.look.token told f (recs ef) n x₁.strings x₁.templates h' st.1 et st.2
            string_done true inside et ef n (o, v, num, put, ent) =
                scanning.goes_string w nothing text (sort_by k) s x h lt right r at.reading at.from sort records seen.look.token told f (recs ef) n h' o light put v x₁.strings x₁.templates inside num ent et

            template_done : (b : Bool) → in_strings r ≡ false → x₁.strings ≡ x.strings → x₁.faults ≡ x.faults → needs_entry (ledger_of x (dropped h)) r ≡ b → Needed b AsOption w x.templates h s (units_read r) (Ok tt) x₁.templates h' → Done
            unfolding r at
            template_done false outside ez ef n st = scanning.goes_without w nothing text (sort_by k) s x h lt right r at.reading at.from sort records seen.look.token told f (recs ef) n x₁.strings x₁.templates h' ez st.1 st.2
            template_done true outside ez ef n (o, v, num, put, ent) =
                scanning.goes_template w nothing text (sort_by k) s x h lt right r at.reading at.from sort records seen.look.token told f (recs ef) n h' o light put v x₁.strings x₁.templates outside num ent ez

            done_by : (b : Bool) → in_strings r ≡ b → Kept b (Ok tt) → Done
            unfolding r at
            done_by true inside (needed, et, ef) = string_done _ inside et ef refl (needed_in AsNumber x.strings x₁.strings (Ok tt) (sym (cond-true _ _ _ inside)) needed)
            done_by false outside (needed, ez, ef) = template_done _ outside ez ef refl (needed_in AsOption x.templates x₁.templates (Ok tt) (sym (cond-false _ _ _ outside)) needed)

            pub done : (a : Result (Unit {0}) Refusal) → a ≡ Ok tt → FromKeep a → Plays w text (scan (sort_by k) s) x h (token seen.look.token) (record { strings = x₁.strings; templates = x₁.templates; faults = f }) h'
            unfolding r at
            done a ok from = plays w text (scan (sort_by k) s) x h (token seen.look.token) (record { strings = x₁.strings; templates = x₁.templates; faults = f }) h' (done_by _ refl (subst (Kept (in_strings r)) ok (kept a from)))

          -- it was not

          module _ (e : Refusal) where
            abbrev Undone : Type 0
            Undone = Called w text (scan (sort_by k) s) x h (refused (number_of e)) x h'

            undone_in :
                {V : Type 0} (holds : Option ℕ → V → Type 0) (t t' : SlotMap V) (b : Bool) → free_slots (limits_of x h) (ledger_of x (dropped h)) r ≡ room_of t - length (entries_of t) → needs_entry (ledger_of x (dropped h)) r ≡ b
                → Needed b holds w t h s (units_read r) (Err e) t' h' → (t' ≡ t) × Undone
            unfolding r at
            undone_in holds t t' false slots n st = absurd (no_ok st.0)
              where
                no_ok : ◌≡◌ {A = Result (Unit {0}) Refusal} (Err e) (Ok tt) → ⊥
                no_ok q = cc
            undone_in holds t t' true slots n files =
                (files.0, scanning.not_filed w nothing text (sort_by k) s x h lt right r at.reading at.from sort records n (length (entries_of t)) (room_of t) slots holds t t' e (units_read r) h' refl light refl refl files)

            undone_by : (b : Bool) → in_strings r ≡ b → Kept b (Err e) → (x₁ ≡ x) × Undone
            unfolding r at
            undone_by true inside (needed, et, ef) =
                let p = undone_in AsNumber x.strings x₁.strings _ (cond-true _ _ _ inside) refl (needed_in AsNumber x.strings x₁.strings (Err e) (sym (cond-true _ _ _ inside)) needed) in
                (λ j. record { strings = p.0 j; templates = et j; faults = ef j }, p.1)
            undone_by false outside (needed, ez, ef) =
                let p = undone_in AsOption x.templates x₁.templates _ (cond-false _ _ _ outside) refl (needed_in AsOption x.templates x₁.templates (Err e) (sym (cond-false _ _ _ outside)) needed) in
                (λ j. record { strings = ez j; templates = p.0 j; faults = ef j }, p.1)

            pub undone : (a : Result (Unit {0}) Refusal) → a ≡ Err e → FromKeep a → Plays w text (scan (sort_by k) s) x h (refused (number_of e)) x₁ h'
            unfolding r at
            undone a not from =
                let p = undone_by _ refl (subst (Kept (in_strings r)) not (kept a from)) in
                plays w text (scan (sort_by k) s) x h (refused (number_of e)) x₁ h' (subst (λ (y : Session). Called w text (scan (sort_by k) s) x h (refused (number_of e)) y h') (sym p.0) p.1)

-- What a scan's code has to show, case by case. Assumes nothing.
use Rattle.std.proofs.Common.{◌≡◌, ℕ, ◌+◌, ◌-◌, ◌<◌, ◌≤◌, Bool, true, false, cond, not, ◌&&◌, eqb, ltb, leb, List, [], ◌∷◌, ◌++◌, length, get_or, drop, is_some, Some, None, Err, Option, sym, refl, ap, ◌∙◌, subst, inl, inr, append-nil, arith}
use Rattle.std.proofs.lemmas.List.{length-append}
use Rattle.std.proofs.lemmas.Bool.{lt-ltb, le-ltb, ltb-true, ltb-false, leb-true, leb-false, cond-true, cond-false, true≢false}
use Rattle.refusals.specs.declared.Refusal.{Refusal}
use Rattle.refusals.specs.Numbers.{number_of}
use Rattle.grammar.specs.Utf8.{utf8}
use Rattle.grammar.specs.Reading.{Read, Reading}
use Rattle.grammar.specs.Outcome as outcome
use Rattle.grammar.specs.Outcome.{mark_read, faults_read, units_read}
use Rattle.tokens.specs.declared.Token.{Token}
use Rattle.tokens.specs.Grammar.{recorded}
use Rattle.faults.specs.declared.list.FaultList.{FaultList}
use Rattle.faults.specs.Records as faulty
use Rattle.slots.specs.declared.map.SlotMap.{SlotMap}
use Rattle.slots.specs.Views.{entries_of, slots_of, room_of}
use Rattle.store.specs.Held.{Held, weighed, holding, dropped, in_room, has_place}
use Rattle.ledger.specs.Calls.{Sort, scan, Reply, token, refused}
use Rattle.ledger.specs.Ledger.{Limits, Ledger, sort_of, in_strings, opens, token_of, needs_entry, needs_value, units, next_number, added, exceeded, Decided, Scanned}
use Rattle.ledger.specs.Ledger.{needed_records, needed_slots, needed_places, needed_weight, free_records, free_slots, free_places, free_capacity}
use Rattle.session.specs.declared.Session.{Session}
use Rattle.session.specs.Views.{limits_of, ledger_of}
use Rattle.session.specs.Calls.{came_to_put, Called}
use Rattle.session.specs.Scans.{Put, Entered, Recorded, Files}
use Rattle.session.proofs.Goes.{same_length, unaltered}

pub length_recorded : (fs : List outcome.Fault) → length (recorded fs) ≡ length fs
length_recorded [] = refl
length_recorded (f ∷ fs) = let e = length_recorded fs in omega arith

nothing_more : {A : Type 0} (xs ys : List A) → xs ++ ys ≡ xs → ys ≡ []
nothing_more xs [] h = refl
nothing_more xs (y ∷ ys) h = absurd (let a : length (xs ++ y ∷ ys) ≡ length xs = ap length h in let b = length-append xs (y ∷ ys) in omega arith)

one_not_none : {A : Type 0} (xs : List A) (y : A) → xs ++ (y ∷ []) ≡ xs → ⊥
one_not_none xs y h = let a : length (xs ++ y ∷ []) ≡ length xs = ap length h in let b = length-append xs (y ∷ []) in omega arith

nothing_by : {A : Type 0} (b : Bool) (xs ys : List A) → b ≡ false → xs ≡ xs ++ cond b ys []
nothing_by b xs ys e = sym (append-nil xs) ∙ ap (λ z. xs ++ z) (sym (cond-false b ys [] e))

these_by : {A : Type 0} (b : Bool) (xs ys : List A) → b ≡ true → xs ++ ys ≡ xs ++ cond b ys []
these_by b xs ys e = ap (λ z. xs ++ z) (sym (cond-true b ys [] e))

-- a map with no entry more, or with one
record Grown {V : Type 0} (x x' : SlotMap V) : Type 0 where
  pub room : room_of x' ≡ room_of x
  pub past : drop 4096 (slots_of x') ≡ drop 4096 (slots_of x)
  pub unwritten : entries_of x' ≡ entries_of x → slots_of x' ≡ slots_of x

stays : {V : Type 0} (x x' : SlotMap V) → x' ≡ x → Grown x x'
stays x x' e = record { room = ap room_of e; past = ap (λ z. drop 4096 (slots_of z)) e; unwritten = λ n. ap slots_of e }

grows : {V : Type 0} (x x' : SlotMap V) (s : ℕ) (v : V) → Entered x s v x' → Grown x x'
grows x x' s v ent = record { room = ent.room; past = ent.past; unwritten = λ e. absurd (one_not_none (entries_of x) (s, v) (sym ent.entries ∙ e)) }

-- one more is free or not
full_one : (n m : ℕ) → ltb n m ≡ false → ltb (m - n) 1 ≡ true
full_one n m e = let a = ltb-false n m e in lt-ltb (m - n) 1 (omega arith)

free_one : (n m : ℕ) → ltb n m ≡ true → ltb (m - n) 1 ≡ false
free_one n m e = let a = ltb-true n m e in le-ltb (m - n) 1 (omega arith)

none_below : (a b : ℕ) → b ≡ 0 → ltb a b ≡ false
none_below a b e = le-ltb a b (omega arith)

-- the weight against the capacity
over_weight : (cap all w₀ weight need : ℕ) → w₀ ≡ 0 → need ≡ weight → all ≤ cap → leb (all + weight) cap ≡ false → ltb (cap - (all + w₀)) need ≡ true
over_weight cap all w₀ weight need e f g b = let a = leb-false _ _ b in lt-ltb (cap - (all + w₀)) need (omega arith)

in_weight : (cap all w₀ weight need : ℕ) → w₀ ≡ 0 → need ≡ weight → leb (all + weight) cap ≡ true → ltb (cap - (all + w₀)) need ≡ false
in_weight cap all w₀ weight need e f b = let a = leb-true _ _ b in le-ltb (cap - (all + w₀)) need (omega arith)

module _ (w : List ℕ → ℕ) (nothing : w [] ≡ 0) (text : List ℕ) (k : Sort) (s : ℕ) (x : Session) (h : Held) where
  abbrev l : Ledger
  l = ledger_of x (dropped h)

  abbrev m : Limits
  m = limits_of x h

  turned_down : (n : ℕ) → eqb n 12 ≡ false → Scanned w m text k s l (refused n) l → Called w text (scan k s) x h (refused n) x h
  turned_down n other z = unaltered w text (scan k s) x h (refused n) z other

  -- the start is past the text; another byte stands there
  pub past_text : (n : ℕ) → n ≡ 3 → length text ≤ s → Called w text (scan k s) x h (refused n) x h
  past_text n is ge =
      subst (λ (z : ℕ). Called w text (scan k s) x h (refused z) x h) (sym is)
      (turned_down 3 refl (record { outside = λ q. (refl, refl); unopened = λ lt p. absurd (omega arith); opened = λ lt o. absurd (omega arith) }))

  pub wrong_opening : (n : ℕ) → n ≡ 4 → s < length text → opens k (get_or text s 0) ≡ false → Called w text (scan k s) x h (refused n) x h
  wrong_opening n is lt other =
      subst (λ (z : ℕ). Called w text (scan k s) x h (refused z) x h) (sym is)
      (turned_down 4 refl (record { outside = λ q. absurd (omega arith); unopened = λ q p. (refl, refl); opened = λ q o. absurd (true≢false (sym o ∙ other)) }))

  module _ (lt : s < length text) (right : opens k (get_or text s 0) ≡ true) (r : Read) (reading : Reading (utf8 text) r) (from : r.from ≡ s) (sort : sort_of r.scan ≡ k) where
    opened_so : (a : Reply) (l' : Ledger) (o : Option ℕ) → exceeded w m l r ≡ o → Decided o r l a l' → Scanned w m text k s l a l'
    opened_so a l' o e d = record {
      outside = λ q. absurd (omega arith);
      unopened = λ q n. absurd (true≢false (sym right ∙ n));
      opened = λ q p. (r, reading, from, sort, subst (λ (z : Option ℕ). Decided z r l a l') (sym e) d);
    }

    turns : (n : ℕ) → exceeded w m l r ≡ Some n → eqb n 12 ≡ false → Called w text (scan k s) x h (refused n) x h
    turns n e other = turned_down n other (opened_so (refused n) l (Some n) e (refl, refl))

    turns_12 : exceeded w m l r ≡ Some 12 → Called w text (scan k s) x h (refused 12) x (dropped h)
    turns_12 e = record {
      step = opened_so (refused 12) l (Some 12) e (refl, refl);
      limits = refl;
      left_open = refl;
      strings_kept = λ e. refl;
      templates_kept = λ e. refl;
      records_kept = λ e. refl;
      beyond = refl;
    }

    -- more faults than free records
    pub no_records : free_records m l < needed_records r → Called w text (scan k s) x h (refused 9) x h
    no_records lt = turns 9 (cond-true _ _ _ (lt-ltb _ _ lt)) refl

    module _ (records : needed_records r ≤ free_records m l) where
      records_free : ltb (free_records m l) (needed_records r) ≡ false
      records_free = le-ltb _ _ records

      -- no entry is needed
      pub none_exceeded : needs_entry l r ≡ false → exceeded w m l r ≡ None
      none_exceeded unneeded =
          let value : needs_value l r ≡ false = ap (λ (b : Bool). b && is_some (units_read r)) unneeded in
          cond-false _ _ _ records_free
          ∙ cond-false _ _ _ (none_below (free_slots m l r) (needed_slots l r) (cond-false (needs_entry l r) 1 0 unneeded))
          ∙ cond-false _ _ _ (none_below (free_places m l) (needed_places l r) (cond-false (needs_value l r) 1 0 value))
          ∙ cond-false _ _ _ (none_below (free_capacity w m l) (needed_weight w l r) (cond-false (needs_value l r) _ 0 value))

      -- an entry is needed, in a table of this length and room
      module _ (needs : needs_entry l r ≡ true) (n room : ℕ) (slots : free_slots m l r ≡ room - n) where
        slot_is : ltb (free_slots m l r) (needed_slots l r) ≡ ltb (room - n) 1
        slot_is j = ltb (slots j) (cond-true (needs_entry l r) 1 0 needs j)

        no_slot : ltb n room ≡ false → exceeded w m l r ≡ Some 10
        no_slot e = cond-false _ _ _ records_free ∙ cond-true _ _ _ (slot_is ∙ full_one n room e)

        module _ (free : ltb n room ≡ true) where
          to_slots : exceeded w m l r ≡ cond (ltb (free_places m l) (needed_places l r)) (Some 11) (cond (ltb (free_capacity w m l) (needed_weight w l r)) (Some 12) None)
          to_slots = cond-false _ _ _ records_free ∙ cond-false _ _ _ (slot_is ∙ free_one n room free)

          -- none is cooked
          exceeded_none : units_read r ≡ None → exceeded w m l r ≡ None
          exceeded_none u =
              let value : needs_value l r ≡ false = ap (λ (b : Bool). b && is_some (units_read r)) needs ∙ ap is_some u in
              to_slots
              ∙ cond-false _ _ _ (none_below (free_places m l) (needed_places l r) (cond-false (needs_value l r) 1 0 value))
              ∙ cond-false _ _ _ (none_below (free_capacity w m l) (needed_weight w l r) (cond-false (needs_value l r) _ 0 value))

          module _ (us : List ℕ) (u : units_read r ≡ Some us) (light : weighed w h.values ≤ h.capacity) where
            wants : needs_value l r ≡ true
            wants = ap (λ (b : Bool). b && is_some (units_read r)) needs ∙ ap is_some u

            place_is : ltb (free_places m l) (needed_places l r) ≡ ltb (h.places - length h.values) 1
            place_is = ap (λ (z : ℕ). ltb (free_places m l) z) (cond-true (needs_value l r) 1 0 wants)

            weight_is : needed_weight w l r ≡ w us
            weight_is = cond-true (needs_value l r) _ _ wants ∙ ap (λ (z : Option (List ℕ)). w (units z)) u

            no_place : has_place h ≡ false → exceeded w m l r ≡ Some 11
            no_place e = to_slots ∙ cond-true _ _ _ (place_is ∙ full_one _ _ e)

            to_places : has_place h ≡ true → exceeded w m l r ≡ cond (ltb (free_capacity w m l) (needed_weight w l r)) (Some 12) None
            to_places e = to_slots ∙ cond-false _ _ _ (place_is ∙ free_one _ _ e)

            no_room : has_place h ≡ true → in_room w (holding h us) ≡ false → exceeded w m l r ≡ Some 12
            no_room e f = to_places e ∙ cond-true _ _ _ (over_weight h.capacity (weighed w h.values) (w []) (w us) (needed_weight w l r) nothing weight_is light f)

            all_free : has_place h ≡ true → in_room w (holding h us) ≡ true → exceeded w m l r ≡ None
            all_free e f = to_places e ∙ cond-false _ _ _ (in_weight h.capacity (weighed w h.values) (w []) (w us) (needed_weight w l r) nothing weight_is f)

        -- a value that is not filed: the scan is refused with the same number
        pub not_filed :
            {V : Type 0} (holds : Option ℕ → V → Type 0) (t t' : SlotMap V) (e : Refusal) (u : Option (List ℕ)) (h' : Held) → units_read r ≡ u → weighed w h.values ≤ h.capacity → n ≡ length (entries_of t) → room ≡ room_of t
            → Files holds w t h s u (Err e) t' h' → Called w text (scan k s) x h (refused (number_of e)) x h'
        not_filed holds t t' e u h' is light en er (same, inl (num, none, st)) =
            subst (λ (z : ℕ). Called w text (scan k s) x h (refused z) x h') (sym num)
            (subst (λ (z : Held). Called w text (scan k s) x h (refused 10) x z) (sym st) (turns 10 (no_slot ((λ j. ltb (en j) (er j)) ∙ none)) refl))
        not_filed holds t t' e None h' is light en er (same, inr (free, un)) = absurd un
        not_filed holds t t' e (Some us) h' is light en er (same, inr (free, inl (num, place, st))) =
            subst (λ (z : ℕ). Called w text (scan k s) x h (refused z) x h') (sym num)
            (subst (λ (z : Held). Called w text (scan k s) x h (refused 11) x z) (sym st) (turns 11 (no_place ((λ j. ltb (en j) (er j)) ∙ free) us is light place) refl))
        not_filed holds t t' e (Some us) h' is light en er (same, inr (free, inr (num, place, room, st))) =
            subst (λ (z : ℕ). Called w text (scan k s) x h (refused z) x h') (sym num)
            (subst (λ (z : Held). Called w text (scan k s) x h (refused 12) x z) (sym st) (turns_12 (no_room ((λ j. ltb (en j) (er j)) ∙ free) us is light place room)))

        -- a value that is put: nothing exceeds
        pub put_fits : (u : Option (List ℕ)) (o : Option ℕ) (h' : Held) → units_read r ≡ u → weighed w h.values ≤ h.capacity → ltb n room ≡ true → Put w h u o h' → exceeded w m l r ≡ None
        put_fits None o h' is light free p = exceeded_none free is
        put_fits (Some us) o h' is light free p = all_free free us is light p.1 p.2

      -- what is kept of a put value

      values_are : (u : Option (List ℕ)) (o : Option ℕ) (h' : Held) → needs_entry l r ≡ true → units_read r ≡ u → Put w h u o h' → h'.values ≡ h.values ++ cond (needs_value l r) (units (units_read r) ∷ []) []
      values_are None o h' needs is p =
          ap (λ (z : Held). z.values) p.1 ∙ sym (append-nil h.values)
          ∙ ap (λ (z : List (List ℕ)). h.values ++ z) (sym (cond-false _ _ _ (ap (λ (b : Bool). b && is_some (units_read r)) needs ∙ ap is_some is)))
      values_are (Some us) o h' needs is p =
          ap (λ (z : Held). z.values) p.3
          ∙ ap (λ (z : List (List ℕ)). h.values ++ z) (sym (cond-true _ _ _ (ap (λ (b : Bool). b && is_some (units_read r)) needs ∙ ap is_some is) ∙ ap (λ (z : Option (List ℕ)). units z ∷ []) is))

      put_open : (t : Token) (u : Option (List ℕ)) (o : Option ℕ) (h' : Held) → Put w h u o h' → h'.draft ≡ cond (came_to_put (token t) h h') [] h.draft
      put_open t None o h' p =
          ap (λ (z : Held). z.draft) p.1
          ∙ ap (λ (b : Bool). cond b [] h.draft) (sym (ap (λ (z : Held). ltb (length h.values) (length z.values)) p.1 ∙ same_length (length h.values)))
      put_open t (Some us) o h' p =
          let more = length-append h.values (us ∷ []) in
          let grown : ltb (length h.values) (length h'.values) ≡ true = ap (λ (z : Held). ltb (length h.values) (length z.values)) p.3 ∙ lt-ltb _ _ (omega arith) in
          ap (λ (z : Held). z.draft) p.3 ∙ ap (λ (b : Bool). cond b [] h.draft) (sym grown)

      put_number : (u : Option (List ℕ)) (o : Option ℕ) (h' : Held) → units_read r ≡ u → Put w h u o h' → o ≡ next_number l (units_read r)
      put_number None o h' is p = p.0 ∙ ap (next_number l) (sym is)
      put_number (Some us) o h' is p = p.0 ∙ ap (next_number l) (sym is)

      put_places : (u : Option (List ℕ)) (o : Option ℕ) (h' : Held) → Put w h u o h' → (h'.places ≡ h.places) × (h'.capacity ≡ h.capacity)
      put_places None o h' p = (ap (λ (z : Held). z.places) p.1, ap (λ (z : Held). z.capacity) p.1)
      put_places (Some us) o h' p = (ap (λ (z : Held). z.places) p.3, ap (λ (z : Held). z.capacity) p.3)

      module _ (t : Token) (told : t ≡ token_of r) (f : FaultList) (rec : Recorded x.faults (recorded (faults_read r)) f) where
        -- nothing that is needed exceeds what is free
        goes :
            (z : SlotMap ℕ) (z' : SlotMap (Option ℕ)) (h' : Held) → exceeded w m l r ≡ None → Grown x.strings z → Grown x.templates z'
            → h'.values ≡ (added l r).values → entries_of z ≡ (added l r).strings → entries_of z' ≡ (added l r).templates
            → (h'.places ≡ h.places) × (h'.capacity ≡ h.capacity) → h'.draft ≡ cond (came_to_put (token t) h h') [] h.draft
            → Called w text (scan k s) x h (token t) (record { strings = z; templates = z'; faults = f }) h'
        goes z z' h' none strings templates vs es ts places shut =
            let x' : Session = record { strings = z; templates = z'; faults = f } in
            let led : ledger_of x' (dropped h') ≡ added l r = λ j. record { values = vs j; draft = []; faults = rec.faults j; strings = es j; templates = ts j } in
            record {
              step = opened_so (token t) (ledger_of x' (dropped h')) None none (ap token told, led);
              limits = λ j. record { records = rec.room j; string_slots = strings.room j; template_slots = templates.room j; places = places.0 j; capacity = places.1 j };
              left_open = shut;
              strings_kept = strings.unwritten;
              templates_kept = templates.unwritten;
              records_kept = λ e. rec.unwritten (nothing_more (faulty.faults_of x.faults) (recorded (faults_read r)) (sym rec.faults ∙ e));
              beyond = λ j. record { strings = strings.past j; templates = templates.past j; records = rec.past j };
            }

        -- no entry is needed
        pub goes_without :
            needs_entry l r ≡ false → (z : SlotMap ℕ) (z' : SlotMap (Option ℕ)) (h' : Held) → z ≡ x.strings → z' ≡ x.templates → h' ≡ h
            → Called w text (scan k s) x h (token t) (record { strings = z; templates = z'; faults = f }) h'
        goes_without unneeded z z' h' ez et eh =
            goes z z' h' (none_exceeded unneeded) (stays _ _ ez) (stays _ _ et)
            (ap (λ (y : Held). y.values) eh ∙ nothing_by (needs_value l r) h.values (units (units_read r) ∷ []) (ap (λ (b : Bool). b && is_some (units_read r)) unneeded))
            (ap entries_of ez ∙ nothing_by (needs_entry l r && in_strings r) (entries_of x.strings) ((r.from, length h.values) ∷ []) (ap (λ (b : Bool). b && in_strings r) unneeded))
            (ap entries_of et ∙ nothing_by (needs_entry l r && not (in_strings r)) (entries_of x.templates) ((r.from, next_number l (units_read r)) ∷ []) (ap (λ (b : Bool). b && not (in_strings r)) unneeded))
            (put_places None None h' (refl, eh)) (put_open t None None h' (refl, eh))

        module _ (needs : needs_entry l r ≡ true) (h' : Held) (o : Option ℕ) (light : weighed w h.values ≤ h.capacity) (put : Put w h (units_read r) o h') where
          number : o ≡ next_number l (units_read r)
          number = put_number (units_read r) o h' refl put

          -- a string's entry
          pub goes_string :
              (n : ℕ) (z : SlotMap ℕ) (z' : SlotMap (Option ℕ)) → in_strings r ≡ true → o ≡ Some n → Entered x.strings s n z → z' ≡ x.templates
              → Called w text (scan k s) x h (token t) (record { strings = z; templates = z'; faults = f }) h'
          unfolding number
          goes_string n z z' inside num ent et =
              goes z z' h' (put_fits needs (length (entries_of x.strings)) (room_of x.strings) (cond-true _ _ _ inside) (units_read r) o h' refl light ent.free put) (grows _ _ _ _ ent) (stays _ _ et)
              (values_are (units_read r) o h' needs refl put)
              (ent.entries ∙ (λ i. entries_of x.strings ++ ((sym from i, numbered (units_read r) n (sym num ∙ number) i) ∷ []))
              ∙ these_by (needs_entry l r && in_strings r) (entries_of x.strings) ((r.from, length h.values) ∷ []) (ap (λ (b : Bool). b && in_strings r) needs ∙ inside))
              (ap entries_of et ∙ nothing_by (needs_entry l r && not (in_strings r)) (entries_of x.templates) ((r.from, next_number l (units_read r)) ∷ []) (ap (λ (b : Bool). b && not (in_strings r)) needs ∙ ap not inside))
              (put_places (units_read r) o h' put) (put_open t (units_read r) o h' put)
            where
              numbered : (v : Option (List ℕ)) (n : ℕ) → Some n ≡ next_number l v → n ≡ length h.values
              numbered None n e = absurd cc
              numbered (Some us) n e = cc

          -- a template's entry
          pub goes_template :
              (v : Option ℕ) (z : SlotMap ℕ) (z' : SlotMap (Option ℕ)) → in_strings r ≡ false → o ≡ v → Entered x.templates s v z' → z ≡ x.strings
              → Called w text (scan k s) x h (token t) (record { strings = z; templates = z'; faults = f }) h'
          unfolding number
          goes_template v z z' outside num ent ez =
              goes z z' h' (put_fits needs (length (entries_of x.templates)) (room_of x.templates) (cond-false _ _ _ outside) (units_read r) o h' refl light ent.free put) (stays _ _ ez) (grows _ _ _ _ ent)
              (values_are (units_read r) o h' needs refl put)
              (ap entries_of ez ∙ nothing_by (needs_entry l r && in_strings r) (entries_of x.strings) ((r.from, length h.values) ∷ []) (ap (λ (b : Bool). b && in_strings r) needs ∙ outside))
              (ent.entries ∙ (λ i. entries_of x.templates ++ ((sym from i, (sym num ∙ number) i) ∷ []))
              ∙ these_by (needs_entry l r && not (in_strings r)) (entries_of x.templates) ((r.from, next_number l (units_read r)) ∷ []) (ap (λ (b : Bool). b && not (in_strings r)) needs ∙ ap not outside))
              (put_places (units_read r) o h' put) (put_open t (units_read r) o h' put)

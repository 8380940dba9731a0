-- The tables of a reading's steps and endings: two readings part nowhere.
use Rattle.std.proofs.Common.{◌≡◌, Bool, T, List, [], ◌∷◌}
use Rattle.grammar.specs.Production.{Character}
use Rattle.grammar.specs.Literal.{Body, double, single, template}
use Rattle.grammar.specs.Recovery.{BadEscape, bad_x0, bad_x1, bad_u0, bad_u1, bad_u2, bad_u3, bad_brace0, bad_brace_over, bad_brace_open, bad_discrete, line_break, text_end, last_backslash, break_discrete}
use Rattle.grammar.specs.Reading.{Step, proper, bad, step_discrete, step_rule, Ending, closed, substitution, broken, ending_discrete, end_rule}
use Rattle.grammar.proofs.Classes.{both, pair}
use Rattle.grammar.proofs.Apart.{apart}
use Rattle.grammar.proofs.Listing.{every, is_in, every_at, Listing}
use Rattle.grammar.proofs.Table.{Clear, Ends}
use Rattle.grammar.proofs.Characters.{character_same, all_characters, characters_at}

-- the steps: the characters and the bad escapes

abbrev step_same : (s z : Step) → Dec (s ≡ z)
step_same = step_discrete character_same bad_discrete

abbrev bads : List BadEscape
bads = bad_x0 ∷ bad_x1 ∷ bad_u0 ∷ bad_u1 ∷ bad_u2 ∷ bad_u3 ∷ bad_brace0 ∷ bad_brace_over ∷ bad_brace_open ∷ []

bad_listed : (e : BadEscape) → T (is_in bad_discrete e bads)
bad_listed bad_x0 = tt
bad_listed bad_x1 = tt
bad_listed bad_u0 = tt
bad_listed bad_u1 = tt
bad_listed bad_u2 = tt
bad_listed bad_u3 = tt
bad_listed bad_brace0 = tt
bad_listed bad_brace_over = tt
bad_listed bad_brace_open = tt

abbrev bad_steps : List BadEscape → List Step
bad_steps [] = []
bad_steps (e ∷ es) = bad e ∷ bad_steps es

abbrev steps_of : List Character → List Step
steps_of [] = bad_steps bads
steps_of (c ∷ cs) = proper c ∷ steps_of cs

abbrev pub all_steps : List Step
all_steps = steps_of all_characters

bad_part : (f : Step → Bool) (es : List BadEscape) → T (every f (bad_steps es)) → T (every (λ e. f (bad e)) es)
bad_part f [] h = tt
bad_part f (e ∷ es) h = let (a, b) = both (f (bad e)) (every f (bad_steps es)) h in pair (f (bad e)) (every (λ z. f (bad z)) es) a (bad_part f es b)

step_parts : (f : Step → Bool) (cs : List Character) → T (every f (steps_of cs)) → T (every (λ c. f (proper c)) cs) × T (every (λ e. f (bad e)) bads)
step_parts f [] h = (tt, bad_part f bads h)
step_parts f (c ∷ cs) h =
    let (a, b) = both (f (proper c)) (every f (steps_of cs)) h in
    let (d, e) = step_parts f cs b in
    (pair (f (proper c)) (every (λ z. f (proper z)) cs) a d, e)

pub steps_at : (f : Step → Bool) → T (every f all_steps) → (s : Step) → T (f s)
steps_at f h (proper c) = characters_at (λ z. f (proper z)) (step_parts f all_characters h).0 c
steps_at f h (bad e) = every_at bad_discrete (λ z. f (bad z)) bads e (step_parts f all_characters h).1 (bad_listed e)

abbrev pub steps : Listing Step
steps = record { same = step_same; all = all_steps; at = steps_at }

-- the endings

abbrev ending_same : (e f : Ending) → Dec (e ≡ f)
ending_same = ending_discrete break_discrete

abbrev pub all_endings : List Ending
all_endings = closed ∷ substitution ∷ broken line_break ∷ broken text_end ∷ broken last_backslash ∷ []

ending_listed : (e : Ending) → T (is_in ending_same e all_endings)
ending_listed closed = tt
ending_listed substitution = tt
ending_listed (broken line_break) = tt
ending_listed (broken text_end) = tt
ending_listed (broken last_backslash) = tt

pub endings_at : (f : Ending → Bool) → T (every f all_endings) → (e : Ending) → T (f e)
endings_at f h e = every_at ending_same f all_endings e h (ending_listed e)

abbrev pub endings : Listing Ending
endings = record { same = ending_same; all = all_endings; at = endings_at }

pub steps_clear : (b : Body) → Clear steps (step_rule b)
steps_clear double = record { pairs = tt; settles = tt }
steps_clear single = record { pairs = tt; settles = tt }
steps_clear template = record { pairs = tt; settles = tt }

pub endings_clear : (b : Body) → Clear endings (end_rule b)
endings_clear double = record { pairs = tt; settles = tt }
endings_clear single = record { pairs = tt; settles = tt }
endings_clear template = record { pairs = tt; settles = tt }

endings_end : (b : Body) → T (every (λ e. every (λ s. apart (step_rule b s) (end_rule b e)) all_steps) all_endings)
endings_end double = tt
endings_end single = tt
endings_end template = tt

pub ending_ends : (b : Body) (e : Ending) → Ends steps (step_rule b) (end_rule b e)
ending_ends b e = endings_at (λ z. every (λ s. apart (step_rule b s) (end_rule b z)) all_steps) (endings_end b) e

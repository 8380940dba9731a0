-- The bench stands: each case is found by trying the tables, and compared.
use Rattle.std.proofs.Common.{◌≡◌, ℕ, T, List, [], ◌∷◌, is_some, sym, refl, ap, ◌∙◌, subst}
use Rattle.std.specs.List.{AllByRecursion}
use Rattle.std.specs.Str.{chars}
use Rattle.grammar.specs.Utf8.{utf8}
use Rattle.grammar.specs.Literal.{Derivable}
use Rattle.grammar.specs.Bench.{Told, tells, Case, Stands, bench, BenchStands, Derived, BenchDerived}
use Rattle.grammar.proofs.Exact.{accepts_exactly}
use Rattle.grammar.proofs.Finder.{find, the}

abbrev Agrees : Case → Type 0
Agrees c =
    (i : T (is_some (find (utf8 c.bytes) 40 c.scan 0)))
    × ((the (find (utf8 c.bytes) 40 c.scan 0) i).0.scan ≡ c.scan) × ((the (find (utf8 c.bytes) 40 c.scan 0) i).0.from ≡ 0)
    × (tells (the (find (utf8 c.bytes) 40 c.scan 0) i).0 ≡ c.told)

all_by : (cs : List Case) → AllByRecursion Agrees cs → AllByRecursion Stands cs
all_by [] h = tt
all_by (c ∷ cs) h = let f = the (find (utf8 c.bytes) 40 c.scan 0) h.0.0 in ((f.0, f.1, h.0.1, h.0.2, h.0.3), all_by cs h.1)

agreed : AllByRecursion Agrees bench
unfolding chars
agreed = ((tt, refl, refl, refl), ((tt, refl, refl, refl), ((tt, refl, refl, refl), ((tt, refl, refl, refl), ((tt, refl, refl, refl), ((tt, refl, refl, refl), ((tt, refl, refl, refl), ((tt, refl, refl, refl), ((tt, refl, refl, refl), ((tt, refl, refl, refl), ((tt, refl, refl, refl), tt)))))))))))

pub bench_stands : BenchStands
bench_stands = all_by bench agreed

derived : (c : Case) → Stands c → Derived c
derived c (r, x, s, f, h) = (
  (λ k i j. subst (λ (z : ℕ). Derivable (utf8 c.bytes) z k c.told.end c.told.units) f
      ((accepts_exactly (utf8 c.bytes) r k c.told.end c.told.units x).0
      (record { faultless = ap (λ (z : Told). z.faults) h ∙ j; of_kind = ap (λ (z : Told). z.kind) h ∙ i; ends = ap (λ (z : Told). z.end) h; valued = ap (λ (z : Told). z.units) h }))),
  (λ k e u d. sym (ap (λ (z : Told). z.faults) h) ∙ ((accepts_exactly (utf8 c.bytes) r k e u x).1 (subst (λ (z : ℕ). Derivable (utf8 c.bytes) z k e u) (sym f) d)).faultless),
)

all_derived : (cs : List Case) → AllByRecursion Stands cs → AllByRecursion Derived cs
all_derived [] h = tt
all_derived (c ∷ cs) h = (derived c h.0, all_derived cs h.1)

pub bench_derived : BenchDerived
bench_derived = all_derived bench bench_stands

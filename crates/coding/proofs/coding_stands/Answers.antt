use Rattle.std.proofs.Common.{◌≡◌, true, refl, subst}
use lib.Utf8.{encode, scalars}
use Rattle.std.proofs.lemmas.Str.{encodes_same}
use Rattle.coding.specs.Codes.{points}
use Rattle.grammar.proofs.Bench.{bench_stands}
use Rattle.coding.specs.Bench.{Worked, BenchInBytes}
use Rattle.coding.proofs.Trips.{units_wtf8}
use Rattle.coding.proofs.coding_stands.Goals as goal

computed : Worked
unfolding encode
computed = record { pair = refl; turned = refl; twice = refl; plain = refl; back = refl }

listed : BenchInBytes
unfolding encode
listed = (bench_stands, refl)

pub returns : goal.returns
returns c = record { cases = computed; text = λ us. (λ h. (points us, (h, refl)), λ t. subst (λ l. scalars l ≡ true) (encodes_same t.0 (points us) t.1.1) t.1.0); back = units_wtf8; bench = listed }

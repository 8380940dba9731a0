use Rattle.grammar.proofs.bench_stands.Goals as goal
use Rattle.grammar.proofs.Bench.{bench_stands, bench_derived}

pub returns : goal.returns
returns c = record { stands = bench_stands; derived = bench_derived }

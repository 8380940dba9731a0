use Rattle.std.proofs.Common.{length, ap, arith}
use Rattle.cuts.proofs.Cutting.{start_in}
use Rattle.cuts.specs.Lists.{used, marks}
use Rattle.cuts.proofs.lists.Cuts.open.Goals as goal

pub offset_bounds-all-open_start : goal.offset_bounds-all-open_start
offset_bounds-all-open_start g c = let s = c.args.self.now in omega (arith, start_in (used s) (marks s) s.rising, ap length c.all.ensures, c.open_start.ensures)

pub slice_bounds-result-count : goal.slice_bounds-result-count
slice_bounds-result-count g c = let s = c.args.self.now in omega (arith, start_in (used s) (marks s) s.rising, ap length c.all.ensures, c.open_start.ensures)

pub slice_bounds-result-start : goal.slice_bounds-result-start
slice_bounds-result-start g c = let s = c.args.self.now in omega (arith, start_in (used s) (marks s) s.rising, ap length c.all.ensures, c.open_start.ensures)

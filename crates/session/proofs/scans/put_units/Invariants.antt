use Rattle.session.proofs.Putting.{Midway}
use Rattle.session.proofs.scans.put_units.Given as goal

abbrev pub invariant-loop-unit : goal.invariant-loop-unit
invariant-loop-unit g l = let s = g.S.ValueStore in Midway s.weight (s.held l.fn.store) l.yielded (s.held l.store) l.fits

use Rattle.std.proofs.Common.{◌+◌, arith}
use Rattle.escapes.proofs.Numerals.{skipped}
use Rattle.escapes.proofs.digits.skip_hex.Goals as goal

pub returns : goal.returns
returns c =
    let (ds, (u, (t, y, n)), l) = c.count.ensures.ran in
    skipped _ t u ds (c.args.site.at + c.count.result) y n (omega (arith, l))

use Rattle.std.proofs.Common.{refl}
use Rattle.mj_pgs.proofs.RowLaws.{change-wraps}
use Rattle.mj_pgs.proofs.row.change.Goals as goal

pub returns : goal.returns
returns c = rw (c.times-2.ensures, c.plus-2.ensures, c.plus.ensures, c.times.ensures, c.of_step-c.ensures, c.of_slope-g.ensures, c.of_divisor.ensures) (change-wraps c.args.slope.raw c.args.by.now.d c.args.step.mid)

use Rattle.std.proofs.Common.{pos, unsigned_abs, arith, ap}
use Rattle.mj_quat.proofs.SineLaws.{square-size}
use Rattle.mj_quat.proofs.sine.square.Goals as goal

pub returns-clause-size : goal.returns-clause-size
returns-clause-size c = omega (arith, ap unsigned_abs c.product_over.ensures, square-size (pos c.args.n) c.requires)

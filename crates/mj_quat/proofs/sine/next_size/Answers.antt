use Rattle.std.proofs.Common.{◌*◌, ◌^◌, pos, ◌*ℤ◌, unsigned_abs, arith, ap}
use Rattle.fx_whole.specs.Nearest.{nearest}
use Rattle.fx_whole.proofs.Ring.{abs-neg}
use Rattle.mj_quat.proofs.SineLaws.{next_term-half}
use Rattle.mj_quat.proofs.sine.next_size.Goals as goal

pub returns-clause-half : goal.returns-clause-half
returns-clause-half c =
    let a = pos c.args.term in
    let z = pos c.args.square in
    let m = c.args.steps in
    omega (arith, ap unsigned_abs c.product_over.ensures, abs-neg (nearest (a *ℤ z) (pos (m * 2 ^ 60))), next_term-half a z m c.requires.steps c.requires.square)

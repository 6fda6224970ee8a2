use Rattle.std.proofs.Common.{◌+◌, ◌*◌, ◌^◌, arith}
use Rattle.fx_vec.specs.Views.{mids}
use Rattle.fx_vec.proofs.Bounds.{within-le}
use Rattle.mj_touch.proofs.leaves.along_normal.Goals as goal

pub returns-clause-size : goal.returns-clause-size
returns-clause-size c =
    let n = within-le (mids c.args.n.now) (2 ^ 32 + 16) (2 ^ 33) c.requires.n (omega arith) in
    within-le (mids c.move_along.result) (2 ^ 47 + 2 * 2 ^ 53) (2 ^ 55) (c.move_along.ensures.linear (2 ^ 47) (2 ^ 53) c.requires.c n c.requires.k) (omega arith)

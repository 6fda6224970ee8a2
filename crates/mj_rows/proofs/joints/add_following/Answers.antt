use Rattle.std.proofs.Common.{◌^◌, arith}
use Rattle.std.specs.Prelude.{◌==◌}
use Rattle.mj_types.specs.Parts.{number_at}
use Rattle.fx_whole.proofs.SumLaws.{grows}
use Rattle.mj_rows.proofs.joints.add_following.Goals as goal

pub returns-in-Some-clause-size : goal.returns-in-Some-clause-size
returns-in-Some-clause-size c d =
    let g = grows (d == c.dof_of.result) (number_at c.add_at.new.jacobian d) (number_at c.args.jacobian.now d) c.negative.result.mid (2 ^ 42) (c.add_at.ensures d) c.negative.ensures.size in
    omega (arith, g, c.requires.small d)

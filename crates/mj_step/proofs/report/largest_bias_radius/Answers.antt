use Rattle.std.proofs.Common.{◌^◌, length, slice_index_or, arith}
use Rattle.mj_types.specs.Masses.{no_near}
use Rattle.mj_step.proofs.Radii.{greatest-most}
use Rattle.mj_step.proofs.report.largest_bias_radius.Goals as goal

pub signed-requires : goal.signed-requires
signed-requires c =
    omega (arith, c.largest_in_bias.ensures, greatest-most (length c.args.c.now) (λ i. (slice_index_or c.args.c.now i no_near).rad) (2 ^ 40) c.requires)

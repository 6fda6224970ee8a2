use Rattle.std.proofs.Common.{◌^◌, arith}
use Rattle.mj_factor.specs.Residuals.{greatest_to}
use Rattle.mj_types.specs.Masses.{mass_radius_at}
use Rattle.mj_step.proofs.Radii.{greatest-most}
use Rattle.mj_step.proofs.report.largest_mass_radius.Goals as goal

pub signed-requires : goal.signed-requires
signed-requires c =
    let n = c.args.model.now.nv in
    let radius = mass_radius_at n c.args.mass.now.m in
    omega (
      arith,
      c.largest_in_mass.ensures,
      greatest-most n (λ i. greatest_to n (radius i)) (2 ^ 40) (λ i h. greatest-most n (radius i) (2 ^ 40) (λ j k. c.requires.small i j h k)),
    )

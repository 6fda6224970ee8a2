use Rattle.std.proofs.Common.{◌^◌}
use Rattle.mj_kin.proofs.leaves.hung.Goals as goal

pub returns-clause-linear : goal.returns-clause-linear
returns-clause-linear c limit h =
    c.minus.ensures.linear limit (2 ^ 44) h (c.rotated.ensures.near (c.matrix-rows.ensures.sharp c.requires.unit) c.requires.joint)

use Rattle.std.proofs.Common.{◌^◌}
use Rattle.mj_kin.proofs.leaves.axis.Goals as goal

pub returns-clause-size : goal.returns-clause-size
returns-clause-size c = c.rotate_by.ensures.sharp (2 ^ 32) (c.args.frame.now.sharp c.requires.frame) c.requires.joint

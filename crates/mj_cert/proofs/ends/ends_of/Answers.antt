use Rattle.mj_cert.proofs.SolvedLaws.{gradient-size}
use Rattle.mj_cert.proofs.ShortfallLaws.{row-nonneg, others-nonneg}
use Rattle.mj_cert.proofs.ends.ends_of.Goals as goal

pub curve_of-up-requires-clause-g : goal.curve_of-up-requires-clause-g
curve_of-up-requires-clause-g c = rw c.requires.slope (gradient-size c.args.dual.now c.args.forces.now c.args.i c.requires.solved c.requires.row)

pub curve_of-up-requires-clause-depth : goal.curve_of-up-requires-clause-depth
curve_of-up-requires-clause-depth c = rw c.requires.depth (row-nonneg c.args.dual.now c.args.forces.now c.args.i c.requires.solved c.requires.row)

pub curve_of-up-requires-clause-others : goal.curve_of-up-requires-clause-others
curve_of-up-requires-clause-others c = rw (c.requires.total, c.requires.depth) (others-nonneg c.args.dual.now c.args.forces.now c.args.i c.requires.solved c.requires.row)

use Rattle.mj_quat.proofs.rotating.rotate.Goals as goal

pub returns-clause-sharp : goal.returns-clause-sharp
returns-clause-sharp c limit u h = c.rotate_by.ensures.sharp limit (c.matrix.ensures.sharp u) h

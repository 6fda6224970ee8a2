use Rattle.mj_kin.proofs.joints.move_joint.Goals as goal

pub returns-clause-linear : goal.returns-clause-linear
returns-clause-linear c limit l h =
    c.in_ok-next.ensures.linear limit l h (c.carried-at.ensures.linear limit h c.requires.unit)

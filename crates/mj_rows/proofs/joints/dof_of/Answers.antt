use Rattle.std.proofs.Common.{◌<◌, ℕ, ap, subst}
use Rattle.mj_types.specs.declared.parts.Joint.{Joint}
use Rattle.mj_types.specs.Parts.{no_joint}
use Rattle.mj_rows.proofs.JointLaws.{dof_there}
use Rattle.mj_rows.proofs.joints.dof_of.Goals as goal

pub returns-clause-there : goal.returns-clause-there
returns-clause-there c =
    subst (λ (n : ℕ). n < c.args.model.now.nv) (ap (λ (x : Joint). x.dadr) (c.entry.ensures no_joint)) (dof_there c.args.model.now c.args.j c.requires)

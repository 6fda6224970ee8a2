use Rattle.std.proofs.Common.{sym, ◌∙◌}
use Rattle.mj_types.specs.Parts.{no_joint}
use Rattle.mj_passive.proofs.AppliedLaws.{joint_force-is}
use Rattle.mj_passive.proofs.dofs.joint_force.Goals as goal

pub returns-then-is_scalar-clause-value : goal.returns-then-is_scalar-clause-value
returns-then-is_scalar-clause-value c =
    joint_force-is c.args.model.now c.args.state.now c.args.number c.entry-joint.result.now c.args.added.now.raw c.minus_product.result.raw c.less-stretch.result.mid c.position.result.mid
    (c.entry-joint.ensures no_joint) (sym c.is_scalar.ensures ∙ c.if-is_scalar.true) c.position.ensures.value c.less-stretch.ensures.value c.minus_product.ensures.value

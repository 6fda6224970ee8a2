use Rattle.std.proofs.Common.{◌^◌, ◌+◌, ℤ, false, ap, ap₂, sym, subst, ◌∙◌, arith}
use Rattle.fx_num.specs.declared.number.Number.{Number}
use Rattle.mj_types.specs.declared.parts.Joint.{Joint}
use Rattle.mj_types.specs.declared.parts.Soft.{Soft}
use Rattle.mj_types.specs.declared.rows.Source.TheVariants as source
use Rattle.mj_types.specs.Lawful.{IsSoft}
use Rattle.mj_types.specs.Parts.{no_joint, number_at}
use Rattle.fx_num.specs.Settled.{settled_mid}
use Rattle.mj_rows.specs.Constraint.{row_of}
use Rattle.mj_rows.specs.Joints.{one, at_joint, friction_of, friction_with}
use Rattle.mj_rows.proofs.RowLaws.{friction_written, friction_sound}
use Rattle.mj_rows.proofs.SizeLaws.{at_most}
use Rattle.mj_rows.proofs.joints.friction.Goals as goal

pub friction_row-requires-clause-soft : goal.friction_row-requires-clause-soft
friction_row-requires-clause-soft c =
    subst (λ (x : Joint). IsSoft x.soft_friction) (c.entry-joint.ensures no_joint) (c.args.model.now.of_joints.each c.args.j c.requires.joint).soft_friction

pub returns-clause-row : goal.returns-clause-row
unfolding friction_of
returns-clause-row c =
    let m = c.args.model.now in
    let j = c.args.j in
    let e = sym (c.entry-joint.ensures no_joint) in
    c.friction_row.ensures.row (at_joint m j one)
    ∙ ap₂ (λ (x : Soft) (n : ℤ). row_of false (friction_with (source.Friction (j + 1)) x n (at_joint m j one)))
    (ap (λ (x : Joint). x.soft_friction) e)
    (c.most_friction-most.ensures.value ∙ ap (λ (x : Joint). settled_mid x.frictionloss.mid 12) e)

pub returns-clause-written : goal.returns-clause-written
returns-clause-written c =
    let m = c.args.model.now in
    let one_is = ap (λ (x : Number (Unit {0}) 32). x.mid) c.from_raw.ensures in
    friction_written m c.args.j c.write_joint.new.jacobian (c.write_joint.auto.jacobian ∙ c.requires.room)
    (λ d. c.write_joint.ensures.value d ∙ ap (λ (n : ℤ). at_joint m c.args.j n d) one_is)
    (λ d. at_most (number_at c.write_joint.new.jacobian d) c.from_raw.result.mid one (2 ^ 48) (c.write_joint.ensures.size d) one_is (omega arith))

pub returns-clause-sound : goal.returns-clause-sound
returns-clause-sound c = friction_sound c.args.model.now c.args.j c.write_joint.new.jacobian (returns-clause-written c)

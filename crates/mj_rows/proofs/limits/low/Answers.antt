use Rattle.std.proofs.Common.{◌^◌, ℤ, ap, ◌∙◌, arith}
use Rattle.fx_num.specs.declared.number.Number.{Number}
use Rattle.mj_types.specs.Parts.{number_at}
use Rattle.mj_rows.specs.Joints.{one, at_joint}
use Rattle.mj_rows.proofs.RowLaws.{low_row, low_written, low_sound}
use Rattle.mj_rows.proofs.SizeLaws.{at_most}
use Rattle.mj_rows.proofs.limits.low.Goals as goal

pub returns-clause-row : goal.returns-clause-row
returns-clause-row c =
    low_row c.args.model.now c.args.state.now c.args.j c.joint_extent-extent.result c.above_least.result.mid c.limit.result
    c.joint_extent-extent.ensures.value c.above_least.ensures.value c.limit.ensures.row

pub returns-clause-written : goal.returns-clause-written
returns-clause-written c =
    let m = c.args.model.now in
    let one_is = ap (λ (x : Number (Unit {0}) 32). x.mid) c.from_raw.ensures in
    low_written m c.args.state.now c.args.j c.write_joint.new.jacobian (c.write_joint.auto.jacobian ∙ c.requires.room)
    (λ d. c.write_joint.ensures.value d ∙ ap (λ (n : ℤ). at_joint m c.args.j n d) one_is)
    (λ d. at_most (number_at c.write_joint.new.jacobian d) c.from_raw.result.mid one (2 ^ 48) (c.write_joint.ensures.size d) one_is (omega arith))

pub returns-clause-sound : goal.returns-clause-sound
returns-clause-sound c = low_sound c.args.model.now c.args.state.now c.args.j c.write_joint.new.jacobian (returns-clause-written c)

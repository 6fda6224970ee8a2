use Rattle.std.proofs.Common.{ap, ◌∙◌}
use Rattle.std.specs.Prelude.{cond, ℕ}
use Rattle.mj_rows.specs.Limits.{is_low, is_high, joint_extent, low_limit, high_limit}
use Rattle.mj_rows.proofs.CountLaws.{count_both}
use Rattle.mj_rows.proofs.count.limits_of_joint.Goals as goal

pub returns-clause-value : goal.returns-clause-value
returns-clause-value c =
    let m = c.args.model.now in
    let s = c.args.state.now in
    let j = c.args.j in
    count_both (is_low (joint_extent m s j)) (is_high (joint_extent m s j)) (low_limit m s j) (high_limit m s j) c.one_if.result c.one_if-2.result
    (c.one_if.ensures.value ∙ ap (λ b. cond {A = ℕ} b 1 0) c.has_low.ensures) (c.one_if-2.ensures.value ∙ ap (λ b. cond {A = ℕ} b 1 0) c.has_high.ensures)

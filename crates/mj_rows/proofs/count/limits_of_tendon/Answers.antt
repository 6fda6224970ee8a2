use Rattle.std.proofs.Common.{ap, ◌∙◌}
use Rattle.std.specs.Prelude.{cond, ℕ}
use Rattle.mj_types.specs.Parts.{number_at}
use Rattle.mj_rows.specs.Limits.{is_low, is_high, tendon_extent, tendon_low_limit, tendon_high_limit}
use Rattle.mj_rows.proofs.CountLaws.{count_both}
use Rattle.mj_rows.proofs.count.limits_of_tendon.Goals as goal

pub returns-clause-value : goal.returns-clause-value
returns-clause-value c =
    let m = c.args.model.now in
    let l = number_at c.args.applied.now.length in
    let t = c.args.t in
    count_both (is_low (tendon_extent m l t)) (is_high (tendon_extent m l t)) (tendon_low_limit m l t) (tendon_high_limit m l t) c.one_if.result c.one_if-2.result
    (c.one_if.ensures.value ∙ ap (λ b. cond {A = ℕ} b 1 0) c.has_tendon_low.ensures) (c.one_if-2.ensures.value ∙ ap (λ b. cond {A = ℕ} b 1 0) c.has_tendon_high.ensures)

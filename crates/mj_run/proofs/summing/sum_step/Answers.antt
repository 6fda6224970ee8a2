use Rattle.std.proofs.Common.{◌≡◌, pos, ap, ◌∙◌, arith}
use Rattle.std.proofs.lemmas.Int.{ints}
use Rattle.mj_step.specs.Steps.{residual_of}
use Rattle.mj_types.specs.StepValues.{values_of}
use Rattle.mj_run.proofs.summing.sum_step.Goals as goal

pub with_step-requires-clause-residual : goal.with_step-requires-clause-residual
with_step-requires-clause-residual c =
    let told : c.report.result.now.residual ≡ pos (residual_of c.args.model.now c.args.runner.now.state c.args.controls.now) =
    ap (λ r. r.residual) c.report.ensures ∙ ap (λ x. x.residual) c.in_ok-step.ensures.report in
    omega (arith, ints, told)

pub returns-clause-more : goal.returns-clause-more
returns-clause-more c = λ told here so_far.
    c.with_step.ensures.more told c.step.new.state (ap (values_of c.step.new.state) c.report.ensures ∙ c.in_ok-step.ensures.report ∙ here) so_far

pub with_step-requires-clause-rows : goal.with_step-requires-clause-rows
with_step-requires-clause-rows c =
    let most = ap (λ r. r.rows.most) c.report.ensures in
    omega (arith, most, c.in_ok-step.ensures.made.report.rows, c.args.model.now.of_options.few_rows)

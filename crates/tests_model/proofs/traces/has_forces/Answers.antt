use Rattle.std.proofs.Common.{rules, ◌≡◌, ◌<◌, ◌≤◌, ◌+◌, length, arith}
use Rattle.fx_whole.proofs.CountLaws.{count_to-size}
use Rattle.mj_types.specs.StepValues.{is_active}
use Rattle.tests_model.proofs.traces.has_forces.Goals as goal

pub returns : goal.returns
returns c h =
    let size = count_to-size (length c.args.report.now.rows.list) (is_active c.args.report.now.rows.list) in
    record {
      count = search rules;
      f = search rules;
      lo = search rules;
      hi = search rules;
    }

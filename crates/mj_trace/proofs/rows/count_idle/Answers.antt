use Rattle.std.proofs.Common.{arith}
use Rattle.fx_whole.proofs.CountLaws.{count_to-size}
use Rattle.mj_types.specs.StepValues.{row}
use Rattle.mj_trace.proofs.rows.count_idle.Goals as goal

pub count_if-idle-requires : goal.count_if-idle-requires
count_if-idle-requires c =
    let size = count_to-size c.loop-i.i (λ i. (row c.args.report.now.rows.list i).idle) in
    let counted = c.loop-i.invariant.counted in
    let within = c.loop-i-test.true in
    let fits = c.len-i-end.type_inv in
    omega arith

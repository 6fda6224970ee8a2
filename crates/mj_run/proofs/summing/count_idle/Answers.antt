use Rattle.std.proofs.Common.{◌≡◌, length, ap, ◌∙◌, arith}
use Rattle.fx_whole.specs.Counting.{count_to}
use Rattle.fx_whole.proofs.CountLaws.{count_to-size}
use Rattle.mj_types.specs.StepValues.{row}
use Rattle.mj_run.proofs.summing.count_idle.Goals as goal

pub count_if-idle-requires : goal.count_if-idle-requires
count_if-idle-requires c =
    let size = count_to-size c.loop-i.i (λ i. (row c.args.rows.now.list i).idle) in
    let counted = c.loop-i.invariant.counted in
    let within = c.loop-i-test.true in
    let many = c.len-i-end.ensures.count in
    let few = c.requires in
    let most = c.len-i-end.ensures.most in
    omega arith

pub returns : goal.returns
returns c =
    let size = count_to-size c.loop-i.i (λ i. (row c.args.rows.now.list i).idle) in
    let counted = c.loop-i.invariant.counted in
    let many = c.len-i-end.ensures.count in
    let few = c.requires in
    let most = c.len-i-end.ensures.most in
    let all : c.loop-i.i ≡ length c.args.rows.now.list = omega arith in
    record { count = counted ∙ ap (λ n. count_to n (λ i. (row c.args.rows.now.list i).idle)) all; few = omega arith }

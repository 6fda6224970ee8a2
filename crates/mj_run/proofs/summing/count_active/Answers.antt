use Rattle.std.proofs.Common.{◌≡◌, length, ap, ◌∙◌, arith}
use Rattle.fx_whole.specs.Counting.{count_to}
use Rattle.fx_whole.proofs.CountLaws.{count_to-size}
use Rattle.mj_types.specs.StepValues.{is_active}
use Rattle.mj_run.proofs.summing.count_active.Goals as goal

pub count_if-active-requires : goal.count_if-active-requires
count_if-active-requires c =
    let size = count_to-size c.loop-i.i (is_active c.args.rows.now.list) in
    let counted = c.loop-i.invariant.counted in
    let within = c.loop-i-test.true in
    let many = c.len-i-end.ensures.count in
    let few = c.requires in
    let most = c.len-i-end.ensures.most in
    omega arith

pub returns : goal.returns
returns c =
    let size = count_to-size c.loop-i.i (is_active c.args.rows.now.list) in
    let counted = c.loop-i.invariant.counted in
    let many = c.len-i-end.ensures.count in
    let few = c.requires in
    let most = c.len-i-end.ensures.most in
    let all : c.loop-i.i ≡ length c.args.rows.now.list = omega arith in
    record { count = counted ∙ ap (λ n. count_to n (is_active c.args.rows.now.list)) all; few = omega arith }

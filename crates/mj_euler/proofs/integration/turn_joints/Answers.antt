use Rattle.std.proofs.Common.{◌≡◌, ◌<◌, ◌≤◌, ◌+◌, ℕ, length, ◌∙◌, arith}
use Rattle.std.proofs.lemmas.Result.{err_from_is_err_and}
use Rattle.fx_whole.proofs.FirstLaws.{stop_here, pass_more}
use Rattle.mj_types.specs.Parts.{joint, number_at}
use Rattle.mj_euler.specs.Advance.{norm_fault}
use Rattle.mj_euler.proofs.Keeping.{moved-kept, turned-more}
use Rattle.mj_euler.proofs.integration.turn_joints.Goals as goal

pub loop-j-preserved : goal.loop-j-preserved
loop-j-preserved c =
    let m = c.args.model.now in
    let s = c.args.state.now in
    let v = number_at c.args.v.now in
    record {
      len = c.turn_joint.ensures.len ∙ c.loop-j.invariant.len;
      moved = moved-kept m s v c.loop-j.j c.loop-j.q c.turn_joint.new.q (omega arith) c.turn_joint.ensures.others c.loop-j.invariant.moved;
      turned = turned-more m s v c.loop-j.j c.loop-j.q c.turn_joint.new.q (omega arith) c.turn_joint.ensures.others c.in_ok-turn_joint.ensures.turned c.loop-j.invariant.turned;
      passed = pass_more c.loop-j.j (λ j. norm_fault m s v (joint m.joints j)) c.loop-j.invariant.passed c.in_ok-turn_joint.ensures.first;
    }

pub returns-in_err-turn_joint-clause-first : goal.returns-in_err-turn_joint-clause-first
returns-in_err-turn_joint-clause-first c =
    let m = c.args.model.now in
    let r = err_from_is_err_and c.from_residual.result c.from_residual.ensures.1 in
    rw (r.1, r.2)
    (stop_here c.loop-j.j (length m.joints) (λ j. norm_fault m c.args.state.now (number_at c.args.v.now) (joint m.joints j)) _ (omega arith) c.loop-j.invariant.passed c.in_err-turn_joint.ensures.first)

pub returns-in_err-turn_joint-clause-moved : goal.returns-in_err-turn_joint-clause-moved
returns-in_err-turn_joint-clause-moved c =
    moved-kept c.args.model.now c.args.state.now (number_at c.args.v.now) c.loop-j.j c.loop-j.q c.turn_joint.new.q (omega arith) c.turn_joint.ensures.others c.loop-j.invariant.moved

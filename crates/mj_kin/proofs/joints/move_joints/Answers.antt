use Rattle.std.proofs.Common.{ℕ, ◌+◌, ◌*◌, ◌^◌, ap, sym, subst, ◌∙◌, arith}
use Rattle.std.proofs.lemmas.Result.{err_from_is_err_and}
use Rattle.fx_vec.specs.Views.{mids}
use Rattle.fx_vec.proofs.Bounds.{within-le}
use Rattle.fx_whole.proofs.FirstLaws.{stop_here, pass_more}
use Rattle.mj_types.specs.Parts.{body}
use Rattle.mj_kin.specs.Poses.{pose_after, joint_fault}
use Rattle.mj_kin.specs.Working.{AreMarked}
use Rattle.mj_kin.proofs.ModelLaws.{few_own}
use Rattle.mj_kin.proofs.PoseLaws.{pose-next}
use Rattle.mj_kin.proofs.joints.move_joints.Goals as goal

pub returns-in_err-frame-clause-first : goal.returns-in_err-frame-clause-first
returns-in_err-frame-clause-first c =
    let p = err_from_is_err_and c.from_residual.result c.from_residual.ensures.1 in
    rw (p.1, p.2)
    (stop_here c.loop-i.i (body c.args.model.now.bodies c.args.b).jntnum (joint_fault c.args.model.now c.args.state.now c.args.b) _ (omega arith) c.loop-i.invariant.passed c.in_err-frame.ensures.first)

pub loop-i-preserved : goal.loop-i-preserved
loop-i-preserved c = record {
  pose_ = c.in_ok-frame.ensures.pose;
  unit = c.in_ok-frame.ensures.unit;
  near = c.in_ok-frame.ensures.near;
  anchors_ = c.move_own.ensures.anchors ∙ c.loop-i.invariant.anchors_;
  directions_ = c.move_own.ensures.directions ∙ c.loop-i.invariant.directions_;
  marked = c.in_ok-frame.ensures.marked;
  passed = pass_more c.loop-i.i (joint_fault c.args.model.now c.args.state.now c.args.b) c.loop-i.invariant.passed c.in_ok-frame.ensures.first;
}

pub returns-clause-pose : goal.returns-clause-pose
returns-clause-pose c =
    let m = c.args.model.now in
    let s = c.args.state.now in
    c.loop-i.invariant.pose_ ∙ ap (λ (n : ℕ). pose_after m s c.args.b n) (omega arith) ∙ sym (pose-next m s c.args.b (m.of_bodies.parents c.args.b c.requires.body))

pub returns-clause-near : goal.returns-clause-near
returns-clause-near c =
    within-le (mids c.loop-i.frame.pos) (2 ^ 47 + c.loop-i.i * 2 ^ 46) (2 ^ 53) c.loop-i.invariant.near
    (omega (arith, few_own c.args.model.now c.args.b c.requires.body))

pub returns-clause-marked : goal.returns-clause-marked
returns-clause-marked c =
    let P : ℕ → Type 0 = λ n. AreMarked c.args.model.now c.args.state.now c.loop-i.anchors c.loop-i.directions ((body c.args.model.now.bodies c.args.b).jntadr + n) in
    subst P (omega arith) c.loop-i.invariant.marked

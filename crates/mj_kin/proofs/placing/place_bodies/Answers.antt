use Rattle.std.proofs.Common.{◌^◌, length, refl, sym, ◌∙◌, subst, arith}
use Rattle.std.proofs.lemmas.Result.{err_from_is_err_and}
use Rattle.fx_whole.proofs.FirstLaws.{stop_here, pass_more}
use Rattle.fx_vec.specs.Sizes.{Within}
use Rattle.mj_kin.specs.Bodies.{body_fault}
use Rattle.mj_kin.specs.Poses.{Pose}
use Rattle.mj_kin.proofs.PlaceLaws.{placed_none}
use Rattle.mj_kin.proofs.PoseLaws.{pose-zero}
use Rattle.mj_kin.proofs.placing.place_bodies.Goals as goal

pub loop-b-init : goal.loop-b-init
loop-b-init c = record {
  room = c.requires.room;
  placed = placed_none c.args.model.now c.args.state.now c.args.out.now;
  last = c.world-last.ensures ∙ sym (pose-zero c.args.model.now c.args.state.now);
  near_last = (
      let P = λ (p : Pose). Within p.position (2 ^ 44) in
      subst P (sym c.world-last.ensures) (record { x = omega arith; y = omega arith; z = omega arith }));
  passed = refl;
}

pub returns-in_err-last-clause-first : goal.returns-in_err-last-clause-first
returns-in_err-last-clause-first c =
    let p = err_from_is_err_and c.from_residual.result c.from_residual.ensures.1 in
    rw (p.1, p.2)
    (stop_here c.loop-b.b (length c.args.model.now.bodies) (body_fault c.args.model.now c.args.state.now) _ (omega arith)
    c.loop-b.invariant.passed c.in_err-last.ensures.first)

pub loop-b-preserved : goal.loop-b-preserved
loop-b-preserved c = record {
  room = c.place_body.ensures.room;
  placed = c.in_ok-last.ensures.placed;
  last = c.in_ok-last.ensures.pose;
  near_last = c.in_ok-last.ensures.near;
  passed = pass_more c.loop-b.b (body_fault c.args.model.now c.args.state.now) c.loop-b.invariant.passed c.in_ok-last.ensures.first;
}

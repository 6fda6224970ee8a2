use Rattle.std.proofs.Common.{◌≡◌, ℕ, ◌^◌, ap, ◌∙◌, arith}
use Rattle.fx_vec.specs.Sizes.{Within6}
use Rattle.fx_vec.specs.Views.{mids, spatial}
use Rattle.fx_vec.specs.declared.vector.Vector6.{Vector6}
use Rattle.mj_quat.specs.Rotation as rotation
use Rattle.mj_types.specs.Parts.{no_motion}
use Rattle.mj_kin.specs.Columns as spec
use Rattle.mj_kin.proofs.ListLaws.{put_from}
use Rattle.mj_kin.proofs.columns.mark.Goals as goal

pub loop-i-preserved : goal.loop-i-preserved
loop-i-preserved c =
    let jt = c.args.joint.now in
    let old = c.loop-i.directions in
    let new = c.put.new.self in
    let Is = λ (k : ℕ) (v : Vector6 (Unit {0}) 32). spatial v ≡ spec.direction jt.kind k (mids c.args.axis.now) (rotation.rows c.args.rows.now) in
    let Small = λ (k : ℕ) (v : Vector6 (Unit {0}) 32). Within6 (spatial v) (2 ^ 35) in
    record {
      len = c.put.ensures.len ∙ c.loop-i.invariant.len;
      written = put_from Is no_motion old new jt.dadr c.loop-i.i c.direction.result (c.put.ensures.same no_motion) (c.put.ensures.others no_motion) c.direction.ensures.value c.loop-i.invariant.written;
      small = put_from Small no_motion old new jt.dadr c.loop-i.i c.direction.result (c.put.ensures.same no_motion) (c.put.ensures.others no_motion) c.direction.ensures.size c.loop-i.invariant.small;
      earlier = λ d h. ap spatial (c.put.ensures.others no_motion d (λ e. omega (arith, e, h))) ∙ c.loop-i.invariant.earlier d h;
    }

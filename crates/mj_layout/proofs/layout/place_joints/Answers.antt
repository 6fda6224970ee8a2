use Rattle.std.proofs.Common.{refl, arith}
use Rattle.mj_layout.proofs.PlaceLaws.{joined-start}
use Rattle.mj_layout.proofs.Upheld.{upheld-more}
use Rattle.mj_layout.proofs.layout.place_joints.Goals as goal

pub loop-j-init : goal.loop-j-init
loop-j-init c = record { so_far = record { joints_ = joined-start _ _ c.new.ensures.items; nq = refl; nv = refl }; few = omega arith; less = omega arith }

pub loop-j-preserved : goal.loop-j-preserved
loop-j-preserved c = upheld-more _ _ _ _ _ _ _ c.loop-j.invariant c.placed_joint-x.ensures c.in_ok-push.ensures.items c.position_count.ensures c.velocity_count.ensures refl refl

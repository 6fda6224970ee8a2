use Rattle.std.proofs.Common.{◌≡◌, ℕ, ◌+◌, ◌^◌, ◌<◌, length}
use Rattle.fx_vec.specs.Sizes.{Within6}
use Rattle.fx_vec.specs.Views.{mids}
use Rattle.mj_quat.specs.Rotation as rotation
use Rattle.mj_types.specs.Placed.{spatial_at}
use Rattle.mj_kin.specs.Columns.{direction}
use Rattle.mj_kin.proofs.columns.mark.Given as goal

abbrev pub invariant-loop-i : goal.invariant-loop-i
invariant-loop-i l = record {
  len : length l.directions ≡ length l.initial.directions;
  written : (k : ℕ) → k < l.i → spatial_at l.directions (l.joint.dadr + k) ≡ direction l.joint.kind k (mids l.axis) (rotation.rows l.rows);
  small : (k : ℕ) → k < l.i → Within6 (spatial_at l.directions (l.joint.dadr + k)) (2 ^ 35);
  earlier : (d : ℕ) → d < l.joint.dadr → spatial_at l.directions d ≡ spatial_at l.initial.directions d;
}

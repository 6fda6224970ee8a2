-- Where everything is in a state of a model, and the first number of it that is out of range: a composition of the other files' definitions.
use Rattle.std.specs.Prelude.{ℕ, ◌+◌, ◌<◌, length, Option}
use Rattle.fx_whole.specs.First.{or_first, first_to}
use Rattle.fx_whole.specs.Entries.{below}
use Rattle.fx_vec.specs.Quaternions.{quaternion}
use Rattle.fx_vec.specs.Views.{mids}
use Rattle.mj_quat.specs.Rotation.{IsUnit}
use Rattle.mj_types.specs.declared.model.Model.{Model}
use Rattle.mj_types.specs.declared.state.State.{State}
use Rattle.mj_types.specs.declared.carriers.Frames.{Frames}
use Rattle.mj_types.specs.declared.range.OutOfRange.{OutOfRange}
use Rattle.mj_types.specs.declared.range.Quantity.TheVariants as kind
use Rattle.mj_types.specs.Parts.{geom, no_vector, no_quaternion, no_inertia, no_motion}
use Rattle.mj_types.specs.Placed.{Placing, quaternion_at}
use Rattle.fx_vec.specs.Views.{spatial, inertia}
use Rattle.mj_kin.specs.Poses.{Pose, pose, attached, norm_fault}
use Rattle.mj_kin.specs.Bodies.{center, body_inertia, body_fault, inertia_fault}
use Rattle.mj_kin.specs.Columns.{column, column_fault}

-- ---- geoms
abbrev pub geom_pose : Model → State → ℕ → Pose
geom_pose m s g = attached (pose m s (geom m.geoms g).body) (mids (geom m.geoms g).pos) (quaternion (geom m.geoms g).quat)

abbrev pub geom_fault : Model → State → ℕ → Option OutOfRange
geom_fault m s g = norm_fault kind.GeomNorm (g + 1) (pose m s (geom m.geoms g).body).orientation (quaternion (geom m.geoms g).quat)

-- ---- all together
abbrev pub placing : Model → State → Placing
placing m s = record {
  position = below (mids (no_vector {F = 32})) (length m.bodies) (λ b. (pose m s (b + 1)).position);
  orientation = below (quaternion no_quaternion) (length m.bodies) (λ b. (pose m s (b + 1)).orientation);
  center = below (mids (no_vector {F = 32})) (length m.bodies) (center m s);
  inertia = below (inertia no_inertia) (length m.bodies) (body_inertia m s);
  column = below (spatial (no_motion {F = 32})) m.nv (column m s);
  geom_position = below (mids (no_vector {F = 32})) (length m.geoms) (λ g. (geom_pose m s g).position);
  geom_orientation = below (quaternion no_quaternion) (length m.geoms) (λ g. (geom_pose m s g).orientation);
}

-- all bodies' poses, centres of mass and arms, then all geoms, all inertias, all columns
abbrev pub frames_fault : Model → State → Option OutOfRange
frames_fault m s = or_first (first_to (length m.bodies) (body_fault m s))
    (or_first (first_to (length m.geoms) (geom_fault m s))
    (or_first (first_to (length m.bodies) (inertia_fault m s)) (first_to m.nv (λ d. column_fault d (column m s d)))))

-- ---- what frames keep
-- each geom's orientation is a unit
pub record AreUnits (m : Model) (f : Frames) : Type 0 where
  pub each : (g : ℕ) → g < length m.geoms → IsUnit (quaternion_at f.gquat g)

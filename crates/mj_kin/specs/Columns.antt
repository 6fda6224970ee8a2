-- The motion column of each dof: the spatial velocity (angular; linear) that a unit velocity of it gives, about the reference point of its
-- tree. The usual formulas (Featherstone, Rigid Body Dynamics Algorithms, chapters 2 and 4), rounded by this project's own rule.
use Rattle.std.specs.Prelude.{ℕ, ◌+◌, ◌-◌, ◌^◌, ◌==◌, nat_lt, if◌then◌else◌, ℤ, pos, ◌&&◌, Option}
use Rattle.fx_vec.specs.Vectors.{Triple, no_vector, cross, minus}
use Rattle.fx_vec.specs.Settling.{settled3}
use Rattle.fx_vec.specs.Spatial.{Spatial}
use Rattle.mj_quat.specs.Rotation.{matrix}
use Rattle.mj_types.specs.declared.model.Model.{Model}
use Rattle.mj_types.specs.declared.state.State.{State}
use Rattle.mj_types.specs.declared.parts.JointKind.{JointKind}
use Rattle.mj_types.specs.declared.parts.JointKind.TheVariants as joint_kind
use Rattle.mj_types.specs.declared.range.OutOfRange.{OutOfRange}
use Rattle.mj_types.specs.declared.range.Quantity.TheVariants as kind
use Rattle.mj_types.specs.Parts.{joint, dof}
use Rattle.mj_types.specs.Ranges.{unless}
use Rattle.mj_kin.specs.Poses.{before_joint, after_joint, anchor, axis}
use Rattle.mj_kin.specs.Bodies.{reference, is_near}

-- a motion along a vector, and a rotation about one through the reference point
abbrev pub along : Triple ℤ → Spatial ℤ
along v = record { ang = no_vector; lin = v }

abbrev pub about : Triple ℤ → Spatial ℤ
about v = record { ang = v; lin = no_vector }

-- column i of a matrix, from its rows: the body's i-th axis in the world
abbrev pub column_of : Triple (Triple ℤ) → ℕ → Triple ℤ
column_of rows i =
    if i == 0 then record { x = rows.x.x; y = rows.y.x; z = rows.z.x }
    else (if i == 1 then record { x = rows.x.y; y = rows.y.y; z = rows.z.y } else record { x = rows.x.z; y = rows.y.z; z = rows.z.z })

-- the world's own axes
abbrev pub world_axis : ℕ → Triple ℤ
world_axis i =
    if i == 0 then record { x = pos (2 ^ 32); y = pos 0; z = pos 0 }
    else (if i == 1 then record { x = pos 0; y = pos (2 ^ 32); z = pos 0 } else record { x = pos 0; y = pos 0; z = pos (2 ^ 32) })

-- in which direction dof i of a joint moves: along or about the joint's axis in the world, about the body's axes, and for a free joint
-- along the world's axes first
abbrev pub free_direction : ℕ → Triple (Triple ℤ) → Spatial ℤ
free_direction i rows = if nat_lt i 3 then along (world_axis i) else about (column_of rows (i - 3))

abbrev pub direction : JointKind → ℕ → Triple ℤ → Triple (Triple ℤ) → Spatial ℤ
direction joint_kind.Free i v rows = free_direction i rows
direction joint_kind.Ball i v rows = about (column_of rows i)
direction joint_kind.Hinge i v rows = about v
direction joint_kind.Slide i v rows = along v

-- the same motion through an anchor that is at r from the reference point: a rotation then moves what is there
unfoldable pub through : Triple ℤ → Spatial ℤ → Spatial ℤ
through r s = record { ang = s.ang; lin = settled3 (cross r s.ang) 32 }

abbrev pub column_at : JointKind → Triple ℤ → Spatial ℤ → Spatial ℤ
column_at joint_kind.Free r s = s
column_at joint_kind.Ball r s = through r s
column_at joint_kind.Hinge r s = through r s
column_at joint_kind.Slide r s = s

-- ---- of a model in a state
abbrev pub joint_anchor : Model → State → ℕ → Triple ℤ
joint_anchor m s j = anchor (joint m.joints j) (before_joint m s j)

abbrev pub joint_direction : Model → State → ℕ → ℕ → Spatial ℤ
joint_direction m s j i =
    direction (joint m.joints j).kind i (axis (joint m.joints j) (before_joint m s j)) (matrix (after_joint m s j).orientation)

-- of dof d: the anchor of its joint from the reference point of its tree, and its direction
abbrev pub dof_arm : Model → State → ℕ → Triple ℤ
dof_arm m s d = let j = (dof m.dofs d).joint - 1 in minus (joint_anchor m s j) (reference m s ((joint m.joints j).body - 1))

abbrev pub dof_direction : Model → State → ℕ → Spatial ℤ
dof_direction m s d = joint_direction m s ((dof m.dofs d).joint - 1) (dof m.dofs d).part

abbrev pub column : Model → State → ℕ → Spatial ℤ
column m s d = column_at (joint m.joints ((dof m.dofs d).joint - 1)).kind (dof_arm m s d) (dof_direction m s d)

abbrev pub column_fault : ℕ → Spatial ℤ → Option OutOfRange
column_fault d c = unless (is_near (2 ^ 42) c.ang && is_near (2 ^ 42) c.lin) kind.Column (d + 1)

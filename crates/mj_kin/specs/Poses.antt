-- The pose of each body: its parent's, followed by the body's own offset and by its joints in order. The usual kinematics of a tree
-- (MuJoCo documentation, Computation; Featherstone, Rigid Body Dynamics Algorithms, chapter 4), rounded by this project's own rule.
use Rattle.std.specs.Prelude.{ℕ, zero, suc, ◌+◌, ◌-◌, ◌^◌, ℤ, pos, Option, None}
use Rattle.fx_whole.specs.First.{or_first, first_to}
use Rattle.fx_whole.specs.Tables.{value}
use Rattle.fx_vec.specs.Vectors.{Triple, plus, minus, no_vector}
use Rattle.fx_vec.specs.Settling.{stretched}
use Rattle.fx_vec.specs.Quaternions.{Quaternion, quaternion}
use Rattle.fx_vec.specs.Views.{mids}
use Rattle.mj_quat.specs.Rotation.{product, rotate, unit_quaternion, quaternion_length, is_inside, axis_angle}
use Rattle.mj_types.specs.declared.model.Model.{Model}
use Rattle.mj_types.specs.declared.state.State.{State}
use Rattle.mj_types.specs.declared.parts.Body.{Body}
use Rattle.mj_types.specs.declared.parts.Joint.{Joint}
use Rattle.mj_types.specs.declared.parts.JointKind.{JointKind}
use Rattle.mj_types.specs.declared.parts.JointKind.TheVariants as joint_kind
use Rattle.mj_types.specs.declared.range.OutOfRange.{OutOfRange}
use Rattle.mj_types.specs.declared.range.Quantity.{Quantity}
use Rattle.mj_types.specs.declared.range.Quantity.TheVariants as kind
use Rattle.mj_types.specs.Parts.{body, joint, number_at}
use Rattle.mj_types.specs.Ranges.{unless}

pub record Pose : Type 0 where
  pub position : Triple ℤ
  pub orientation : Quaternion

-- the world's: at the origin, not turned
abbrev pub world : Pose
world = record { position = no_vector; orientation = record { w = pos (2 ^ 32); x = pos 0; y = pos 0; z = pos 0 } }

-- ---- one rotation after another
-- b after a, made a unit again
unfoldable pub followed : Quaternion → Quaternion → Quaternion
followed a b = unit_quaternion (product a b)

-- the fault of that: its length isn't from 1/2 to 2
unfoldable pub norm_fault : Quantity → ℕ → Quaternion → Quaternion → Option OutOfRange
norm_fault what index a b = unless (is_inside (pos (2 ^ 31)) (pos (2 ^ 33)) (quaternion_length (product a b))) what index

-- ---- a point and a frame that are fixed in a body
-- where a point of the body is
unfoldable pub carried : Pose → Triple ℤ → Triple ℤ
carried p x = plus p.position (rotate p.orientation x)

-- a frame at that point of it, turned against it
abbrev pub attached : Pose → Triple ℤ → Quaternion → Pose
attached p x turn = record { position = carried p x; orientation = followed p.orientation turn }

-- a body's pose before its joints move it
abbrev pub offset : Body → Pose → Pose
offset b parent = attached parent (mids b.pos) (quaternion b.quat)

-- ---- joints
-- a joint's anchor and its axis, in the world, as the body stands before the joint moves it
abbrev pub anchor : Joint → Pose → Triple ℤ
anchor j p = carried p (mids j.pos)

unfoldable pub axis : Joint → Pose → Triple ℤ
axis j p = rotate p.orientation (mids j.axis)

-- the pose moved along a direction in the world
unfoldable pub slid : Triple ℤ → ℤ → Pose → Pose
slid along by p = record { position = plus p.position (stretched along by); orientation = p.orientation }

-- the pose with that orientation in which the joint's point of the body is at its anchor
unfoldable pub hung : Joint → Triple ℤ → Quaternion → Pose
hung j at turn = record { position = minus at (rotate turn (mids j.pos)); orientation = turn }

-- three and four positions of a state from a place on
abbrev pub vector_from : (ℕ → ℤ) → ℕ → Triple ℤ
vector_from q i = record { x = q i; y = q (i + 1); z = q (i + 2) }

abbrev pub quaternion_from : (ℕ → ℤ) → ℕ → Quaternion
quaternion_from q i = record { w = q i; x = q (i + 1); y = q (i + 2); z = q (i + 3) }

-- by how much a hinge or a ball turns its body
abbrev pub turn : JointKind → Joint → (ℕ → ℤ) → Quaternion
turn joint_kind.Hinge j q = axis_angle (mids j.axis) (q j.qadr)
turn joint_kind.Ball j q = quaternion_from q j.qadr
turn joint_kind.Free j q = quaternion_from q j.qadr
turn joint_kind.Slide j q = quaternion_from q j.qadr

-- the pose after a joint: free joints set it, slides move it, hinges and balls turn it about their anchor
abbrev pub moved : JointKind → Joint → (ℕ → ℤ) → Pose → Pose
moved joint_kind.Free j q p = record { position = vector_from q j.qadr; orientation = quaternion_from q (j.qadr + 3) }
moved joint_kind.Ball j q p = hung j (anchor j p) (followed p.orientation (turn joint_kind.Ball j q))
moved joint_kind.Hinge j q p = hung j (anchor j p) (followed p.orientation (turn joint_kind.Hinge j q))
moved joint_kind.Slide j q p = slid (axis j p) (q j.qadr) p

abbrev pub moved_fault : ℕ → JointKind → Joint → (ℕ → ℤ) → Pose → Option OutOfRange
moved_fault index joint_kind.Free j q p = None
moved_fault index joint_kind.Ball j q p = norm_fault kind.QuatNorm index p.orientation (turn joint_kind.Ball j q)
moved_fault index joint_kind.Hinge j q p = norm_fault kind.QuatNorm index p.orientation (turn joint_kind.Hinge j q)
moved_fault index joint_kind.Slide j q p = None

-- ---- bodies: body b + 1 stands at the place b
abbrev pub own_joint : Model → ℕ → ℕ → Joint
own_joint m b i = joint m.joints ((body m.bodies b).jntadr + i)

-- the pose after a body's first joints, from where they found it
unfoldable pub after : Model → State → ℕ → Pose → ℕ → Pose
after m s b p zero = p
after m s b p (suc i) = moved (own_joint m b i).kind (own_joint m b i) (number_at s.q) (after m s b p i)

-- the pose of a body from its parent's
abbrev pub body_pose : Model → State → ℕ → Pose → Pose
body_pose m s b parent = after m s b (offset (body m.bodies b) parent) (body m.bodies b).jntnum

-- the pose of each body by its number: that of the world, and of each further body from its parent's
unfoldable pub pose : Model → State → ℕ → Pose
pose m s = value world (λ b earlier. body_pose m s b (earlier (body m.bodies b).parent))

abbrev pub parent_pose : Model → State → ℕ → Pose
parent_pose m s b = pose m s (body m.bodies b).parent

-- and after its first i joints alone
abbrev pub pose_after : Model → State → ℕ → ℕ → Pose
pose_after m s b i = after m s b (offset (body m.bodies b) (parent_pose m s b)) i

-- the pose of a joint's body before that joint moves it, and after it
abbrev pub before_joint : Model → State → ℕ → Pose
before_joint m s j = let b = (joint m.joints j).body - 1 in pose_after m s b (j - (body m.bodies b).jntadr)

abbrev pub after_joint : Model → State → ℕ → Pose
after_joint m s j = moved (joint m.joints j).kind (joint m.joints j) (number_at s.q) (before_joint m s j)

-- ---- the first fault on the way to a body's pose
abbrev pub joint_fault : Model → State → ℕ → ℕ → Option OutOfRange
joint_fault m s b i = moved_fault (b + 1) (own_joint m b i).kind (own_joint m b i) (number_at s.q) (pose_after m s b i)

abbrev pub attached_fault : Model → State → ℕ → Option OutOfRange
attached_fault m s b = norm_fault kind.QuatNorm (b + 1) (parent_pose m s b).orientation (quaternion (body m.bodies b).quat)

abbrev pub pose_fault : Model → State → ℕ → Option OutOfRange
pose_fault m s b = or_first (attached_fault m s b) (first_to (body m.bodies b).jntnum (joint_fault m s b))

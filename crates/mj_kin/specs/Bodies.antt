-- The centre of mass of each body, and its inertia about its tree's reference point, which is where the tree's root body is. The usual
-- formulas (Featherstone, Rigid Body Dynamics Algorithms, chapter 2; MuJoCo documentation, Computation), rounded by this project's own rule.
use Rattle.std.specs.Prelude.{ℕ, ◌+◌, ◌^◌, ℤ, pos, ◌+ℤ◌, ◌-ℤ◌, ◌*ℤ◌, Bool, ◌&&◌, nat_le, unsigned_abs, Option}
use Rattle.fx_whole.specs.First.{or_first}
use Rattle.fx_num.specs.Settled.{settled_mid}
use Rattle.fx_vec.specs.Vectors.{Triple, dot, minus}
use Rattle.fx_vec.specs.Settling.{stretched}
use Rattle.fx_vec.specs.Spatial.{Inertia}
use Rattle.fx_vec.specs.Quaternions.{Quaternion, quaternion}
use Rattle.fx_vec.specs.Views.{mids}
use Rattle.mj_quat.specs.Rotation.{matrix}
use Rattle.mj_types.specs.declared.model.Model.{Model}
use Rattle.mj_types.specs.declared.state.State.{State}
use Rattle.mj_types.specs.declared.parts.Body.{Body}
use Rattle.mj_types.specs.declared.range.OutOfRange.{OutOfRange}
use Rattle.mj_types.specs.declared.range.Quantity.TheVariants as kind
use Rattle.mj_types.specs.Parts.{body}
use Rattle.mj_types.specs.Ranges.{unless}
use Rattle.mj_kin.specs.Poses.{Pose, pose, pose_fault, carried, followed, norm_fault}

-- each number of a vector is at most a limit in size
abbrev pub is_near : ℕ → Triple ℤ → Bool
is_near limit v = nat_le (unsigned_abs v.x) limit && (nat_le (unsigned_abs v.y) limit && nat_le (unsigned_abs v.z) limit)

-- ---- centres of mass
abbrev pub center : Model → State → ℕ → Triple ℤ
center m s b = carried (pose m s (b + 1)) (mids (body m.bodies b).ipos)

-- where the root of a body's tree is
abbrev pub reference : Model → State → ℕ → Triple ℤ
reference m s b = (pose m s (body m.bodies b).root).position

-- the centre of mass from there
abbrev pub arm : Model → State → ℕ → Triple ℤ
arm m s b = minus (center m s b) (reference m s b)

-- ---- inertias
-- the first moment of a mass at r
abbrev pub moment : ℤ → Triple ℤ → Triple ℤ
moment mass r = stretched r mass

-- an entry of X d X^T, for the rows a and b of X: the inertia about the centre of mass, in the world's axes
unfoldable pub turned : Triple ℤ → Triple ℤ → Triple ℤ → ℤ
turned a d b = settled_mid (a.x *ℤ d.x *ℤ b.x +ℤ a.y *ℤ d.y *ℤ b.y +ℤ a.z *ℤ d.z *ℤ b.z) 64

-- what the mass adds to it away from its centre, by the theorem of parallel axes: m . r - m_a r_a on the diagonal, - m_a r_b off it
unfoldable pub shifted : Triple ℤ → Triple ℤ → ℤ → ℤ → ℤ
shifted m r ma ra = settled_mid (dot m r -ℤ ma *ℤ ra) 32

unfoldable pub shifted_off : ℤ → ℤ → ℤ
shifted_off ma rb = settled_mid (pos 0 -ℤ ma *ℤ rb) 32

-- the inertia about a point from which the centre of mass is at r, for the diagonal inertia d in axes that are turned by the matrix x
unfoldable pub inertia_from : ℤ → Triple ℤ → Triple (Triple ℤ) → Triple ℤ → Triple ℤ → Inertia
inertia_from mass d x m r =
    let xy = turned x.x d x.y +ℤ shifted_off m.x r.y in
    let xz = turned x.x d x.z +ℤ shifted_off m.x r.z in
    let yz = turned x.y d x.z +ℤ shifted_off m.y r.z in
    record {
      row_x = record { x = turned x.x d x.x +ℤ shifted m r m.x r.x; y = xy; z = xz };
      row_y = record { x = xy; y = turned x.y d x.y +ℤ shifted m r m.y r.y; z = yz };
      row_z = record { x = xz; y = yz; z = turned x.z d x.z +ℤ shifted m r m.z r.z };
      moment = m;
      mass = mass;
    }

abbrev pub diagonal : Body → Triple ℤ
diagonal b = record { x = b.ixx.mid; y = b.iyy.mid; z = b.izz.mid }

-- the matrix of a body's inertial frame
unfoldable pub inertial_matrix : Body → Quaternion → Triple (Triple ℤ)
inertial_matrix b turn = matrix (followed turn (quaternion b.iquat))

-- the inertia of a body that is turned so and whose centre of mass is at r
unfoldable pub inertia_of : Body → Quaternion → Triple ℤ → Inertia
inertia_of b turn r = inertia_from b.mass.mid (diagonal b) (inertial_matrix b turn) (moment b.mass.mid r) r

abbrev pub body_inertia : Model → State → ℕ → Inertia
body_inertia m s b = inertia_of (body m.bodies b) (pose m s (b + 1)).orientation (arm m s b)

-- ---- the first fault of a body: of its pose, its inertial frame, its places, its arm
abbrev pub place_fault : ℕ → Triple ℤ → Triple ℤ → Option OutOfRange
place_fault index p c = unless (is_near (2 ^ 44) p && is_near (2 ^ 44) c) kind.FramePos index

abbrev pub arm_fault : ℕ → Triple ℤ → Option OutOfRange
arm_fault index r = unless (is_near (2 ^ 40) r) kind.Arm index

-- of a body in that pose, whose tree's reference point is given
abbrev pub standing_fault : ℕ → Body → Pose → Triple ℤ → Option OutOfRange
standing_fault index b p point = or_first
    (norm_fault kind.QuatNorm index p.orientation (quaternion b.iquat))
    (or_first (place_fault index p.position (carried p (mids b.ipos))) (arm_fault index (minus (carried p (mids b.ipos)) point)))

abbrev pub body_fault : Model → State → ℕ → Option OutOfRange
body_fault m s b = or_first (pose_fault m s b) (standing_fault (b + 1) (body m.bodies b) (pose m s (b + 1)) (reference m s b))

-- ---- and of its inertia
abbrev pub is_light : Inertia → Bool
is_light i = is_near (2 ^ 62) i.moment && (is_near (2 ^ 62) i.row_x && (is_near (2 ^ 62) i.row_y && is_near (2 ^ 62) i.row_z))

abbrev pub light_fault : ℕ → Inertia → Option OutOfRange
light_fault b i = unless (is_light i) kind.Inertia (b + 1)

abbrev pub inertia_fault : Model → State → ℕ → Option OutOfRange
inertia_fault m s b = light_fault b (body_inertia m s b)

-- What every accepted model keeps: its numbers are within the limits of the model format, what is named is there, and places follow from the order of bodies and joints.
use Rattle.std.specs.Prelude.{◌≡◌, ◌≢◌, ℕ, suc, ◌+◌, ◌-◌, ◌^◌, ◌<◌, ◌≤◌, ◌==◌, Bool, true, false, not, ◌&&◌, ◌||◌, cond, nat_le, nat_lt, pos, ◌<ℤ◌, ◌≤ℤ◌, int_le, unsigned_abs, IsTrue, List, length, Option, Some, None}
use Rattle.fx_whole.specs.Sums.{sum_ℕ_to}
use Rattle.fx_num.specs.declared.number.Number.{Number}
use Rattle.fx_vec.specs.Sizes.{Within}
use Rattle.fx_vec.specs.Views.{mids}
use Rattle.fx_vec.specs.Quaternions.{WithinQuaternion, quaternion}
use Rattle.fx_vec.specs.declared.vector.Vector3.{Vector3}
use Rattle.mj_types.specs.declared.parts.Soft.{Soft}
use Rattle.mj_types.specs.declared.parts.Range.{Range}
use Rattle.mj_types.specs.declared.parts.Body.{Body}
use Rattle.mj_types.specs.declared.parts.Joint.{Joint}
use Rattle.mj_types.specs.declared.parts.JointKind.{JointKind}
use Rattle.mj_types.specs.declared.parts.JointKind.TheVariants as joint_kind
use Rattle.mj_types.specs.declared.parts.GeomKind.{GeomKind}
use Rattle.mj_types.specs.declared.parts.GeomKind.TheVariants as geom_kind
use Rattle.mj_types.specs.declared.parts.Dof.{Dof}
use Rattle.mj_types.specs.declared.parts.Geom.{Geom}
use Rattle.mj_types.specs.declared.parts.Tendon.{Tendon}
use Rattle.mj_types.specs.declared.parts.Drive.{Drive}
use Rattle.mj_types.specs.declared.parts.Drive.TheVariants as drive
use Rattle.mj_types.specs.declared.parts.Motor.{Motor}
use Rattle.mj_types.specs.declared.parts.Equality.{Equality}
use Rattle.mj_types.specs.Parts.{body, joint, dof, geom, term, tendon, motor, equality, number_at, position_count, velocity_count, first_part}

-- ---- single numbers
-- at most `limit` in size
abbrev pub IsSmall : {F : ℕ} → Number (Unit {0}) F → ℕ → Type 0
IsSmall n limit = unsigned_abs n.mid ≤ limit

-- from 0 to `limit`
pub record IsUpTo {F : ℕ} (n : Number (Unit {0}) F) (limit : ℕ) : Type 0 where
  pub least : pos 0 ≤ℤ n.mid
  pub most : n.mid ≤ℤ pos limit

-- both ends at most `limit` in size, in their order
pub record IsRange (limit : ℕ) (r : Range) : Type 0 where
  pub low : IsSmall r.least limit
  pub high : IsSmall r.greatest limit
  pub order : r.least.mid <ℤ r.greatest.mid

-- where there is a range at all
pub record HasRange (limit : ℕ) (o : Option Range) : Type 0 where
  pub within : (r : Range) → o ≡ Some r → IsRange limit r

-- ---- softness
-- solref's numbers are both above 0, or neither is
abbrev pub has_positive_form : Soft → Bool
has_positive_form s = int_le (pos (2 ^ 20)) s.tc.mid && (int_le s.tc.mid (pos (2 ^ 42)) && (int_le (pos (2 ^ 20)) s.dr.mid && int_le s.dr.mid (pos (2 ^ 42))))

abbrev pub has_direct_form : Soft → Bool
has_direct_form s = int_le s.tc.mid (pos 0) && (nat_le (unsigned_abs s.tc.mid) (2 ^ 52) && (int_le s.dr.mid (pos 0) && nat_le (unsigned_abs s.dr.mid) (2 ^ 52)))

-- an impedance: from 0.0001 to 0.9999
pub record IsImpedance (n : Number (Unit {0}) 32) : Type 0 where
  pub least : pos 429497 ≤ℤ n.mid
  pub most : n.mid ≤ℤ pos 4294537799

pub record IsSoft (s : Soft) : Type 0 where
  pub reference : IsTrue (has_positive_form s || has_direct_form s)
  pub dmin : IsImpedance s.dmin
  pub dmax : IsImpedance s.dmax
  pub midpoint : IsImpedance s.mid
  pub some_width : pos 1 ≤ℤ s.width.mid
  pub width : s.width.mid ≤ℤ pos (2 ^ 42)
  pub some_power : 1 ≤ s.power
  pub power : s.power ≤ 5

-- ---- options
pub record AreOptions (h : Number (Unit {0}) 32) (gravity : Vector3 (Unit {0}) 32) (iterations : ℕ) (tolerance : Number (Unit {0}) 32) (njmax format : ℕ) : Type 0 where
  pub some_time : pos 1 ≤ℤ h.mid
  pub short_time : h.mid ≤ℤ pos (2 ^ 32)
  pub gravity_ : Within (mids gravity) (2 ^ 42)
  pub some_sweep : 1 ≤ iterations
  pub few_sweeps : iterations ≤ 10000
  pub tolerance_ : IsUpTo tolerance (2 ^ 32)
  pub some_row : 1 ≤ njmax
  pub few_rows : njmax ≤ 1024
  pub format_known : 1 ≤ format
  pub format_last : format ≤ 2

-- ---- bodies
pub record IsBody (b : Body) : Type 0 where
  pub pos_ : Within (mids b.pos) (2 ^ 42)
  pub quat : WithinQuaternion (quaternion b.quat) (2 ^ 32)
  pub mass : IsUpTo b.mass (2 ^ 53)
  pub ipos : Within (mids b.ipos) (2 ^ 42)
  pub iquat : WithinQuaternion (quaternion b.iquat) (2 ^ 32)
  pub ixx : IsUpTo b.ixx (2 ^ 53)
  pub iyy : IsUpTo b.iyy (2 ^ 53)
  pub izz : IsUpTo b.izz (2 ^ 53)

pub record AreBodies (bodies : List Body) : Type 0 where
  pub few : length bodies ≤ 128
  pub each : (b : ℕ) → b < length bodies → IsBody (body bodies b)
  -- body b + 1's parent comes before it, and its root is its parent's, or itself on the world
  pub parents : (b : ℕ) → b < length bodies → (body bodies b).parent ≤ b
  pub roots : (b : ℕ) → b < length bodies → (body bodies b).root ≡ cond ((body bodies b).parent == 0) (suc b) (body bodies ((body bodies b).parent - 1)).root

-- ---- joints and dofs
pub record IsJoint (j : Joint) : Type 0 where
  pub pos_ : Within (mids j.pos) (2 ^ 42)
  pub axis : Within (mids j.axis) (2 ^ 32)
  pub range : HasRange (2 ^ 42) j.range
  pub margin : IsUpTo j.margin (2 ^ 42)
  pub stiffness : IsUpTo j.stiffness (2 ^ 52)
  pub springref : IsSmall j.springref (2 ^ 42)
  pub damping : IsUpTo j.damping (2 ^ 52)
  pub armature : IsUpTo j.armature (2 ^ 53)
  pub frictionloss : IsUpTo j.frictionloss (2 ^ 52)
  pub soft : IsSoft j.soft
  pub soft_friction : IsSoft j.soft_friction

abbrev pub is_free : JointKind → Bool
is_free joint_kind.Free = true
is_free joint_kind.Ball = false
is_free joint_kind.Hinge = false
is_free joint_kind.Slide = false

-- one position and one velocity, of which springs, limits, tendons, motors and equalities speak
abbrev pub is_scalar : JointKind → Bool
is_scalar joint_kind.Free = false
is_scalar joint_kind.Ball = false
is_scalar joint_kind.Hinge = true
is_scalar joint_kind.Slide = true

-- the positions and the velocities of the joints before j
abbrev pub positions_before : List Joint → ℕ → ℕ
positions_before joints j = sum_ℕ_to j (λ i. position_count (joint joints i).kind)

abbrev pub velocities_before : List Joint → ℕ → ℕ
velocities_before joints j = sum_ℕ_to j (λ i. velocity_count (joint joints i).kind)

-- the joints stand in the order of their bodies, and positions and velocities in the order of joints
pub record AreJoints (bodies : List Body) (joints : List Joint) (nq nv : ℕ) : Type 0 where
  pub each : (j : ℕ) → j < length joints → IsJoint (joint joints j)
  pub not_world : (j : ℕ) → j < length joints → 1 ≤ (joint joints j).body
  pub on_body : (j : ℕ) → j < length joints → (joint joints j).body ≤ length bodies
  pub qadr : (j : ℕ) → j < length joints → (joint joints j).qadr ≡ positions_before joints j
  pub dadr : (j : ℕ) → j < length joints → (joint joints j).dadr ≡ velocities_before joints j
  pub positions : nq ≡ positions_before joints (length joints)
  pub velocities : nv ≡ velocities_before joints (length joints)
  pub some : 1 ≤ nv
  pub few : nv ≤ 64
  pub few_positions : nq ≤ 128
  -- the joints of body b + 1 are those from its jntadr on
  pub jntadr : (b : ℕ) → b < length bodies → (body bodies b).jntadr ≡ sum_ℕ_to b (λ a. (body bodies a).jntnum)
  pub whole : length joints ≡ sum_ℕ_to (length bodies) (λ a. (body bodies a).jntnum)
  pub earlier : (b j : ℕ) → b < length bodies → j < (body bodies b).jntadr → (joint joints j).body ≤ b
  pub later : (b j : ℕ) → b < length bodies → (body bodies b).jntadr ≤ j → j < length joints → suc b ≤ (joint joints j).body
  pub owned : (b i : ℕ) → b < length bodies → i < (body bodies b).jntnum → (joint joints ((body bodies b).jntadr + i)).body ≡ suc b
  pub dofadr : (b : ℕ) → b < length bodies → (body bodies b).dofadr ≡ velocities_before joints (body bodies b).jntadr
  pub dofend : (b : ℕ) → b < length bodies → (body bodies b).dofadr + (body bodies b).dofnum ≡ velocities_before joints ((body bodies b).jntadr + (body bodies b).jntnum)
  -- a free joint is its body's only one, and its body is on the world
  pub alone : (b i : ℕ) → b < length bodies → i < (body bodies b).jntnum → IsTrue (is_free (joint joints ((body bodies b).jntadr + i)).kind) → (body bodies b).jntnum ≡ 1
  pub rooted : (b i : ℕ) → b < length bodies → i < (body bodies b).jntnum → IsTrue (is_free (joint joints ((body bodies b).jntadr + i)).kind) → (body bodies b).parent ≡ 0

-- dof d is a velocity of its joint, on its joint's body
pub record IsDof (joints : List Joint) (d : ℕ) (x : Dof) : Type 0 where
  pub some : 1 ≤ x.joint
  pub joint_ : x.joint ≤ length joints
  pub part : x.part < velocity_count (joint joints (x.joint - 1)).kind
  pub place : d ≡ (joint joints (x.joint - 1)).dadr + x.part
  pub body_ : x.body ≡ (joint joints (x.joint - 1)).body
  pub base : x.base ≡ (joint joints (x.joint - 1)).dadr + first_part (joint joints (x.joint - 1)).kind x.part

-- and each velocity of a joint is such a dof
pub record AreDofs (joints : List Joint) (dofs : List Dof) (nv : ℕ) : Type 0 where
  pub many : length dofs ≡ nv
  pub each : (d : ℕ) → d < nv → IsDof joints d (dof dofs d)
  pub joints_ : (j i : ℕ) → j < length joints → i < velocity_count (joint joints j).kind → (dof dofs ((joint joints j).dadr + i)).joint ≡ suc j
  pub parts : (j i : ℕ) → j < length joints → i < velocity_count (joint joints j).kind → (dof dofs ((joint joints j).dadr + i)).part ≡ i

-- ---- what is named
-- the number of a hinge or a slide
pub record IsScalar (joints : List Joint) (number : ℕ) : Type 0 where
  pub some : 1 ≤ number
  pub there : number ≤ length joints
  pub kind : IsTrue (is_scalar (joint joints (number - 1)).kind)

-- ---- geoms
abbrev pub is_plane : GeomKind → Bool
is_plane geom_kind.Plane = true
is_plane geom_kind.Sphere = false
is_plane geom_kind.Capsule = false

pub record IsGeom (g : Geom) : Type 0 where
  pub pos_ : Within (mids g.pos) (2 ^ 42)
  pub quat : WithinQuaternion (quaternion g.quat) (2 ^ 32)
  pub radius : IsUpTo g.radius (2 ^ 42)
  pub half : IsUpTo g.half (2 ^ 42)
  pub contype : g.contype < 2 ^ 31
  pub conaffinity : g.conaffinity < 2 ^ 31
  pub condim : IsTrue (g.condim == 1 || g.condim == 3)
  pub friction : IsUpTo g.friction (2 ^ 36)
  pub margin : IsUpTo g.margin (2 ^ 42)
  pub soft : IsSoft g.soft

-- the world's come first; a plane is the world's
pub record AreGeoms (bodies : List Body) (geoms : List Geom) : Type 0 where
  pub few : length geoms ≤ 128
  pub each : (g : ℕ) → g < length geoms → IsGeom (geom geoms g)
  pub on_body : (g : ℕ) → g < length geoms → (geom geoms g).body ≤ length bodies
  pub ordered : (g : ℕ) → g + 1 < length geoms → (geom geoms g).body ≤ (geom geoms (g + 1)).body
  pub planes : (g : ℕ) → g < length geoms → IsTrue (is_plane (geom geoms g).kind) → (geom geoms g).body ≡ 0

-- ---- tendons, motors, equalities
pub record IsTendon (joints : List Joint) (t : Tendon) : Type 0 where
  pub some : 1 ≤ length t.terms
  pub few : length t.terms ≤ 64
  pub scalar : (i : ℕ) → i < length t.terms → IsScalar joints (term t.terms i).joint
  pub coef : (i : ℕ) → i < length t.terms → IsSmall (term t.terms i).coef (2 ^ 42)
  pub once : (i k : ℕ) → i < k → k < length t.terms → (term t.terms i).joint ≢ (term t.terms k).joint
  pub range : HasRange (2 ^ 52) t.range
  pub margin : IsUpTo t.margin (2 ^ 42)
  pub stiffness : IsUpTo t.stiffness (2 ^ 52)
  pub damping : IsUpTo t.damping (2 ^ 52)
  pub springlength : IsSmall t.springlength (2 ^ 52)
  pub soft : IsSoft t.soft

pub record AreTendons (joints : List Joint) (tendons : List Tendon) : Type 0 where
  pub few : length tendons ≤ 64
  pub each : (t : ℕ) → t < length tendons → IsTendon joints (tendon tendons t)

-- what a motor drives is there
abbrev pub drives : List Joint → List Tendon → Drive → Bool
drives joints tendons (drive.Joint number) = nat_lt 0 number && (nat_le number (length joints) && is_scalar (joint joints (number - 1)).kind)
drives joints tendons (drive.Tendon number) = nat_lt 0 number && nat_le number (length tendons)

pub record AreMotors (joints : List Joint) (tendons : List Tendon) (motors : List Motor) : Type 0 where
  pub few : length motors ≤ 64
  pub drive_ : (m : ℕ) → m < length motors → IsTrue (drives joints tendons (motor motors m).drive)
  pub gear : (m : ℕ) → m < length motors → IsSmall (motor motors m).gear (2 ^ 42)
  pub ctrlrange : (m : ℕ) → m < length motors → HasRange (2 ^ 52) (motor motors m).ctrlrange

-- a second joint is there and isn't the first
abbrev pub is_other : List Joint → ℕ → Option ℕ → Bool
is_other joints first None = true
is_other joints first (Some second) = nat_lt 0 second && (nat_le second (length joints) && (is_scalar (joint joints (second - 1)).kind && not (first == second)))

pub record IsEquality (joints : List Joint) (e : Equality) : Type 0 where
  pub joint1 : IsScalar joints e.joint1
  pub joint2 : IsTrue (is_other joints e.joint1 e.joint2)
  pub c0 : IsSmall e.c0 (2 ^ 42)
  pub c1 : IsSmall e.c1 (2 ^ 42)
  pub soft : IsSoft e.soft

pub record AreEqualities (joints : List Joint) (equalities : List Equality) : Type 0 where
  pub few : length equalities ≤ 64
  pub each : (e : ℕ) → e < length equalities → IsEquality joints (equality equalities e)

-- ---- positions and velocities
-- the greatest size of a joint's position: of a quaternion's numbers 1, of an angle 2^20, of a length 2^12
abbrev pub position_limit : JointKind → ℕ → ℕ
position_limit joint_kind.Free i = cond (nat_lt i 3) (2 ^ 44) (2 ^ 32)
position_limit joint_kind.Ball i = 2 ^ 32
position_limit joint_kind.Hinge i = 2 ^ 52
position_limit joint_kind.Slide i = 2 ^ 44

-- one number for each position, each within the limit of its joint
pub record ArePositions (joints : List Joint) (nq : ℕ) (q : List (Number (Unit {0}) 32)) : Type 0 where
  pub many : length q ≡ nq
  pub each : (j i : ℕ) → j < length joints → i < position_count (joint joints j).kind → unsigned_abs (number_at q ((joint joints j).qadr + i)) ≤ position_limit (joint joints j).kind i

-- one number for each velocity, of at most 2^12
pub record AreVelocities (nv : ℕ) (v : List (Number (Unit {0}) 32)) : Type 0 where
  pub many : length v ≡ nv
  pub each : (d : ℕ) → d < nv → unsigned_abs (number_at v d) ≤ 2 ^ 44

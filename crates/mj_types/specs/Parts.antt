-- The parts of a model as functions of a place, from 0: what stands past the end of a list has no parent and no size.
use Rattle.std.specs.Prelude.{ℕ, zero, suc, ℤ, pos, List, [], None, slice_index_or}
use Rattle.fx_num.specs.declared.number.Number.{Number}
use Rattle.fx_vec.specs.declared.vector.Vector3.{Vector3}
use Rattle.fx_vec.specs.declared.vector.Vector6.{Vector6}
use Rattle.fx_vec.specs.declared.vector.Q4.{Q4}
use Rattle.fx_vec.specs.declared.inertia.Inertia10.{Inertia10}
use Rattle.mj_types.specs.declared.parts.Soft.{Soft}
use Rattle.mj_types.specs.declared.parts.Body.{Body}
use Rattle.mj_types.specs.declared.parts.Joint.{Joint}
use Rattle.mj_types.specs.declared.parts.JointKind.{JointKind}
use Rattle.mj_types.specs.declared.parts.JointKind.TheVariants as joint_kind
use Rattle.mj_types.specs.declared.parts.GeomKind.TheVariants as geom_kind
use Rattle.mj_types.specs.declared.parts.Dof.{Dof}
use Rattle.mj_types.specs.declared.parts.Geom.{Geom}
use Rattle.mj_types.specs.declared.parts.Term.{Term}
use Rattle.mj_types.specs.declared.parts.Tendon.{Tendon}
use Rattle.mj_types.specs.declared.parts.Drive.TheVariants as drive
use Rattle.mj_types.specs.declared.parts.Motor.{Motor}
use Rattle.mj_types.specs.declared.parts.Equality.{Equality}

-- a plain number
abbrev pub plain : {F : ℕ} → ℤ → Number (Unit {0}) F
plain n = record { mid = n; rad = tt }

abbrev pub no_vector : {F : ℕ} → Vector3 (Unit {0}) F
no_vector = record { x = plain (pos 0); y = plain (pos 0); z = plain (pos 0) }

abbrev pub no_quaternion : Q4
no_quaternion = record { w = plain (pos 0); x = plain (pos 0); y = plain (pos 0); z = plain (pos 0) }

abbrev pub no_motion : {F : ℕ} → Vector6 (Unit {0}) F
no_motion = record { ang = no_vector; lin = no_vector }

abbrev pub no_inertia : Inertia10
no_inertia = record { xx = pos 0; xy = pos 0; xz = pos 0; yy = pos 0; yz = pos 0; zz = pos 0; mx = pos 0; my = pos 0; mz = pos 0; mass = pos 0 }

abbrev pub no_soft : Soft
no_soft = record { tc = plain (pos 0); dr = plain (pos 0); dmin = plain (pos 0); dmax = plain (pos 0); width = plain (pos 0); mid = plain (pos 0); power = 0 }

abbrev pub no_body : Body
no_body = record { parent = 0; root = 0; pos = no_vector; quat = no_quaternion; mass = plain (pos 0); ipos = no_vector; iquat = no_quaternion; ixx = plain (pos 0); iyy = plain (pos 0); izz = plain (pos 0); jntadr = 0; jntnum = 0; dofadr = 0; dofnum = 0 }

abbrev pub no_joint : Joint
no_joint = record { kind = joint_kind.Slide; body = 0; pos = no_vector; axis = no_vector; qadr = 0; dadr = 0; range = None; margin = plain (pos 0); stiffness = plain (pos 0); springref = plain (pos 0); damping = plain (pos 0); armature = plain (pos 0); frictionloss = plain (pos 0); soft = no_soft; soft_friction = no_soft }

abbrev pub no_dof : Dof
no_dof = record { joint = 0; part = 0; body = 0; base = 0 }

abbrev pub no_geom : Geom
no_geom = record { kind = geom_kind.Sphere; body = 0; pos = no_vector; quat = no_quaternion; radius = plain (pos 0); half = plain (pos 0); contype = 0; conaffinity = 0; condim = 0; friction = plain (pos 0); margin = plain (pos 0); soft = no_soft }

abbrev pub no_term : Term
no_term = record { joint = 0; coef = plain (pos 0) }

abbrev pub no_tendon : Tendon
no_tendon = record { terms = []; range = None; margin = plain (pos 0); stiffness = plain (pos 0); damping = plain (pos 0); springlength = plain (pos 0); soft = no_soft }

abbrev pub no_motor : Motor
no_motor = record { drive = drive.Joint 0; gear = plain (pos 0); ctrlrange = None }

abbrev pub no_equality : Equality
no_equality = record { joint1 = 0; joint2 = None; c0 = plain (pos 0); c1 = plain (pos 0); soft = no_soft }

-- ---- what stands at a place
abbrev pub body : List Body → ℕ → Body
body bodies b = slice_index_or bodies b no_body

abbrev pub joint : List Joint → ℕ → Joint
joint joints j = slice_index_or joints j no_joint

abbrev pub dof : List Dof → ℕ → Dof
dof dofs d = slice_index_or dofs d no_dof

abbrev pub geom : List Geom → ℕ → Geom
geom geoms g = slice_index_or geoms g no_geom

abbrev pub term : List Term → ℕ → Term
term terms t = slice_index_or terms t no_term

abbrev pub tendon : List Tendon → ℕ → Tendon
tendon tendons t = slice_index_or tendons t no_tendon

abbrev pub motor : List Motor → ℕ → Motor
motor motors m = slice_index_or motors m no_motor

abbrev pub equality : List Equality → ℕ → Equality
equality equalities e = slice_index_or equalities e no_equality

-- a plain number of a list
abbrev pub number_at : {F : ℕ} → List (Number (Unit {0}) F) → ℕ → ℤ
number_at xs i = (slice_index_or xs i (plain (pos 0))).mid

-- ---- how many positions and velocities a joint has
abbrev pub position_count : JointKind → ℕ
position_count joint_kind.Free = 7
position_count joint_kind.Ball = 4
position_count joint_kind.Hinge = 1
position_count joint_kind.Slide = 1

abbrev pub velocity_count : JointKind → ℕ
velocity_count joint_kind.Free = 6
velocity_count joint_kind.Ball = 3
velocity_count joint_kind.Hinge = 1
velocity_count joint_kind.Slide = 1

-- the first part of a joint that turns with this one: a free joint's rotations begin at its fourth velocity
abbrev pub first_part : JointKind → ℕ → ℕ
first_part joint_kind.Free zero = 0
first_part joint_kind.Free (suc zero) = 0
first_part joint_kind.Free (suc (suc zero)) = 0
first_part joint_kind.Free (suc (suc (suc part))) = 3
first_part joint_kind.Ball part = 0
first_part joint_kind.Hinge part = 0
first_part joint_kind.Slide part = 0

-- ---- the tree of bodies by their numbers: the world is 0 and has no dofs
abbrev pub parent_of : List Body → ℕ → ℕ
parent_of bodies zero = 0
parent_of bodies (suc b) = (body bodies b).parent

-- the place of a body's first dof; of the world none comes before
abbrev pub first_dof : List Body → ℕ → ℕ
first_dof bodies zero = 0
first_dof bodies (suc b) = (body bodies b).dofadr

-- the number of the body that a dof is of
abbrev pub body_of : List Dof → ℕ → ℕ
body_of dofs d = (dof dofs d).body

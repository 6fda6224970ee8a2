-- The judging of the tables of a raw model, key by key in the order of its lines. What was met earlier
-- stands before an item in its list. Numbers are raw, at scale 32 but for mass, inertia and armature
-- at scale 40. The limits are this project's own.
use Rattle.std.specs.Prelude.{ℕ, ◌+◌, ◌^◌, ◌==◌, ◌&&◌, ◌++◌, Bool, false, not, nat_eq, pos, List, length, take, drop, codes, Option, Some, None, Ok}
use Rattle.mj_types.specs.Parts.{plain, no_vector}
use Rattle.mj_types.specs.declared.parts.Range.{Range}
use Rattle.mj_types.specs.declared.parts.Joint.{Joint}
use Rattle.mj_types.specs.declared.parts.Geom.{Geom}
use Rattle.mj_types.specs.declared.parts.Term.{Term}
use Rattle.mj_types.specs.declared.parts.Tendon.{Tendon}
use Rattle.mj_types.specs.declared.parts.Motor.{Motor}
use Rattle.mj_types.specs.declared.parts.Equality.{Equality}
use Rattle.mj_types.specs.declared.status.ModelCode.TheVariants as code
use Rattle.mj_form.specs.Reading.{Read, ◌>>=◌, ◌>>◌, at_key, under}
use Rattle.mj_read.specs.declared.settings.RawOption.{RawOption}
use Rattle.mj_read.specs.declared.bodies.RawInertial.{RawInertial}
use Rattle.mj_read.specs.declared.bodies.RawBody.{RawBody}
use Rattle.mj_read.specs.declared.joints.RawJoint.{RawJoint}
use Rattle.mj_read.specs.declared.geoms.RawGeom.{RawGeom}
use Rattle.mj_read.specs.declared.tendons.RawTerm.{RawTerm}
use Rattle.mj_read.specs.declared.tendons.RawTendon.{RawTendon}
use Rattle.mj_read.specs.declared.motors.RawMotor.{RawMotor}
use Rattle.mj_read.specs.declared.equalities.RawEquality.{RawEquality}
use Rattle.mj_judge.specs.Judged.{Judged, unless}
use Rattle.mj_judge.specs.Numbers.{Fix, entry, between, small, whole}
use Rattle.mj_judge.specs.Vectors.{vector, diagonal, rotation, axis, unturned}
use Rattle.mj_judge.specs.Softness.{soft_at}
use Rattle.mj_judge.specs.Names.{optional_name}
use Rattle.mj_judge.specs.Choices.{only_text, condim, joint_kind_of, geom_kind_of, range, size}
use Rattle.mj_layout.specs.declared.layout.BodyParts.{BodyParts}
use Rattle.mj_walk.specs.declared.settings.Settings.{Settings}
use Rattle.mj_walk.specs.declared.bodies.Inertia.{Inertia}
use Rattle.mj_walk.specs.Names.{met_joint, met_geom, has_tendon, has_motor, has_equality, body_name, parent_number, scalar_number, term_number, optional_scalar, drive_of, second_number}
use Rattle.mj_walk.specs.Walks.{item, each}

unfoldable pub option : RawOption → Read Settings
option o = do
  h ← at_key (codes "timestep") (between (pos 1) (pos (2 ^ 32)) o.timestep)
  gravity ← at_key (codes "gravity") (vector (2 ^ 42) o.gravity)
  iterations ← at_key (codes "iterations") (whole 1 10000 o.iterations)
  tolerance ← at_key (codes "tolerance") (between (pos 0) (pos (2 ^ 32)) o.tolerance)
  njmax ← at_key (codes "njmax") (whole 1 1024 o.njmax)
  at_key (codes "integrator") (only_text (codes "Euler") o.integrator)
  at_key (codes "cone") (only_text (codes "pyramidal") o.cone)
  at_key (codes "solver") (only_text (codes "PGS") o.solver)
  Ok (record { h = h; gravity = gravity; iterations = iterations; tolerance = tolerance; njmax = njmax })

unfoldable pub inertial : RawInertial → Read Inertia
inertial t = do
  pos_ ← at_key (codes "pos") (vector (2 ^ 42) t.pos)
  quat ← at_key (codes "quat") (rotation t.quat)
  mass ← at_key (codes "mass") (between (pos 0) (pos (2 ^ 53)) t.mass)
  diagonal ← at_key (codes "diaginertia") (diagonal t.diaginertia)
  Ok (record { pos = pos_; quat = quat; mass = mass; diagonal = diagonal })

-- without the table a body has no mass and no inertia
abbrev pub no_inertia : Inertia
no_inertia = record { pos = no_vector; quat = unturned; mass = plain (pos 0); diagonal = no_vector }

unfoldable pub inertia : Option RawInertial → Read Inertia
inertia None = Ok no_inertia
inertia (Some t) = under (codes "inertial" ++ codes ".") (inertial t)

-- a joint of the body with that number, behind the joints that were met
unfoldable pub joint : List RawBody → List RawJoint → ℕ → Bool → RawJoint → Read Joint
joint before earlier number may j = do
  at_key (codes "name") (optional_name (met_joint before earlier) j.name)
  kind ← at_key (codes "type") (joint_kind_of may j.kind)
  pos_ ← at_key (codes "pos") (vector (2 ^ 42) j.pos)
  axis ← at_key (codes "axis") (axis j.axis)
  range ← at_key (codes "range") (range (2 ^ 42) j.range)
  margin ← at_key (codes "margin") (between (pos 0) (pos (2 ^ 42)) j.margin)
  stiffness ← at_key (codes "stiffness") (between (pos 0) (pos (2 ^ 52)) j.stiffness)
  damping ← at_key (codes "damping") (between (pos 0) (pos (2 ^ 52)) j.damping)
  springref ← at_key (codes "springref") (small (2 ^ 42) j.springref)
  armature ← at_key (codes "armature") (between (pos 0) (pos (2 ^ 53)) j.armature)
  frictionloss ← at_key (codes "frictionloss") (between (pos 0) (pos (2 ^ 52)) j.frictionloss)
  soft ← soft_at (codes "solreflimit") j.solreflimit (codes "solimplimit") j.solimplimit
  friction ← soft_at (codes "solreffriction") j.solreffriction (codes "solimpfriction") j.solimpfriction
  Ok (record { kind = kind; body = number; pos = pos_; axis = axis; qadr = 0; dadr = 0; range = range; margin = margin; stiffness = stiffness; springref = springref; damping = damping; armature = armature; frictionloss = frictionloss; soft = soft; soft_friction = friction })

abbrev pub joint_item : List RawBody → List RawJoint → ℕ → Bool → ℕ → RawJoint → Read Joint
joint_item before own number may i j = item (codes "joint") i (joint before (take i own) number may j)

abbrev pub joints : List RawBody → ℕ → Bool → List RawJoint → Read (List Joint)
joints before number may own = each (joint_item before own number may) 0 own

-- a geom of the body with that number, or of the world, behind the geoms that were met
unfoldable pub geom : List RawBody → List RawGeom → ℕ → Bool → RawGeom → Read Geom
geom before earlier number world g = do
  at_key (codes "name") (optional_name (met_geom before earlier) g.name)
  kind ← at_key (codes "type") (geom_kind_of world g.kind)
  extent ← at_key (codes "size") (size kind g.size)
  pos_ ← at_key (codes "pos") (vector (2 ^ 42) g.pos)
  quat ← at_key (codes "quat") (rotation g.quat)
  contype ← at_key (codes "contype") (whole 0 2147483647 g.contype)
  conaffinity ← at_key (codes "conaffinity") (whole 0 2147483647 g.conaffinity)
  dim ← at_key (codes "condim") (condim g.condim)
  friction ← at_key (codes "friction") (between (pos 0) (pos (2 ^ 36)) (entry g.friction 0))
  margin ← at_key (codes "margin") (between (pos 0) (pos (2 ^ 42)) g.margin)
  soft ← soft_at (codes "solref") g.solref (codes "solimp") g.solimp
  Ok (record { kind = kind; body = number; pos = pos_; quat = quat; radius = extent.radius; half = extent.half; contype = contype; conaffinity = conaffinity; condim = dim; friction = friction; margin = margin; soft = soft })

abbrev pub geom_item : List RawBody → List RawGeom → ℕ → Bool → ℕ → RawGeom → Read Geom
geom_item before own number world i g = item (codes "geom") i (geom before (take i own) number world g)

abbrev pub geoms : List RawBody → ℕ → Bool → List RawGeom → Read (List Geom)
geoms before number world own = each (geom_item before own number world) 0 own

-- a joint may be free where it is its body's only one and the body is on the world
abbrev pub may_be_free : ℕ → List RawJoint → Bool
may_be_free parent own = parent == 0 && length own == 1

-- the body behind those before; `rest` are this body and the later ones
unfoldable pub body : List RawBody → List RawBody → ℕ → RawBody → Read BodyParts
body before rest number b = do
  at_key (codes "name") (body_name before b.name)
  parent ← at_key (codes "parent") (parent_number before rest b.parent)
  pos_ ← at_key (codes "pos") (vector (2 ^ 42) b.pos)
  quat ← at_key (codes "quat") (rotation b.quat)
  inertia ← inertia b.inertial
  joints ← joints before number (may_be_free parent b.joint) b.joint
  geoms ← geoms before number false b.geom
  Ok (record { body = record { parent = parent; root = 0; pos = pos_; quat = quat; mass = inertia.mass; ipos = inertia.pos; iquat = inertia.quat; ixx = inertia.diagonal.x; iyy = inertia.diagonal.y; izz = inertia.diagonal.z; jntadr = 0; jntnum = 0; dofadr = 0; dofnum = 0 }; joints = joints; geoms = geoms })

abbrev pub body_item : List RawBody → ℕ → RawBody → Read BodyParts
body_item all i b = item (codes "body") i (body (take i all) (drop i all) (i + 1) b)

abbrev pub bodies : List RawBody → Read (List BodyParts)
bodies all = each (body_item all) 0 all

-- a joint of a tendon, behind those that the tendon names before
unfoldable pub term : List RawJoint → List RawTerm → RawTerm → Read Term
term joints earlier t = do
  joint ← at_key (codes "joint") (term_number joints earlier t.joint)
  coef ← at_key (codes "coef") (small (2 ^ 42) t.coef)
  Ok (record { joint = joint; coef = coef })

abbrev pub term_item : List RawJoint → List RawTerm → ℕ → RawTerm → Read Term
term_item joints all i t = item (codes "joint") i (term joints (take i all) t)

abbrev pub terms : List RawJoint → List RawTerm → Read (List Term)
terms joints all = each (term_item joints all) 0 all

-- a tendon has some joint
abbrev pub some_term : List RawTerm → Read (Unit {0})
some_term terms = at_key (codes "joint") (unless (not (nat_eq (length terms) 0)) code.BadRange)

unfoldable pub tendon : List RawJoint → List RawTendon → RawTendon → Read Tendon
tendon joints earlier t = do
  at_key (codes "name") (optional_name (λ text. has_tendon text earlier) t.name)
  some_term t.joint
  terms ← terms joints t.joint
  range ← at_key (codes "range") (range (2 ^ 52) t.range)
  margin ← at_key (codes "margin") (between (pos 0) (pos (2 ^ 42)) t.margin)
  stiffness ← at_key (codes "stiffness") (between (pos 0) (pos (2 ^ 52)) t.stiffness)
  damping ← at_key (codes "damping") (between (pos 0) (pos (2 ^ 52)) t.damping)
  soft ← soft_at (codes "solreflimit") t.solreflimit (codes "solimplimit") t.solimplimit
  springlength ← at_key (codes "springlength") (small (2 ^ 52) t.springlength)
  Ok (record { terms = terms; range = range; margin = margin; stiffness = stiffness; damping = damping; springlength = springlength; soft = soft })

abbrev pub tendon_item : List RawJoint → List RawTendon → ℕ → RawTendon → Read Tendon
tendon_item joints all i t = item (codes "tendon") i (tendon joints (take i all) t)

abbrev pub tendons : List RawJoint → List RawTendon → Read (List Tendon)
tendons joints all = each (tendon_item joints all) 0 all

unfoldable pub motor : List RawJoint → List RawTendon → List RawMotor → RawMotor → Read Motor
motor joints tendons earlier m = do
  at_key (codes "name") (optional_name (λ text. has_motor text earlier) m.name)
  joint ← at_key (codes "joint") (optional_scalar joints m.joint)
  drive ← at_key (codes "tendon") (drive_of tendons joint m.tendon)
  gear ← at_key (codes "gear") (small (2 ^ 42) m.gear)
  ctrlrange ← at_key (codes "ctrlrange") (range (2 ^ 52) m.ctrlrange)
  Ok (record { drive = drive; gear = gear; ctrlrange = ctrlrange })

abbrev pub motor_item : List RawJoint → List RawTendon → List RawMotor → ℕ → RawMotor → Read Motor
motor_item joints tendons all i m = item (codes "motor") i (motor joints tendons (take i all) m)

abbrev pub motors : List RawJoint → List RawTendon → List RawMotor → Read (List Motor)
motors joints tendons all = each (motor_item joints tendons all) 0 all

-- the two coefficients, as the ends of a range
abbrev pub coefficients : List (Fix 32) → Judged Range
coefficients xs = do
  c0 ← small (2 ^ 42) (entry xs 0)
  c1 ← small (2 ^ 42) (entry xs 1)
  Ok (record { least = c0; greatest = c1 })

unfoldable pub equality : List RawJoint → List RawEquality → RawEquality → Read Equality
equality joints earlier e = do
  at_key (codes "name") (optional_name (λ text. has_equality text earlier) e.name)
  joint1 ← at_key (codes "joint1") (scalar_number joints e.joint1)
  joint2 ← at_key (codes "joint2") (second_number joints joint1 e.joint2)
  c ← at_key (codes "polycoef") (coefficients e.polycoef)
  soft ← soft_at (codes "solref") e.solref (codes "solimp") e.solimp
  Ok (record { joint1 = joint1; joint2 = joint2; c0 = c.least; c1 = c.greatest; soft = soft })

abbrev pub equality_item : List RawJoint → List RawEquality → ℕ → RawEquality → Read Equality
equality_item joints all i e = item (codes "equality") i (equality joints (take i all) e)

abbrev pub equalities : List RawJoint → List RawEquality → Read (List Equality)
equalities joints all = each (equality_item joints all) 0 all

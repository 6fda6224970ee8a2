-- The tables of the model format. Each is walked key by key, in the order of its lines; a key that
-- isn't among a table's keys is refused before all others. Numbers have the scale 32, but armature,
-- mass and diagonal inertia the scale 40.
use Rattle.std.specs.Prelude.{ℕ, pos, Bool, ◌||◌, ◌==◌, if◌then◌else◌, List, [], ◌∷◌, ◌++◌, codes, Ok}
use Rattle.toml.specs.Data.{Members}
use Rattle.mj_form.specs.Reading.{Read, ◌>>=◌, ◌>>◌}
use Rattle.mj_form.specs.Forms.{raw, raws, text, whole, number, numbers, all_numbers}
use Rattle.mj_form.specs.Keys.{only, must, has_key, holds_text, optional, required, otherwise, filled, inside, inside_or_empty, tables, required_tables}
use Rattle.mj_read.specs.Defaults as default
use Rattle.mj_read.specs.declared.settings.RawOption.{RawOption}
use Rattle.mj_read.specs.declared.bodies.RawInertial.{RawInertial}
use Rattle.mj_read.specs.declared.bodies.RawBody.{RawBody}
use Rattle.mj_read.specs.declared.joints.RawJoint.{RawJoint}
use Rattle.mj_read.specs.declared.geoms.RawGeom.{RawGeom}
use Rattle.mj_read.specs.declared.tendons.RawTerm.{RawTerm}
use Rattle.mj_read.specs.declared.tendons.RawTendon.{RawTendon}
use Rattle.mj_read.specs.declared.motors.RawMotor.{RawMotor}
use Rattle.mj_read.specs.declared.equalities.RawEquality.{RawEquality}
use Rattle.mj_read.specs.declared.keyframes.RawKeyframe.{RawKeyframe}

abbrev pub option_keys : List (List ℕ)
option_keys =
    codes "timestep" ∷ codes "gravity" ∷ codes "iterations" ∷ codes "tolerance" ∷ codes "njmax" ∷
    codes "integrator" ∷ codes "cone" ∷ codes "solver" ∷ []

unfoldable pub option : Members → Read RawOption
option t = do
  only option_keys t
  timestep ← otherwise (raw 32 default.timestep) (number 32) (codes "timestep") t
  gravity ← otherwise (raws 32 default.gravity) (numbers 32 3 3) (codes "gravity") t
  iterations ← otherwise (pos 100) whole (codes "iterations") t
  tolerance ← otherwise (raw 32 default.tolerance) (number 32) (codes "tolerance") t
  njmax ← otherwise (pos 512) whole (codes "njmax") t
  integrator ← otherwise (codes "Euler") text (codes "integrator") t
  cone ← otherwise (codes "pyramidal") text (codes "cone") t
  solver ← otherwise (codes "PGS") text (codes "solver") t
  Ok (record { timestep = timestep; gravity = gravity; iterations = iterations; tolerance = tolerance; njmax = njmax; integrator = integrator; cone = cone; solver = solver })

abbrev pub inertial_keys : List (List ℕ)
inertial_keys = codes "pos" ∷ codes "quat" ∷ codes "mass" ∷ codes "diaginertia" ∷ []

unfoldable pub inertial : Members → Read RawInertial
inertial t = do
  only inertial_keys t
  pos_ ← otherwise (raws 32 default.origin) (numbers 32 3 3) (codes "pos") t
  quat ← otherwise (raws 32 default.unturned) (numbers 32 4 4) (codes "quat") t
  mass ← required (number 40) (codes "mass") t
  diaginertia ← otherwise (raws 40 default.origin) (numbers 40 3 3) (codes "diaginertia") t
  Ok (record { pos = pos_; quat = quat; mass = mass; diaginertia = diaginertia })

-- the keys of a free joint, of a ball, and of a hinge or slide
abbrev pub free_keys : List (List ℕ)
free_keys = codes "name" ∷ codes "type" ∷ codes "damping" ∷ codes "armature" ∷ []

abbrev pub ball_keys : List (List ℕ)
ball_keys = codes "name" ∷ codes "type" ∷ codes "pos" ∷ codes "damping" ∷ codes "armature" ∷ []

abbrev pub hinge_keys : List (List ℕ)
hinge_keys =
    codes "name" ∷ codes "type" ∷ codes "pos" ∷ codes "axis" ∷ codes "range" ∷ codes "margin" ∷
    codes "stiffness" ∷ codes "damping" ∷ codes "springref" ∷ codes "armature" ∷
    codes "solreflimit" ∷ codes "solimplimit" ∷ []

-- what format 2 adds
abbrev pub friction_keys : List (List ℕ)
friction_keys = codes "frictionloss" ∷ codes "solreffriction" ∷ codes "solimpfriction" ∷ []

abbrev pub all_joint_keys : ℕ → List (List ℕ)
all_joint_keys format = if format == 2 then hinge_keys ++ friction_keys else hinge_keys

-- a joint's keys by its type: all of them where the type is no free joint's or ball's
abbrev pub joint_keys : ℕ → Members → List (List ℕ)
joint_keys format t =
    if holds_text (codes "type") (codes "free") t then free_keys
    else (if holds_text (codes "type") (codes "ball") t then ball_keys else all_joint_keys format)

unfoldable pub joint : ℕ → Members → Read RawJoint
joint format t = do
  only (joint_keys format t) t
  name ← optional text (codes "name") t
  kind ← otherwise (codes "hinge") text (codes "type") t
  pos_ ← otherwise (raws 32 default.origin) (numbers 32 3 3) (codes "pos") t
  axis ← otherwise (raws 32 default.upward) (numbers 32 3 3) (codes "axis") t
  range ← optional (numbers 32 2 2) (codes "range") t
  margin ← otherwise (raw 32 (pos 0)) (number 32) (codes "margin") t
  stiffness ← otherwise (raw 32 (pos 0)) (number 32) (codes "stiffness") t
  damping ← otherwise (raw 32 (pos 0)) (number 32) (codes "damping") t
  springref ← otherwise (raw 32 (pos 0)) (number 32) (codes "springref") t
  armature ← otherwise (raw 40 (pos 0)) (number 40) (codes "armature") t
  frictionloss ← otherwise (raw 32 (pos 0)) (number 32) (codes "frictionloss") t
  solreflimit ← filled (raws 32 default.solref) (numbers 32 1 2) (codes "solreflimit") t
  solimplimit ← filled (raws 32 default.solimp) (numbers 32 1 5) (codes "solimplimit") t
  solreffriction ← filled (raws 32 default.solref) (numbers 32 1 2) (codes "solreffriction") t
  solimpfriction ← filled (raws 32 default.solimp) (numbers 32 1 5) (codes "solimpfriction") t
  Ok (record { name = name; kind = kind; pos = pos_; axis = axis; range = range; margin = margin; stiffness = stiffness; damping = damping; springref = springref; armature = armature; frictionloss = frictionloss; solreflimit = solreflimit; solimplimit = solimplimit; solreffriction = solreffriction; solimpfriction = solimpfriction })

abbrev pub geom_keys : List (List ℕ)
geom_keys =
    codes "name" ∷ codes "type" ∷ codes "size" ∷ codes "pos" ∷ codes "quat" ∷ codes "contype" ∷
    codes "conaffinity" ∷ codes "condim" ∷ codes "friction" ∷ codes "margin" ∷ codes "solref" ∷
    codes "solimp" ∷ []

-- a geom has a size, unless it is a plane
abbrev pub has_size : Members → Bool
has_size t = holds_text (codes "type") (codes "plane") t || has_key (codes "size") t

unfoldable pub geom : Members → Read RawGeom
geom t = do
  only geom_keys t
  name ← optional text (codes "name") t
  kind ← otherwise (codes "sphere") text (codes "type") t
  must (codes "size") (has_size t)
  size ← optional (numbers 32 1 3) (codes "size") t
  pos_ ← otherwise (raws 32 default.origin) (numbers 32 3 3) (codes "pos") t
  quat ← otherwise (raws 32 default.unturned) (numbers 32 4 4) (codes "quat") t
  contype ← otherwise (pos 1) whole (codes "contype") t
  conaffinity ← otherwise (pos 1) whole (codes "conaffinity") t
  condim ← otherwise (pos 3) whole (codes "condim") t
  friction ← otherwise (raws 32 (default.one ∷ [])) (numbers 32 1 3) (codes "friction") t
  margin ← otherwise (raw 32 (pos 0)) (number 32) (codes "margin") t
  solref ← filled (raws 32 default.solref) (numbers 32 1 2) (codes "solref") t
  solimp ← filled (raws 32 default.solimp) (numbers 32 1 5) (codes "solimp") t
  Ok (record { name = name; kind = kind; size = size; pos = pos_; quat = quat; contype = contype; conaffinity = conaffinity; condim = condim; friction = friction; margin = margin; solref = solref; solimp = solimp })

abbrev pub body_keys : List (List ℕ)
body_keys =
    codes "name" ∷ codes "parent" ∷ codes "pos" ∷ codes "quat" ∷ codes "inertial" ∷ codes "joint" ∷
    codes "geom" ∷ []

unfoldable pub body : ℕ → Members → Read RawBody
body format t = do
  only body_keys t
  name ← required text (codes "name") t
  parent ← otherwise (codes "world") text (codes "parent") t
  pos_ ← otherwise (raws 32 default.origin) (numbers 32 3 3) (codes "pos") t
  quat ← otherwise (raws 32 default.unturned) (numbers 32 4 4) (codes "quat") t
  inertial ← inside inertial (codes "inertial") t
  joint ← tables (joint format) (codes "joint") t
  geom ← tables geom (codes "geom") t
  Ok (record { name = name; parent = parent; pos = pos_; quat = quat; inertial = inertial; joint = joint; geom = geom })

abbrev pub term_keys : List (List ℕ)
term_keys = codes "joint" ∷ codes "coef" ∷ []

unfoldable pub term : Members → Read RawTerm
term t = do
  only term_keys t
  joint ← required text (codes "joint") t
  coef ← required (number 32) (codes "coef") t
  Ok (record { joint = joint; coef = coef })

abbrev pub tendon_keys : List (List ℕ)
tendon_keys =
    codes "name" ∷ codes "joint" ∷ codes "range" ∷ codes "margin" ∷ codes "stiffness" ∷
    codes "damping" ∷ codes "solreflimit" ∷ codes "solimplimit" ∷ codes "springlength" ∷ []

unfoldable pub tendon : Members → Read RawTendon
tendon t = do
  only tendon_keys t
  name ← optional text (codes "name") t
  joint ← required_tables term (codes "joint") t
  range ← optional (numbers 32 2 2) (codes "range") t
  margin ← otherwise (raw 32 (pos 0)) (number 32) (codes "margin") t
  stiffness ← otherwise (raw 32 (pos 0)) (number 32) (codes "stiffness") t
  damping ← otherwise (raw 32 (pos 0)) (number 32) (codes "damping") t
  solreflimit ← filled (raws 32 default.solref) (numbers 32 1 2) (codes "solreflimit") t
  solimplimit ← filled (raws 32 default.solimp) (numbers 32 1 5) (codes "solimplimit") t
  springlength ← otherwise (raw 32 (pos 0)) (number 32) (codes "springlength") t
  Ok (record { name = name; joint = joint; range = range; margin = margin; stiffness = stiffness; damping = damping; solreflimit = solreflimit; solimplimit = solimplimit; springlength = springlength })

abbrev pub motor_keys : List (List ℕ)
motor_keys = codes "name" ∷ codes "joint" ∷ codes "tendon" ∷ codes "gear" ∷ codes "ctrlrange" ∷ []

-- a motor drives a joint or a tendon
abbrev pub names_drive : Members → Bool
names_drive t = has_key (codes "joint") t || has_key (codes "tendon") t

unfoldable pub motor : Members → Read RawMotor
motor t = do
  only motor_keys t
  name ← optional text (codes "name") t
  must (codes "joint") (names_drive t)
  joint ← optional text (codes "joint") t
  tendon ← optional text (codes "tendon") t
  gear ← otherwise (raw 32 default.one) (number 32) (codes "gear") t
  ctrlrange ← optional (numbers 32 2 2) (codes "ctrlrange") t
  Ok (record { name = name; joint = joint; tendon = tendon; gear = gear; ctrlrange = ctrlrange })

abbrev pub equality_keys : List (List ℕ)
equality_keys =
    codes "name" ∷ codes "joint1" ∷ codes "joint2" ∷ codes "polycoef" ∷ codes "solref" ∷
    codes "solimp" ∷ []

unfoldable pub equality : Members → Read RawEquality
equality t = do
  only equality_keys t
  name ← optional text (codes "name") t
  joint1 ← required text (codes "joint1") t
  joint2 ← optional text (codes "joint2") t
  polycoef ← filled (raws 32 default.polycoef) (numbers 32 1 2) (codes "polycoef") t
  solref ← filled (raws 32 default.solref) (numbers 32 1 2) (codes "solref") t
  solimp ← filled (raws 32 default.solimp) (numbers 32 1 5) (codes "solimp") t
  Ok (record { name = name; joint1 = joint1; joint2 = joint2; polycoef = polycoef; solref = solref; solimp = solimp })

abbrev pub keyframe_keys : List (List ℕ)
keyframe_keys = codes "qpos" ∷ codes "qvel" ∷ []

unfoldable pub keyframe : Members → Read RawKeyframe
keyframe t = do
  only keyframe_keys t
  qpos ← optional (all_numbers 32) (codes "qpos") t
  qvel ← optional (all_numbers 32) (codes "qvel") t
  Ok (record { qpos = qpos; qvel = qvel })

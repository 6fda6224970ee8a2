-- The model that a raw model stands for, or its first fault. Counts are judged before all; then the tables
-- are walked in the order of the format.
use Rattle.std.specs.Prelude.{ℕ, ◌++◌, true, List, codes, Ok, Err, Result}
use Rattle.std.specs.List.{flat_map}
use Rattle.fx_num.specs.declared.number.Number.{Number}
use Rattle.fx_vec.specs.declared.vector.Vector3.{Vector3}
use Rattle.mj_types.specs.declared.parts.Body.{Body}
use Rattle.mj_types.specs.declared.parts.Joint.{Joint}
use Rattle.mj_types.specs.declared.parts.Dof.{Dof}
use Rattle.mj_types.specs.declared.parts.Geom.{Geom}
use Rattle.mj_types.specs.declared.parts.Tendon.{Tendon}
use Rattle.mj_types.specs.declared.parts.Motor.{Motor}
use Rattle.mj_types.specs.declared.parts.Equality.{Equality}
use Rattle.mj_types.specs.declared.model.Model.{Model}
use Rattle.mj_types.specs.declared.status.ModelFault.{ModelFault}
use Rattle.mj_form.specs.Reading.{Read, ◌>>=◌, ◌>>◌, at_key, under}
use Rattle.mj_read.specs.declared.bodies.RawBody.{RawBody}
use Rattle.mj_read.specs.declared.joints.RawJoint.{RawJoint}
use Rattle.mj_read.specs.declared.document.RawModel.{RawModel}
use Rattle.mj_read.specs.Document as document
use Rattle.mj_judge.specs.Choices.{format}
use Rattle.mj_layout.specs.declared.layout.Layout.{Layout}
use Rattle.mj_layout.specs.Layout.{layout}
use Rattle.mj_walk.specs.Counts.{counts}
use Rattle.mj_walk.specs.Tables.{option, bodies, geoms, tendons, motors, equalities}
use Rattle.mj_valid.specs.declared.walked.First.{First}
use Rattle.mj_valid.specs.declared.walked.Naming.{Naming}
use Rattle.mj_valid.specs.declared.walked.Walked.{Walked}
use Rattle.mj_form.specs.declared.refusal.Refusal.{Refusal}
use Rattle.mj_read.specs.declared.tendons.RawTendon.{RawTendon}
use Rattle.mj_read.specs.declared.motors.RawMotor.{RawMotor}
use Rattle.mj_read.specs.declared.equalities.RawEquality.{RawEquality}
use Rattle.mj_valid.specs.Start.{start, first_positions, first_velocities, given_qpos, given_qvel}

-- all joints, in the order of their bodies
abbrev pub all_joints : List RawBody → List RawJoint
all_joints raws = flat_map (λ b. b.joint) raws

-- the counts, the options, the bodies and the world's geoms
unfoldable pub first : RawModel → Read First
first raw = do
  counts raw
  number ← at_key (codes "format") (format raw.format)
  settings ← under (codes "option" ++ codes ".") (option raw.option)
  parts ← bodies raw.body
  world ← geoms raw.body 0 true raw.geom
  Ok (record { format = number; settings = settings; parts = parts; world = world })

-- what names joints
unfoldable pub naming : List RawJoint → List RawTendon → List RawMotor → List RawEquality → Read Naming
naming joints raw_tendons raw_motors raw_equalities = do
  tendons ← tendons joints raw_tendons
  motors ← motors joints raw_tendons raw_motors
  equalities ← equalities joints raw_equalities
  Ok (record { tendons = tendons; motors = motors; equalities = equalities })

-- the tables but for the keyframe
unfoldable pub walked : RawModel → Read Walked
walked raw = do
  f ← first raw
  s ← naming (all_joints raw.body) raw.tendon raw.motor raw.equality
  Ok (record { first = f; naming = s; keyframe = raw.keyframe })

-- what a model holds, beside what is known of it
pub record Accepted : Type 0 where
  pub format : ℕ
  pub h : Number (Unit {0}) 32
  pub gravity : Vector3 (Unit {0}) 32
  pub iterations : ℕ
  pub tolerance : Number (Unit {0}) 32
  pub njmax : ℕ
  pub nq : ℕ
  pub nv : ℕ
  pub bodies : List Body
  pub joints : List Joint
  pub dofs : List Dof
  pub geoms : List Geom
  pub tendons : List Tendon
  pub motors : List Motor
  pub equalities : List Equality
  pub qpos0 : List (Number (Unit {0}) 32)
  pub qvel0 : List (Number (Unit {0}) 32)

abbrev pub accepted_of : Model → Accepted
accepted_of m = record { format = m.format; h = m.h; gravity = m.gravity; iterations = m.iterations; tolerance = m.tolerance; njmax = m.njmax; nq = m.nq; nv = m.nv; bodies = m.bodies; joints = m.joints; dofs = m.dofs; geoms = m.geoms; tendons = m.tendons; motors = m.motors; equalities = m.equalities; qpos0 = m.qpos0; qvel0 = m.qvel0 }

abbrev pub accepted : Walked → Layout → List (Number (Unit {0}) 32) → List (Number (Unit {0}) 32) → Accepted
accepted w l q v = record { format = w.first.format; h = w.first.settings.h; gravity = w.first.settings.gravity; iterations = w.first.settings.iterations; tolerance = w.first.settings.tolerance; njmax = w.first.settings.njmax; nq = l.nq; nv = l.nv; bodies = l.bodies; joints = l.joints; dofs = l.dofs; geoms = l.geoms; tendons = w.naming.tendons; motors = w.naming.motors; equalities = w.naming.equalities; qpos0 = q; qvel0 = v }

-- then the keyframe, over the joints with their places
abbrev pub started : Walked → Layout → Read Accepted
started w l = do
  start l.joints l.nq l.nv w.keyframe
  Ok (accepted w l (first_positions l.bodies l.joints (given_qpos w.keyframe)) (first_velocities l.nv (given_qvel w.keyframe)))

abbrev pub finished : Walked → Read Accepted
finished w = started w (layout w.first.parts w.first.world)

unfoldable pub judged : RawModel → Read Accepted
judged raw = walked raw >>= finished

-- the same of an answer inside, where memory may be wanted
abbrev pub told_inside : Result Model (Refusal ModelFault) → Result Accepted (Refusal ModelFault)
told_inside (Ok m) = Ok (accepted_of m)
told_inside (Err refusal) = Err refusal

-- the answer of a call: a model by what it holds
abbrev pub told : Result Model ModelFault → Read Accepted
told (Ok m) = Ok (accepted_of m)
told (Err fault) = Err fault

-- and of bytes: what they are read as is judged
abbrev pub judged_bytes : List ℕ → Read Accepted
judged_bytes bytes = document.raw_model bytes >>= judged

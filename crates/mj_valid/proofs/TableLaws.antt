-- What an accepted table says of its object.
use Rattle.std.proofs.Common.{◌≡◌, ℕ, ◌^◌, ◌≤◌, ◌++◌, Bool, true, false, not, List, length, codes, Option, Some, None, Ok, pos, refl, subst, arith}
use Rattle.std.specs.Prelude.{nat_eq}
use Rattle.fx_vec.specs.Sizes.{Within}
use Rattle.fx_vec.specs.Views.{mids}
use Rattle.fx_vec.specs.Quaternions.{quaternion, WithinQuaternion}
use Rattle.std.specs.Int.Signed.{le_z_yes}
use Rattle.mj_types.specs.declared.parts.Range.{Range}
use Rattle.mj_types.specs.declared.parts.Joint.{Joint}
use Rattle.mj_types.specs.declared.parts.Geom.{Geom}
use Rattle.mj_types.specs.declared.parts.Term.{Term}
use Rattle.mj_types.specs.declared.parts.Tendon.{Tendon}
use Rattle.mj_types.specs.declared.parts.Motor.{Motor}
use Rattle.mj_types.specs.declared.parts.Equality.{Equality}
use Rattle.mj_types.specs.declared.status.ModelCode.TheVariants as code
use Rattle.mj_types.specs.Lawful.{AreOptions, IsBody, IsJoint, IsGeom, HasRange, IsUpTo, IsSmall, IsSoft}
use Rattle.mj_form.specs.Reading.{at_key}
use Rattle.mj_read.specs.declared.settings.RawOption.{RawOption}
use Rattle.mj_read.specs.declared.bodies.RawInertial.{RawInertial}
use Rattle.mj_read.specs.declared.bodies.RawBody.{RawBody}
use Rattle.mj_read.specs.declared.joints.RawJoint.{RawJoint}
use Rattle.mj_read.specs.declared.geoms.RawGeom.{RawGeom}
use Rattle.mj_read.specs.declared.tendons.RawTerm.{RawTerm}
use Rattle.mj_read.specs.declared.tendons.RawTendon.{RawTendon}
use Rattle.mj_read.specs.declared.motors.RawMotor.{RawMotor}
use Rattle.mj_read.specs.declared.equalities.RawEquality.{RawEquality}
use Rattle.mj_judge.specs.Judged.{unless}
use Rattle.mj_judge.specs.Numbers.{Fix, entry, between, small, whole}
use Rattle.mj_judge.specs.Vectors.{vector, diagonal, rotation, axis}
use Rattle.mj_judge.specs.Softness.{soft_at}
use Rattle.mj_judge.specs.Names.{optional_name}
use Rattle.mj_judge.specs.Choices.{only_text, condim, joint_kind_of, geom_kind_of, range, size}
use Rattle.mj_layout.specs.declared.layout.BodyParts.{BodyParts}
use Rattle.mj_walk.specs.declared.settings.Settings.{Settings}
use Rattle.mj_walk.specs.declared.bodies.Inertia.{Inertia}
use Rattle.mj_walk.specs.Names.{met_joint, met_geom, has_tendon, has_motor, has_equality, body_name, parent_number, scalar_number, term_number, optional_scalar, drive_of, second_number}
use Rattle.mj_walk.specs.Tables as walk
use Rattle.mj_walk.specs.Tables.{inertia, joints, geoms, may_be_free, terms, some_term, coefficients}
use Rattle.mj_valid.proofs.Chains.{chain, ok-same, at_key-ok, under-ok, unless-good}
use Rattle.mj_valid.proofs.KeyLaws.{between-is, up_to, up_to_size, whole-is, vector-at, rotation-at, axis-at, IsDiagonal, diagonal-at, range-at, soft-at, condim-is, size-is, small-is}

pub record IsOption (x : Settings) (f : ℕ) : Type 0 where
  pub of : 1 ≤ f → f ≤ 2 → AreOptions x.h x.gravity x.iterations x.tolerance x.njmax f

-- a joint, its body and its type
pub record IsJudgedJoint (number : ℕ) (may : Bool) (j : RawJoint) (x : Joint) : Type 0 where
  pub joint_ : IsJoint x
  pub owned : x.body ≡ number
  pub kind_ : joint_kind_of may j.kind ≡ Ok x.kind

pub record IsJudgedGeom (number : ℕ) (world : Bool) (g : RawGeom) (x : Geom) : Type 0 where
  pub geom_ : IsGeom x
  pub worn : x.body ≡ number
  pub kind_ : geom_kind_of world g.kind ≡ Ok x.kind

pub record IsInertia (x : Inertia) : Type 0 where
  pub pos_ : Within (mids x.pos) (2 ^ 42)
  pub quat : WithinQuaternion (quaternion x.quat) (2 ^ 32)
  pub mass : IsUpTo x.mass (2 ^ 53)
  pub diagonal_ : IsDiagonal x.diagonal

pub joint-is : (before : List RawBody) (earlier : List RawJoint) (number : ℕ) (may : Bool) (j : RawJoint) (x : Joint) → walk.joint before earlier number may j ≡ Ok x → IsJudgedJoint number may j x
unfolding walk.joint
joint-is before earlier number may j x h0 =
    chain (at_key (codes "name") (optional_name (met_joint before earlier) j.name)) _ x h0 (λ u0 u0-is h1.
    chain (at_key (codes "type") (joint_kind_of may j.kind)) _ x h1 (λ kind kind-is h2.
    chain (at_key (codes "pos") (vector (2 ^ 42) j.pos)) _ x h2 (λ pos_ pos_-is h3.
    chain (at_key (codes "axis") (axis j.axis)) _ x h3 (λ axis axis-is h4.
    chain (at_key (codes "range") (range (2 ^ 42) j.range)) _ x h4 (λ range range-is h5.
    chain (at_key (codes "margin") (between (pos 0) (pos (2 ^ 42)) j.margin)) _ x h5 (λ margin margin-is h6.
    chain (at_key (codes "stiffness") (between (pos 0) (pos (2 ^ 52)) j.stiffness)) _ x h6 (λ stiffness stiffness-is h7.
    chain (at_key (codes "damping") (between (pos 0) (pos (2 ^ 52)) j.damping)) _ x h7 (λ damping damping-is h8.
    chain (at_key (codes "springref") (small (2 ^ 42) j.springref)) _ x h8 (λ springref springref-is h9.
    chain (at_key (codes "armature") (between (pos 0) (pos (2 ^ 53)) j.armature)) _ x h9 (λ armature armature-is h10.
    chain (at_key (codes "frictionloss") (between (pos 0) (pos (2 ^ 52)) j.frictionloss)) _ x h10 (λ frictionloss frictionloss-is h11.
    chain (soft_at (codes "solreflimit") j.solreflimit (codes "solimplimit") j.solimplimit) _ x h11 (λ soft soft-is h12.
    chain (soft_at (codes "solreffriction") j.solreffriction (codes "solimpfriction") j.solimpfriction) _ x h12 (λ friction friction-is h13.
    (let P : Joint → Type 0 = λ x. IsJudgedJoint number may j x in subst P (ok-same _ _ h13) (record {
      joint_ = record { pos_ = vector-at (codes "pos") (2 ^ 42) j.pos pos_ pos_-is; axis = axis-at (codes "axis") j.axis axis axis-is; range = range-at (codes "range") (2 ^ 42) j.range range range-is; margin = up_to (codes "margin") (2 ^ 42) j.margin margin margin-is; stiffness = up_to (codes "stiffness") (2 ^ 52) j.stiffness stiffness stiffness-is; springref = up_to_size (codes "springref") (2 ^ 42) j.springref springref springref-is; damping = up_to (codes "damping") (2 ^ 52) j.damping damping damping-is; armature = up_to (codes "armature") (2 ^ 53) j.armature armature armature-is; frictionloss = up_to (codes "frictionloss") (2 ^ 52) j.frictionloss frictionloss frictionloss-is; soft = soft-at (codes "solreflimit") (codes "solimplimit") j.solreflimit j.solimplimit soft soft-is; soft_friction = soft-at (codes "solreffriction") (codes "solimpfriction") j.solreffriction j.solimpfriction friction friction-is };
      owned = refl;
      kind_ = at_key-ok (codes "type") (joint_kind_of may j.kind) kind kind-is;
    })))))))))))))))

pub geom-is : (before : List RawBody) (earlier : List RawGeom) (number : ℕ) (world : Bool) (g : RawGeom) (x : Geom) → walk.geom before earlier number world g ≡ Ok x → IsJudgedGeom number world g x
unfolding walk.geom
geom-is before earlier number world g x h0 =
    chain (at_key (codes "name") (optional_name (met_geom before earlier) g.name)) _ x h0 (λ u0 u0-is h1.
    chain (at_key (codes "type") (geom_kind_of world g.kind)) _ x h1 (λ kind kind-is h2.
    chain (at_key (codes "size") (size kind g.size)) _ x h2 (λ extent extent-is h3.
    chain (at_key (codes "pos") (vector (2 ^ 42) g.pos)) _ x h3 (λ pos_ pos_-is h4.
    chain (at_key (codes "quat") (rotation g.quat)) _ x h4 (λ quat quat-is h5.
    chain (at_key (codes "contype") (whole 0 2147483647 g.contype)) _ x h5 (λ contype contype-is h6.
    chain (at_key (codes "conaffinity") (whole 0 2147483647 g.conaffinity)) _ x h6 (λ conaffinity conaffinity-is h7.
    chain (at_key (codes "condim") (condim g.condim)) _ x h7 (λ dim dim-is h8.
    chain (at_key (codes "friction") (between (pos 0) (pos (2 ^ 36)) (entry g.friction 0))) _ x h8 (λ friction friction-is h9.
    chain (at_key (codes "margin") (between (pos 0) (pos (2 ^ 42)) g.margin)) _ x h9 (λ margin margin-is h10.
    chain (soft_at (codes "solref") g.solref (codes "solimp") g.solimp) _ x h10 (λ soft soft-is h11.
    (let P : Geom → Type 0 = λ x. IsJudgedGeom number world g x in subst P (ok-same _ _ h11) (record {
      geom_ = record { pos_ = vector-at (codes "pos") (2 ^ 42) g.pos pos_ pos_-is; quat = rotation-at (codes "quat") g.quat quat quat-is; radius = (size-is kind g.size extent (at_key-ok (codes "size") (size kind g.size) extent extent-is)).radius; half = (size-is kind g.size extent (at_key-ok (codes "size") (size kind g.size) extent extent-is)).half; contype = omega (arith, (whole-is 0 2147483647 g.contype contype (at_key-ok (codes "contype") (whole 0 2147483647 g.contype) contype contype-is)).1); conaffinity = omega (arith, (whole-is 0 2147483647 g.conaffinity conaffinity (at_key-ok (codes "conaffinity") (whole 0 2147483647 g.conaffinity) conaffinity conaffinity-is)).1); condim = condim-is g.condim dim (at_key-ok (codes "condim") (condim g.condim) dim dim-is); friction = up_to (codes "friction") (2 ^ 36) (entry g.friction 0) friction friction-is; margin = up_to (codes "margin") (2 ^ 42) g.margin margin margin-is; soft = soft-at (codes "solref") (codes "solimp") g.solref g.solimp soft soft-is };
      worn = refl;
      kind_ = at_key-ok (codes "type") (geom_kind_of world g.kind) kind kind-is;
    })))))))))))))

pub option-is : (f : ℕ) (o : RawOption) (x : Settings) → walk.option o ≡ Ok x → IsOption x f
unfolding walk.option
option-is f o x h0 =
    chain (at_key (codes "timestep") (between (pos 1) (pos (2 ^ 32)) o.timestep)) _ x h0 (λ h h-is h1.
    chain (at_key (codes "gravity") (vector (2 ^ 42) o.gravity)) _ x h1 (λ gravity gravity-is h2.
    chain (at_key (codes "iterations") (whole 1 10000 o.iterations)) _ x h2 (λ iterations iterations-is h3.
    chain (at_key (codes "tolerance") (between (pos 0) (pos (2 ^ 32)) o.tolerance)) _ x h3 (λ tolerance tolerance-is h4.
    chain (at_key (codes "njmax") (whole 1 1024 o.njmax)) _ x h4 (λ njmax njmax-is h5.
    chain (at_key (codes "integrator") (only_text (codes "Euler") o.integrator)) _ x h5 (λ u5 u5-is h6.
    chain (at_key (codes "cone") (only_text (codes "pyramidal") o.cone)) _ x h6 (λ u6 u6-is h7.
    chain (at_key (codes "solver") (only_text (codes "PGS") o.solver)) _ x h7 (λ u7 u7-is h8.
    (let P : Settings → Type 0 = λ x. IsOption x f in subst P (ok-same _ _ h8) (record {
      of = λ some last. (let n = whole-is 1 10000 o.iterations iterations (at_key-ok (codes "iterations") (whole 1 10000 o.iterations) iterations iterations-is) in let m = whole-is 1 1024 o.njmax njmax (at_key-ok (codes "njmax") (whole 1 1024 o.njmax) njmax njmax-is) in let t = between-is (pos 1) (pos (2 ^ 32)) o.timestep h (at_key-ok (codes "timestep") (between (pos 1) (pos (2 ^ 32)) o.timestep) h h-is) in record { some_time = t.0; short_time = t.1; gravity_ = vector-at (codes "gravity") (2 ^ 42) o.gravity gravity gravity-is; some_sweep = n.0; few_sweeps = n.1; tolerance_ = up_to (codes "tolerance") (2 ^ 32) o.tolerance tolerance tolerance-is; some_row = m.0; few_rows = m.1; format_known = some; format_last = last });
    }))))))))))

pub inertial-is : (t : RawInertial) (x : Inertia) → walk.inertial t ≡ Ok x → IsInertia x
unfolding walk.inertial
inertial-is t x h0 =
    chain (at_key (codes "pos") (vector (2 ^ 42) t.pos)) _ x h0 (λ pos_ pos_-is h1.
    chain (at_key (codes "quat") (rotation t.quat)) _ x h1 (λ quat quat-is h2.
    chain (at_key (codes "mass") (between (pos 0) (pos (2 ^ 53)) t.mass)) _ x h2 (λ mass mass-is h3.
    chain (at_key (codes "diaginertia") (diagonal t.diaginertia)) _ x h3 (λ diagonal diagonal-is h4.
    (let P : Inertia → Type 0 = λ x. IsInertia x in subst P (ok-same _ _ h4) (record {
      pos_ = vector-at (codes "pos") (2 ^ 42) t.pos pos_ pos_-is;
      quat = rotation-at (codes "quat") t.quat quat quat-is;
      mass = up_to (codes "mass") (2 ^ 53) t.mass mass mass-is;
      diagonal_ = diagonal-at (codes "diaginertia") t.diaginertia diagonal diagonal-is;
    }))))))

pub inertia-is : (o : Option RawInertial) (x : Inertia) → walk.inertia o ≡ Ok x → IsInertia x
unfolding walk.inertia
inertia-is None x h =
    subst IsInertia (ok-same walk.no_inertia x h) (record {
      pos_ = record { x = omega arith; y = omega arith; z = omega arith };
      quat = record { w = omega arith; x = omega arith; y = omega arith; z = omega arith };
      mass = record { least = le_z_yes tt; most = le_z_yes tt };
      diagonal_ = record { x = record { least = le_z_yes tt; most = le_z_yes tt }; y = record { least = le_z_yes tt; most = le_z_yes tt }; z = record { least = le_z_yes tt; most = le_z_yes tt } };
    })
inertia-is (Some t) x h = inertial-is t x (under-ok (codes "inertial" ++ codes ".") (walk.inertial t) x h)

pub record IsJudgedTerm (raws : List RawJoint) (earlier : List RawTerm) (t : RawTerm) (x : Term) : Type 0 where
  pub number : term_number raws earlier t.joint ≡ Ok x.joint
  pub coef : IsSmall x.coef (2 ^ 42)

pub record IsJudgedTendon (raws : List RawJoint) (t : RawTendon) (x : Tendon) : Type 0 where
  pub some : not (nat_eq (length t.joint) 0) ≡ true
  pub terms_ : terms raws t.joint ≡ Ok x.terms
  pub range_ : HasRange (2 ^ 52) x.range
  pub margin : IsUpTo x.margin (2 ^ 42)
  pub stiffness : IsUpTo x.stiffness (2 ^ 52)
  pub damping : IsUpTo x.damping (2 ^ 52)
  pub springlength : IsSmall x.springlength (2 ^ 52)
  pub soft : IsSoft x.soft

pub record IsJudgedMotor (raws : List RawJoint) (raw_tendons : List RawTendon) (x : Motor) : Type 0 where
  pub joint_ : Option ℕ
  pub text : Option (List ℕ)
  pub other : Option (List ℕ)
  pub scalar : optional_scalar raws text ≡ Ok joint_
  pub drive_ : drive_of raw_tendons joint_ other ≡ Ok x.drive
  pub gear : IsSmall x.gear (2 ^ 42)
  pub ctrlrange : HasRange (2 ^ 52) x.ctrlrange

pub record IsJudgedEquality (raws : List RawJoint) (e : RawEquality) (x : Equality) : Type 0 where
  pub joint1 : scalar_number raws e.joint1 ≡ Ok x.joint1
  pub joint2 : second_number raws x.joint1 e.joint2 ≡ Ok x.joint2
  pub c0 : IsSmall x.c0 (2 ^ 42)
  pub c1 : IsSmall x.c1 (2 ^ 42)
  pub soft : IsSoft x.soft

pub record IsJudgedBody (before rest : List RawBody) (number : ℕ) (b : RawBody) (x : BodyParts) : Type 0 where
  pub parent : parent_number before rest b.parent ≡ Ok x.body.parent
  pub joints_ : joints before number (may_be_free x.body.parent b.joint) b.joint ≡ Ok x.joints
  pub geoms_ : geoms before number false b.geom ≡ Ok x.geoms
  pub body_ : IsBody x.body

coefficients-is : (xs : List (Fix 32)) (r : Range) → coefficients xs ≡ Ok r → IsSmall r.least (2 ^ 42) × IsSmall r.greatest (2 ^ 42)
coefficients-is xs r h =
    chain (small (2 ^ 42) (entry xs 0)) _ r h (λ a a-is h1.
    chain (small (2 ^ 42) (entry xs 1)) _ r h1 (λ b b-is h2.
    (let P : Range → Type 0 = λ q. IsSmall q.least (2 ^ 42) × IsSmall q.greatest (2 ^ 42) in
    subst P (ok-same _ _ h2) (small-is (2 ^ 42) (entry xs 0) a a-is, small-is (2 ^ 42) (entry xs 1) b b-is))))

pub term-is : (joints : List RawJoint) (earlier : List RawTerm) (t : RawTerm) (x : Term) → walk.term joints earlier t ≡ Ok x → IsJudgedTerm joints earlier t x
unfolding walk.term
term-is joints earlier t x h0 =
    chain (at_key (codes "joint") (term_number joints earlier t.joint)) _ x h0 (λ joint joint-is h1.
    chain (at_key (codes "coef") (small (2 ^ 42) t.coef)) _ x h1 (λ coef coef-is h2.
    (let P : Term → Type 0 = λ x. IsJudgedTerm joints earlier t x in subst P (ok-same _ _ h2) (record {
      number = at_key-ok (codes "joint") (term_number joints earlier t.joint) joint joint-is;
      coef = up_to_size (codes "coef") (2 ^ 42) t.coef coef coef-is;
    }))))

pub tendon-is : (joints : List RawJoint) (earlier : List RawTendon) (t : RawTendon) (x : Tendon) → walk.tendon joints earlier t ≡ Ok x → IsJudgedTendon joints t x
unfolding walk.tendon
tendon-is joints earlier t x h0 =
    chain (at_key (codes "name") (optional_name (λ text. has_tendon text earlier) t.name)) _ x h0 (λ u0 u0-is h1.
    chain (some_term t.joint) _ x h1 (λ u1 u1-is h2.
    chain (terms joints t.joint) _ x h2 (λ terms terms-is h3.
    chain (at_key (codes "range") (range (2 ^ 52) t.range)) _ x h3 (λ range range-is h4.
    chain (at_key (codes "margin") (between (pos 0) (pos (2 ^ 42)) t.margin)) _ x h4 (λ margin margin-is h5.
    chain (at_key (codes "stiffness") (between (pos 0) (pos (2 ^ 52)) t.stiffness)) _ x h5 (λ stiffness stiffness-is h6.
    chain (at_key (codes "damping") (between (pos 0) (pos (2 ^ 52)) t.damping)) _ x h6 (λ damping damping-is h7.
    chain (soft_at (codes "solreflimit") t.solreflimit (codes "solimplimit") t.solimplimit) _ x h7 (λ soft soft-is h8.
    chain (at_key (codes "springlength") (small (2 ^ 52) t.springlength)) _ x h8 (λ springlength springlength-is h9.
    (let P : Tendon → Type 0 = λ x. IsJudgedTendon joints t x in subst P (ok-same _ _ h9) (record {
      some = unless-good (not (nat_eq (length t.joint) 0)) code.BadRange u1 (at_key-ok (codes "joint") (unless (not (nat_eq (length t.joint) 0)) code.BadRange) u1 u1-is);
      terms_ = terms-is;
      range_ = range-at (codes "range") (2 ^ 52) t.range range range-is;
      margin = up_to (codes "margin") (2 ^ 42) t.margin margin margin-is;
      stiffness = up_to (codes "stiffness") (2 ^ 52) t.stiffness stiffness stiffness-is;
      damping = up_to (codes "damping") (2 ^ 52) t.damping damping damping-is;
      springlength = up_to_size (codes "springlength") (2 ^ 52) t.springlength springlength springlength-is;
      soft = soft-at (codes "solreflimit") (codes "solimplimit") t.solreflimit t.solimplimit soft soft-is;
    })))))))))))

pub motor-is : (joints : List RawJoint) (tendons : List RawTendon) (earlier : List RawMotor) (m : RawMotor) (x : Motor) → walk.motor joints tendons earlier m ≡ Ok x → IsJudgedMotor joints tendons x
unfolding walk.motor
motor-is joints tendons earlier m x h0 =
    chain (at_key (codes "name") (optional_name (λ text. has_motor text earlier) m.name)) _ x h0 (λ u0 u0-is h1.
    chain (at_key (codes "joint") (optional_scalar joints m.joint)) _ x h1 (λ joint joint-is h2.
    chain (at_key (codes "tendon") (drive_of tendons joint m.tendon)) _ x h2 (λ drive drive-is h3.
    chain (at_key (codes "gear") (small (2 ^ 42) m.gear)) _ x h3 (λ gear gear-is h4.
    chain (at_key (codes "ctrlrange") (range (2 ^ 52) m.ctrlrange)) _ x h4 (λ ctrlrange ctrlrange-is h5.
    (let P : Motor → Type 0 = λ x. IsJudgedMotor joints tendons x in subst P (ok-same _ _ h5) (record {
      joint_ = joint;
      text = m.joint;
      other = m.tendon;
      scalar = at_key-ok (codes "joint") (optional_scalar joints m.joint) joint joint-is;
      drive_ = at_key-ok (codes "tendon") (drive_of tendons joint m.tendon) drive drive-is;
      gear = up_to_size (codes "gear") (2 ^ 42) m.gear gear gear-is;
      ctrlrange = range-at (codes "ctrlrange") (2 ^ 52) m.ctrlrange ctrlrange ctrlrange-is;
    })))))))

pub equality-is : (joints : List RawJoint) (earlier : List RawEquality) (e : RawEquality) (x : Equality) → walk.equality joints earlier e ≡ Ok x → IsJudgedEquality joints e x
unfolding walk.equality
equality-is joints earlier e x h0 =
    chain (at_key (codes "name") (optional_name (λ text. has_equality text earlier) e.name)) _ x h0 (λ u0 u0-is h1.
    chain (at_key (codes "joint1") (scalar_number joints e.joint1)) _ x h1 (λ joint1 joint1-is h2.
    chain (at_key (codes "joint2") (second_number joints joint1 e.joint2)) _ x h2 (λ joint2 joint2-is h3.
    chain (at_key (codes "polycoef") (coefficients e.polycoef)) _ x h3 (λ c c-is h4.
    chain (soft_at (codes "solref") e.solref (codes "solimp") e.solimp) _ x h4 (λ soft soft-is h5.
    (let P : Equality → Type 0 = λ x. IsJudgedEquality joints e x in subst P (ok-same _ _ h5) (record {
      joint1 = at_key-ok (codes "joint1") (scalar_number joints e.joint1) joint1 joint1-is;
      joint2 = at_key-ok (codes "joint2") (second_number joints joint1 e.joint2) joint2 joint2-is;
      c0 = (coefficients-is e.polycoef c (at_key-ok (codes "polycoef") (coefficients e.polycoef) c c-is)).0;
      c1 = (coefficients-is e.polycoef c (at_key-ok (codes "polycoef") (coefficients e.polycoef) c c-is)).1;
      soft = soft-at (codes "solref") (codes "solimp") e.solref e.solimp soft soft-is;
    })))))))

pub body-is : (before rest : List RawBody) (number : ℕ) (b : RawBody) (x : BodyParts) → walk.body before rest number b ≡ Ok x → IsJudgedBody before rest number b x
unfolding walk.body
body-is before rest number b x h0 =
    chain (at_key (codes "name") (body_name before b.name)) _ x h0 (λ u0 u0-is h1.
    chain (at_key (codes "parent") (parent_number before rest b.parent)) _ x h1 (λ parent parent-is h2.
    chain (at_key (codes "pos") (vector (2 ^ 42) b.pos)) _ x h2 (λ pos_ pos_-is h3.
    chain (at_key (codes "quat") (rotation b.quat)) _ x h3 (λ quat quat-is h4.
    chain (inertia b.inertial) _ x h4 (λ inertia inertia-is_ h5.
    chain (joints before number (may_be_free parent b.joint) b.joint) _ x h5 (λ joints joints-is h6.
    chain (geoms before number false b.geom) _ x h6 (λ geoms geoms-is h7.
    (let P : BodyParts → Type 0 = λ x. IsJudgedBody before rest number b x in subst P (ok-same _ _ h7) (record {
      parent = at_key-ok (codes "parent") (parent_number before rest b.parent) parent parent-is;
      joints_ = joints-is;
      geoms_ = geoms-is;
      body_ = (let i = inertia-is b.inertial inertia inertia-is_ in record { pos_ = vector-at (codes "pos") (2 ^ 42) b.pos pos_ pos_-is; quat = rotation-at (codes "quat") b.quat quat quat-is; mass = i.mass; ipos = i.pos_; iquat = i.quat; ixx = i.diagonal_.x; iyy = i.diagonal_.y; izz = i.diagonal_.z });
    })))))))))

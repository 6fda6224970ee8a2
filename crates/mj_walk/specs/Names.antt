-- What a name stands for among the objects of a raw model that were met, or among all of them. This
-- project's own.
use Rattle.std.specs.Prelude.{ℕ, suc, Bool, false, ◌&&◌, ◌||◌, not, ◌==◌, if◌then◌else◌, List, codes, bytes_eq, Option, Some, None, Ok, Err}
use Rattle.std.specs.List.{list_any, position}
use Rattle.mj_types.specs.declared.parts.JointKind.{JointKind}
use Rattle.mj_types.specs.declared.parts.Drive.{Drive}
use Rattle.mj_types.specs.declared.parts.Drive.TheVariants as drive
use Rattle.mj_types.specs.declared.status.ModelCode.TheVariants as code
use Rattle.mj_types.specs.Lawful.{is_scalar}
use Rattle.mj_form.specs.Reading.{◌>>=◌, ◌>>◌}
use Rattle.mj_read.specs.declared.bodies.RawBody.{RawBody}
use Rattle.mj_read.specs.declared.joints.RawJoint.{RawJoint}
use Rattle.mj_read.specs.declared.geoms.RawGeom.{RawGeom}
use Rattle.mj_read.specs.declared.tendons.RawTerm.{RawTerm}
use Rattle.mj_read.specs.declared.tendons.RawTendon.{RawTendon}
use Rattle.mj_read.specs.declared.motors.RawMotor.{RawMotor}
use Rattle.mj_read.specs.declared.equalities.RawEquality.{RawEquality}
use Rattle.mj_judge.specs.Judged.{Judged, unless}
use Rattle.mj_judge.specs.Names.{is_named, name}
use Rattle.mj_judge.specs.Choices.{joint_type}

-- ---- some object of a list has the name
abbrev pub has_body : List ℕ → List RawBody → Bool
has_body text bodies = list_any (λ b. bytes_eq b.name text) bodies

abbrev pub has_joint : List ℕ → List RawJoint → Bool
has_joint text joints = list_any (λ j. is_named text j.name) joints

abbrev pub has_geom : List ℕ → List RawGeom → Bool
has_geom text geoms = list_any (λ g. is_named text g.name) geoms

abbrev pub has_tendon : List ℕ → List RawTendon → Bool
has_tendon text tendons = list_any (λ t. is_named text t.name) tendons

abbrev pub has_motor : List ℕ → List RawMotor → Bool
has_motor text motors = list_any (λ m. is_named text m.name) motors

abbrev pub has_equality : List ℕ → List RawEquality → Bool
has_equality text equalities = list_any (λ e. is_named text e.name) equalities

abbrev pub has_term : List ℕ → List RawTerm → Bool
has_term text terms = list_any (λ t. bytes_eq t.joint text) terms

-- a joint or a geom of the bodies before, or of the same body before
abbrev pub met_joint : List RawBody → List RawJoint → List ℕ → Bool
met_joint before earlier text = list_any (λ b. has_joint text b.joint) before || has_joint text earlier

abbrev pub met_geom : List RawBody → List RawGeom → List ℕ → Bool
met_geom before earlier text = list_any (λ b. has_geom text b.geom) before || has_geom text earlier

-- ---- bodies: a name is new and isn't the world's; a parent is the world or a body before
unfoldable pub body_name : List RawBody → List ℕ → Judged (Unit {0})
body_name before text = name (bytes_eq text (codes "world") || has_body text before) text

abbrev pub parent_at : Option ℕ → Bool → Judged ℕ
parent_at (Some place) later = Ok (suc place)
parent_at None later = if later then Err code.ParentLater else Err code.UnknownName

unfoldable pub parent_number : List RawBody → List RawBody → List ℕ → Judged ℕ
parent_number before rest text =
    if bytes_eq text (codes "world") then Ok 0
    else parent_at (position (λ b. bytes_eq b.name text) before) (has_body text rest)

-- ---- the number of the hinge or slide with a name
abbrev pub is_scalar_type : Option JointKind → Bool
is_scalar_type None = false
is_scalar_type (Some kind) = is_scalar kind

abbrev pub is_scalar_named : List ℕ → RawJoint → Bool
is_scalar_named text j = is_named text j.name && is_scalar_type (joint_type j.kind)

abbrev pub number_at : Option ℕ → Judged ℕ
number_at None = Err code.UnknownName
number_at (Some place) = Ok (suc place)

unfoldable pub scalar_number : List RawJoint → List ℕ → Judged ℕ
scalar_number joints text = number_at (position (is_scalar_named text) joints)

unfoldable pub tendon_number : List RawTendon → List ℕ → Judged ℕ
tendon_number tendons text = number_at (position (λ t. is_named text t.name) tendons)

-- a tendon's joint, which it doesn't name before
unfoldable pub term_number : List RawJoint → List RawTerm → List ℕ → Judged ℕ
term_number joints earlier text = unless (not (has_term text earlier)) code.DuplicateName >> scalar_number joints text

-- a motor's joint, where it names one
abbrev pub some_number : ℕ → Judged (Option ℕ)
some_number number = Ok (Some number)

unfoldable pub optional_scalar : List RawJoint → Option (List ℕ) → Judged (Option ℕ)
optional_scalar joints None = Ok None
optional_scalar joints (Some text) = scalar_number joints text >>= some_number

-- a motor's tendon, unless it names a joint
abbrev pub joint_drive : Option ℕ → Judged Drive
joint_drive None = Err code.MissingKey
joint_drive (Some number) = Ok (drive.Joint number)

abbrev pub tendon_drive : Option ℕ → ℕ → Judged Drive
tendon_drive None number = Ok (drive.Tendon number)
tendon_drive (Some joint) number = Err code.BadRange

unfoldable pub drive_of : List RawTendon → Option ℕ → Option (List ℕ) → Judged Drive
drive_of tendons joint None = joint_drive joint
drive_of tendons joint (Some text) = tendon_number tendons text >>= tendon_drive joint

-- an equality's second joint, which isn't its first
abbrev pub other_number : ℕ → ℕ → Judged (Option ℕ)
other_number first number = if number == first then Err code.BadRange else Ok (Some number)

unfoldable pub second_number : List RawJoint → ℕ → Option (List ℕ) → Judged (Option ℕ)
second_number joints first None = Ok None
second_number joints first (Some text) = scalar_number joints text >>= other_number first

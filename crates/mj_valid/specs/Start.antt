-- Where a run starts: at the keyframe's positions and velocities, or else at rest where the bodies are.
-- Its limits are this project's own.
use Rattle.std.specs.Prelude.{ℕ, zero, suc, ◌+◌, ◌-◌, ◌^◌, ◌==◌, ◌&&◌, Bool, true, pos, List, [], ◌∷◌, ◌++◌, length, replicate, codes, Option, Some, None, Ok, Err, is_ok}
use Rattle.fx_whole.specs.Joined.{joined}
use Rattle.fx_vec.specs.declared.vector.Q4.{Q4}
use Rattle.mj_types.specs.Parts.{plain, body, joint}
use Rattle.mj_types.specs.declared.parts.Body.{Body}
use Rattle.mj_types.specs.declared.parts.Joint.{Joint}
use Rattle.mj_types.specs.declared.parts.JointKind.{JointKind}
use Rattle.mj_types.specs.declared.parts.JointKind.TheVariants as joint_kind
use Rattle.mj_types.specs.declared.status.ModelCode.TheVariants as code
use Rattle.mj_form.specs.Reading.{Read, ◌>>=◌, ◌>>◌, at_key, under}
use Rattle.mj_read.specs.declared.keyframes.RawKeyframe.{RawKeyframe}
use Rattle.mj_judge.specs.Judged.{Judged, unless, limited}
pub use Rattle.mj_judge.specs.Numbers.{Fix, entry, is_small}
use Rattle.mj_judge.specs.Vectors.{four_at, is_small_quaternion, turned, unturned}

-- p at each place below n
abbrev pub all_to : ℕ → (ℕ → Bool) → Bool
all_to zero p = true
all_to (suc n) p = all_to n p && p n

abbrev pub numbers_of : Q4 → List (Fix 32)
numbers_of q = q.w ∷ q.x ∷ q.y ∷ q.z ∷ []

-- ---- without a keyframe: a free joint is where its body is, and the others are at 0
abbrev pub rest_positions : Body → JointKind → List (Fix 32)
rest_positions b joint_kind.Free = b.pos.x ∷ b.pos.y ∷ b.pos.z ∷ b.quat.w ∷ b.quat.x ∷ b.quat.y ∷ b.quat.z ∷ []
rest_positions b joint_kind.Ball = numbers_of unturned
rest_positions b joint_kind.Hinge = plain (pos 0) ∷ []
rest_positions b joint_kind.Slide = plain (pos 0) ∷ []

abbrev pub rest_at : List Body → List Joint → ℕ → List (Fix 32)
rest_at bodies joints j = rest_positions (body bodies ((joint joints j).body - 1)) (joint joints j).kind

-- ---- with one: quaternions are made units
abbrev pub quaternion_at : List (Fix 32) → ℕ → Q4
quaternion_at xs i = four_at xs i (i + 1) (i + 2) (i + 3)

unfoldable pub unit_of : Q4 → Judged Q4
unit_of q = limited (is_small_quaternion (2 ^ 42) q) q >>= turned

abbrev pub value_or : Q4 → Judged Q4 → Q4
value_or q (Ok r) = r
value_or q (Err code) = q

unfoldable pub settled : List (Fix 32) → ℕ → Q4
settled xs i = value_or (quaternion_at xs i) (unit_of (quaternion_at xs i))

abbrev pub given_positions : List (Fix 32) → ℕ → JointKind → List (Fix 32)
given_positions xs i joint_kind.Free = entry xs i ∷ entry xs (i + 1) ∷ entry xs (i + 2) ∷ (settled xs (i + 3)).w ∷ (settled xs (i + 3)).x ∷ (settled xs (i + 3)).y ∷ (settled xs (i + 3)).z ∷ []
given_positions xs i joint_kind.Ball = numbers_of (settled xs i)
given_positions xs i joint_kind.Hinge = entry xs i ∷ []
given_positions xs i joint_kind.Slide = entry xs i ∷ []

abbrev pub given_at : List (Fix 32) → List Joint → ℕ → List (Fix 32)
given_at xs joints j = given_positions xs (joint joints j).qadr (joint joints j).kind

-- each number of a joint is within its limit
abbrev pub is_near : List (Fix 32) → ℕ → Bool
is_near xs i = is_small (2 ^ 44) (entry xs i).mid && (is_small (2 ^ 44) (entry xs (i + 1)).mid && is_small (2 ^ 44) (entry xs (i + 2)).mid)

abbrev pub in_limits : List (Fix 32) → ℕ → JointKind → Bool
in_limits xs i joint_kind.Free = is_near xs i && is_small_quaternion (2 ^ 42) (quaternion_at xs (i + 3))
in_limits xs i joint_kind.Ball = is_small_quaternion (2 ^ 42) (quaternion_at xs i)
in_limits xs i joint_kind.Hinge = is_small (2 ^ 52) (entry xs i).mid
in_limits xs i joint_kind.Slide = is_small (2 ^ 44) (entry xs i).mid

-- its quaternion, if it has one, can be made a unit
abbrev pub is_turned : List (Fix 32) → ℕ → JointKind → Bool
is_turned xs i joint_kind.Free = is_ok (unit_of (quaternion_at xs (i + 3)))
is_turned xs i joint_kind.Ball = is_ok (unit_of (quaternion_at xs i))
is_turned xs i joint_kind.Hinge = true
is_turned xs i joint_kind.Slide = true

abbrev pub are_in_limits : List Joint → List (Fix 32) → Bool
are_in_limits joints xs = all_to (length joints) (λ j. in_limits xs (joint joints j).qadr (joint joints j).kind)

abbrev pub are_turned : List Joint → List (Fix 32) → Bool
are_turned joints xs = all_to (length joints) (λ j. is_turned xs (joint joints j).qadr (joint joints j).kind)

-- ---- the keyframe's two keys: how many numbers there are, then their limits, then units
unfoldable pub qpos : List Joint → ℕ → List (Fix 32) → Judged (Unit {0})
qpos joints nq xs = do
  unless (length xs == nq) code.BadRange
  unless (are_in_limits joints xs) code.LimitPassed
  unless (are_turned joints xs) code.NotUnit

unfoldable pub qvel : ℕ → List (Fix 32) → Judged (Unit {0})
qvel nv xs = do
  unless (length xs == nv) code.BadRange
  unless (all_to nv (λ d. is_small (2 ^ 44) (entry xs d).mid)) code.LimitPassed

abbrev pub if_given : (List (Fix 32) → Judged (Unit {0})) → Option (List (Fix 32)) → Judged (Unit {0})
if_given judge None = Ok tt
if_given judge (Some xs) = judge xs

unfoldable pub keyframe : List Joint → ℕ → ℕ → RawKeyframe → Read (Unit {0})
keyframe joints nq nv k = do
  at_key (codes "qpos") (if_given (qpos joints nq) k.qpos)
  at_key (codes "qvel") (if_given (qvel nv) k.qvel)
  Ok tt

abbrev pub start : List Joint → ℕ → ℕ → Option RawKeyframe → Read (Unit {0})
start joints nq nv None = Ok tt
start joints nq nv (Some k) = under (codes "keyframe" ++ codes ".") (keyframe joints nq nv k)

-- ---- the first positions and velocities
abbrev pub given_qpos : Option RawKeyframe → Option (List (Fix 32))
given_qpos None = None
given_qpos (Some k) = k.qpos

abbrev pub given_qvel : Option RawKeyframe → Option (List (Fix 32))
given_qvel None = None
given_qvel (Some k) = k.qvel

abbrev pub positions_at : List Body → List Joint → Option (List (Fix 32)) → ℕ → List (Fix 32)
positions_at bodies joints None j = rest_at bodies joints j
positions_at bodies joints (Some xs) j = given_at xs joints j

unfoldable pub first_positions : List Body → List Joint → Option (List (Fix 32)) → List (Fix 32)
first_positions bodies joints given = joined (length joints) (positions_at bodies joints given)

abbrev pub first_velocities : ℕ → Option (List (Fix 32)) → List (Fix 32)
first_velocities nv None = replicate nv (plain (pos 0))
first_velocities nv (Some xs) = xs

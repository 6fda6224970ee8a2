-- Vectors, quaternions and axes of the model format. Quaternions and axes are made units, unless they are
-- too short: a rule of this project's own.
use Rattle.std.specs.Prelude.{ℕ, ◌^◌, ℤ, pos, Bool, ◌&&◌, int_le, if◌then◌else◌, List, Ok, Err}
use Rattle.fx_vec.specs.Vectors.{Triple}
use Rattle.fx_vec.specs.Views.{mids}
use Rattle.fx_vec.specs.Quaternions.{Quaternion, quaternion}
use Rattle.fx_vec.specs.declared.vector.Vector3.{Vector3}
use Rattle.fx_vec.specs.declared.vector.Q4.{Q4}
use Rattle.mj_quat.specs.Rotation.{is_inside, quaternion_length, vector_length, unit_quaternion, unit_vector}
use Rattle.mj_types.specs.Parts.{plain}
use Rattle.mj_types.specs.declared.status.ModelCode.TheVariants as code
use Rattle.mj_form.specs.Reading.{◌>>=◌}
use Rattle.mj_judge.specs.Judged.{Judged, limited}
use Rattle.mj_judge.specs.Numbers.{Fix, entry, is_small, is_between}

-- a vector and a quaternion of the code with these numbers
abbrev pub vector_of : {F : ℕ} → Triple ℤ → Vector3 (Unit {0}) F
vector_of v = record { x = plain v.x; y = plain v.y; z = plain v.z }

abbrev pub quaternion_of : Quaternion → Q4
quaternion_of q = record { w = plain q.w; x = plain q.x; y = plain q.y; z = plain q.z }

-- the first numbers of a list
abbrev pub three : {F : ℕ} → List (Fix F) → Vector3 (Unit {0}) F
three xs = record { x = entry xs 0; y = entry xs 1; z = entry xs 2 }

-- four of them, from a place on
abbrev pub four_at : List (Fix 32) → ℕ → ℕ → ℕ → ℕ → Q4
four_at xs i j k l = record { w = entry xs i; x = entry xs j; y = entry xs k; z = entry xs l }

abbrev pub are_small : {F : ℕ} → ℕ → Vector3 (Unit {0}) F → Bool
are_small limit v = is_small limit v.x.mid && (is_small limit v.y.mid && is_small limit v.z.mid)

abbrev pub are_between : {F : ℕ} → ℤ → ℤ → Vector3 (Unit {0}) F → Bool
are_between least most v = is_between least most v.x.mid && (is_between least most v.y.mid && is_between least most v.z.mid)

abbrev pub is_small_quaternion : ℕ → Q4 → Bool
is_small_quaternion limit q = is_small limit q.w.mid && (is_small limit q.x.mid && (is_small limit q.y.mid && is_small limit q.z.mid))

-- a vector whose numbers are at most that size
unfoldable pub vector : ℕ → List (Fix 32) → Judged (Vector3 (Unit {0}) 32)
vector limit xs = limited (are_small limit (three xs)) (three xs)

-- the three numbers of a diagonal inertia, each from 0 to 8192
unfoldable pub diagonal : List (Fix 40) → Judged (Vector3 (Unit {0}) 40)
diagonal xs = limited (are_between (pos 0) (pos (2 ^ 53)) (three xs)) (three xs)

-- the unit in a quaternion's direction; its length is at least 2^-10
abbrev pub is_long : Q4 → Bool
is_long q = is_inside (pos (2 ^ 22)) (pos (2 ^ 43)) (quaternion_length (quaternion q))

unfoldable pub turned : Q4 → Judged Q4
turned q = if is_long q then Ok (quaternion_of (unit_quaternion (quaternion q))) else Err code.NotUnit

-- a quaternion whose numbers are at most 1024 in size, made a unit
unfoldable pub rotation : List (Fix 32) → Judged Q4
rotation xs = limited (is_small_quaternion (2 ^ 42) (four_at xs 0 1 2 3)) (four_at xs 0 1 2 3) >>= turned

-- the unit in a vector's direction; its length is at least 2^-10
unfoldable pub direction : Vector3 (Unit {0}) 32 → Judged (Vector3 (Unit {0}) 32)
direction v = if int_le (pos (2 ^ 22)) (vector_length (mids v)) then Ok (vector_of (unit_vector (mids v))) else Err code.NotUnit

-- an axis whose numbers are at most 1024 in size, made a unit
unfoldable pub axis : List (Fix 32) → Judged (Vector3 (Unit {0}) 32)
axis xs = vector (2 ^ 42) xs >>= direction

-- no rotation
abbrev pub unturned : Q4
unturned = record { w = plain (pos (2 ^ 32)); x = plain (pos 0); y = plain (pos 0); z = plain (pos 0) }

-- How large the numbers of a unit and of its axis are.
use Rattle.std.proofs.Common.{ℕ, ◌+◌, ◌*◌, ◌^◌, ◌≤◌, ℤ, pos, ◌-ℤ◌, ◌*ℤ◌, ◌≤ℤ◌, unsigned_abs, arith, mul-le-mul, inl, inr}
use Rattle.std.proofs.lemmas.Bool.{cases_lt}
use Rattle.std.proofs.lemmas.Int.{ints}
use Rattle.fx_whole.proofs.Ring.{square_nonneg, abs_square}
use Rattle.fx_vec.specs.Quaternions.{Quaternion, WithinQuaternion}
use Rattle.mj_quat.specs.Rotation.{IsUnit, square_sum}
use Rattle.mj_quat.proofs.RotationLaws.{matrix-sharp}
use Rattle.mj_touch.specs.Solids.{axis, IsDirection}

below_two : (n : ℕ) → n * n ≤ 2 ^ 65 → n ≤ 2 ^ 33
below_two n h =
    elim (cases_lt (2 ^ 33) n) [
      | inl l ↦ (let p : (2 ^ 33 + 1) * (2 ^ 33 + 1) ≤ n * n = mul-le-mul l l in absurd (omega arith))
      | inr l ↦ l
    ]

-- one of four squares whose sum is about 1
one_within : (a s : ℤ) → (a *ℤ a) ≤ℤ s → unsigned_abs (s -ℤ pos (2 ^ 64)) ≤ 2 ^ 35 + 1 → unsigned_abs a ≤ 2 ^ 33
one_within a s h u = below_two (unsigned_abs a) (omega (arith, ints, abs_square a))

pub unit-within : (q : Quaternion) → IsUnit q → WithinQuaternion q (2 ^ 33)
unit-within q u =
    let w = square_nonneg q.w in
    let x = square_nonneg q.x in
    let y = square_nonneg q.y in
    let z = square_nonneg q.z in
    record {
      w = one_within q.w (square_sum q) (omega (arith, ints, x, y, z)) u.near;
      x = one_within q.x (square_sum q) (omega (arith, ints, w, y, z)) u.near;
      y = one_within q.y (square_sum q) (omega (arith, ints, w, x, z)) u.near;
      z = one_within q.z (square_sum q) (omega (arith, ints, w, x, y)) u.near;
    }

pub axis-sharp : (q : Quaternion) → IsUnit q → IsDirection (axis q)
axis-sharp q u =
    let m = matrix-sharp q u in
    record { x = m.x.z; y = m.y.z; z = m.z.z }

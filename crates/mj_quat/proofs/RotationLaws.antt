-- Rounded sums of products: how large they are, and in which order they are added.
use Rattle.std.proofs.Common.{◌≡◌, ℕ, ◌+◌, ◌*◌, ◌^◌, ◌≤◌, ℤ, pos, ◌+ℤ◌, ◌-ℤ◌, ◌*ℤ◌, ◌≤ℤ◌, unsigned_abs, arith, mul-le-mul}
use Rattle.std.proofs.lemmas.Int.{ints, unsigned_abs-mul}
use Rattle.fx_whole.proofs.NearestLaws.{nearest-within, nearest-within_twice}
use Rattle.fx_whole.proofs.Ring.{ring, square_nonneg}
use Rattle.fx_vec.specs.Vectors.{Triple, dot}
use Rattle.fx_vec.specs.Settling.{along}
use Rattle.fx_vec.specs.Sizes.{Within}
use Rattle.fx_vec.proofs.Bounds.{dot-size, dot_size-le}
use Rattle.mj_quat.specs.Rotation.{round, Quaternion, square_sum, IsUnit, row_x, row_y, row_z, matrix, WithinRows}

-- ---- sizes
pub round-le : (n : ℤ) (limit : ℕ) → unsigned_abs n ≤ limit * 2 ^ 32 → unsigned_abs (round n) ≤ limit
round-le n limit h = nearest-within n (pos (2 ^ 32)) limit h

pub round_product-le : (a b : ℤ) → unsigned_abs b ≤ 2 ^ 32 → unsigned_abs (round (a *ℤ b)) ≤ unsigned_abs a
round_product-le a b h =
    let p : unsigned_abs a * unsigned_abs b ≤ unsigned_abs a * 2 ^ 32 = mul-le-mul {n₁ = unsigned_abs a} {n₂ = unsigned_abs a} (omega arith) h in
    round-le (a *ℤ b) (unsigned_abs a) (rw unsigned_abs-mul p)

-- a row that is at most 1 and 16 units
pub along-sharp : (row v : Triple ℤ) (limit : ℕ) → Within row (2 ^ 32 + 16) → Within v limit → unsigned_abs (along row v) ≤ 4 * limit
along-sharp row v limit h k =
    round-le (dot row v) (4 * limit) (omega (arith, dot-size row v, dot_size-le row v (2 ^ 32 + 16) limit h k))

-- ---- sums in another order
pub hamilton_w : (p q a b c d : ℤ) → p ≡ a -ℤ b → q ≡ c +ℤ d → p -ℤ q ≡ a -ℤ b -ℤ c -ℤ d
hamilton_w p q a b c d e f = omega (arith, ints)

pub hamilton_x : (p q a b c d : ℤ) → p ≡ a +ℤ b → q ≡ c -ℤ d → p +ℤ q ≡ a +ℤ b +ℤ c -ℤ d
hamilton_x p q a b c d e f = omega (arith, ints)

pub hamilton_y : (p q a b c d : ℤ) → p ≡ a -ℤ b → q ≡ c +ℤ d → p +ℤ q ≡ a -ℤ b +ℤ c +ℤ d
hamilton_y p q a b c d e f = omega (arith, ints)

pub hamilton_z : (p q a b c d : ℤ) → p ≡ a +ℤ b → q ≡ d -ℤ c → p +ℤ q ≡ a +ℤ b -ℤ c +ℤ d
hamilton_z p q a b c d e f = omega (arith, ints)

-- ---- a unit's matrix
-- twice a product is at most the sum of the squares
between_squares_add : (a b : ℤ) → pos 0 ≤ℤ (a *ℤ a +ℤ b *ℤ b +ℤ pos 2 *ℤ (a *ℤ b))
between_squares_add a b = let h = simp ring at (square_nonneg (a +ℤ b)) in simp ring (omega (arith, ints, h))

between_squares_sub : (a b : ℤ) → pos 0 ≤ℤ (a *ℤ a +ℤ b *ℤ b -ℤ pos 2 *ℤ (a *ℤ b))
between_squares_sub a b = let h = simp ring at (square_nonneg (a -ℤ b)) in simp ring (omega (arith, ints, h))

-- s is the sum of the four squares
diagonal-sharp : (a b s : ℤ) → pos 0 ≤ℤ a → pos 0 ≤ℤ b → (a +ℤ b) ≤ℤ s → unsigned_abs (s -ℤ pos (2 ^ 64)) ≤ 2 ^ 35 + 1 → unsigned_abs (round (pos (2 ^ 64) -ℤ pos 2 *ℤ (a +ℤ b))) ≤ 2 ^ 32 + 16
diagonal-sharp a b s h j k n = nearest-within_twice (pos (2 ^ 64) -ℤ pos 2 *ℤ (a +ℤ b)) (pos (2 ^ 32)) (2 ^ 32 + 16) (omega (arith, ints))

twice-sharp : (p s : ℤ) → pos 0 ≤ℤ (s +ℤ pos 2 *ℤ p) → pos 0 ≤ℤ (s -ℤ pos 2 *ℤ p) → unsigned_abs (s -ℤ pos (2 ^ 64)) ≤ 2 ^ 35 + 1 → unsigned_abs (round (pos 2 *ℤ p)) ≤ 2 ^ 32 + 16
twice-sharp p s h k n = nearest-within_twice (pos 2 *ℤ p) (pos (2 ^ 32)) (2 ^ 32 + 16) (omega (arith, ints))

row_x-sharp : (q : Quaternion) → IsUnit q → Within (row_x q) (2 ^ 32 + 16)
unfolding row_x
row_x-sharp q u =
    let w = square_nonneg q.w in
    let x = square_nonneg q.x in
    let y = square_nonneg q.y in
    let z = square_nonneg q.z in
    record {
      x = diagonal-sharp (q.y *ℤ q.y) (q.z *ℤ q.z) (square_sum q) y z (omega (arith, ints, w, x)) u.near;
      y = twice-sharp (q.x *ℤ q.y -ℤ q.w *ℤ q.z) (square_sum q) (omega (arith, ints, between_squares_add q.x q.y, between_squares_sub q.w q.z)) (omega (arith, ints, between_squares_sub q.x q.y, between_squares_add q.w q.z)) u.near;
      z = twice-sharp (q.x *ℤ q.z +ℤ q.w *ℤ q.y) (square_sum q) (omega (arith, ints, between_squares_add q.x q.z, between_squares_add q.w q.y)) (omega (arith, ints, between_squares_sub q.x q.z, between_squares_sub q.w q.y)) u.near;
    }

row_y-sharp : (q : Quaternion) → IsUnit q → Within (row_y q) (2 ^ 32 + 16)
unfolding row_y
row_y-sharp q u =
    let w = square_nonneg q.w in
    let x = square_nonneg q.x in
    let y = square_nonneg q.y in
    let z = square_nonneg q.z in
    record {
      x = twice-sharp (q.x *ℤ q.y +ℤ q.w *ℤ q.z) (square_sum q) (omega (arith, ints, between_squares_add q.x q.y, between_squares_add q.w q.z)) (omega (arith, ints, between_squares_sub q.x q.y, between_squares_sub q.w q.z)) u.near;
      y = diagonal-sharp (q.x *ℤ q.x) (q.z *ℤ q.z) (square_sum q) x z (omega (arith, ints, w, y)) u.near;
      z = twice-sharp (q.y *ℤ q.z -ℤ q.w *ℤ q.x) (square_sum q) (omega (arith, ints, between_squares_add q.y q.z, between_squares_sub q.w q.x)) (omega (arith, ints, between_squares_sub q.y q.z, between_squares_add q.w q.x)) u.near;
    }

row_z-sharp : (q : Quaternion) → IsUnit q → Within (row_z q) (2 ^ 32 + 16)
unfolding row_z
row_z-sharp q u =
    let w = square_nonneg q.w in
    let x = square_nonneg q.x in
    let y = square_nonneg q.y in
    let z = square_nonneg q.z in
    record {
      x = twice-sharp (q.x *ℤ q.z -ℤ q.w *ℤ q.y) (square_sum q) (omega (arith, ints, between_squares_add q.x q.z, between_squares_sub q.w q.y)) (omega (arith, ints, between_squares_sub q.x q.z, between_squares_add q.w q.y)) u.near;
      y = twice-sharp (q.y *ℤ q.z +ℤ q.w *ℤ q.x) (square_sum q) (omega (arith, ints, between_squares_add q.y q.z, between_squares_add q.w q.x)) (omega (arith, ints, between_squares_sub q.y q.z, between_squares_sub q.w q.x)) u.near;
      z = diagonal-sharp (q.x *ℤ q.x) (q.y *ℤ q.y) (square_sum q) x y (omega (arith, ints, w, z)) u.near;
    }

pub matrix-sharp : (q : Quaternion) → IsUnit q → WithinRows (matrix q) (2 ^ 32 + 16)
matrix-sharp q u = record { x = row_x-sharp q u; y = row_y-sharp q u; z = row_z-sharp q u }

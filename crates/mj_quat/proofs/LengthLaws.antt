-- Lengths, rounded down: no number is larger, what is divided by a length is at most 1, and a quaternion over its length is a unit.
use Rattle.std.proofs.Common.{◌≡◌, ℕ, zero, suc, ◌+◌, ◌*◌, ◌^◌, ◌<◌, ◌≤◌, ℤ, pos, ◌+ℤ◌, ◌-ℤ◌, ◌*ℤ◌, ◌<ℤ◌, ◌≤ℤ◌, unsigned_abs, arith, le_trans, mul-le-mul, sym, ap, ◌∙◌, subst, refl}
use Rattle.std.proofs.lemmas.Int.{ints, unsigned_abs-mul}
use Rattle.fx_whole.specs.Nearest.{IsNearest}
use Rattle.fx_whole.specs.Roots.{isqrt, IsRoot}
use Rattle.fx_whole.proofs.Ring.{ring, square_nonneg, squares_apart, abs_turned, abs_between, abs_square, abs_mono, abs_nonneg, le_of_mul}
use Rattle.fx_whole.proofs.RootLaws.{isqrt-root, isqrt-square, isqrt-mono, isqrt-nonneg, isqrt-below}
use Rattle.fx_whole.proofs.NearestLaws.{nearest-is_nearest}
use Rattle.fx_vec.specs.Vectors.{Triple, dot}
use Rattle.fx_vec.specs.Sizes.{Within}
use Rattle.fx_vec.proofs.Bounds.{dot-size, dot_size-le}
use Rattle.mj_quat.specs.Rotation.{Quaternion, WithinQuaternion, square_sum, quaternion_length, vector_length, over, quaternion_over, unit_quaternion, IsUnit}

-- ---- a root of a sum of squares
root_covers : (n total : ℤ) → (n *ℤ n) ≤ℤ total → unsigned_abs n ≤ unsigned_abs (isqrt total)
root_covers n total h =
    let s : ℤ = pos (unsigned_abs n) in
    let z : pos 0 ≤ℤ s = omega (arith, ints) in
    let e : s *ℤ s ≡ n *ℤ n = abs_square n in
    let k : (s *ℤ s) ≤ℤ total = rw e h in
    let m : isqrt (s *ℤ s) ≤ℤ isqrt total = isqrt-mono (s *ℤ s) total k in
    let f : isqrt (s *ℤ s) ≡ s = isqrt-square s z in
    let g : s ≤ℤ isqrt total = rw f at m in
    abs_mono s (isqrt total) z g

pub square_sum-nonneg : (q : Quaternion) → pos 0 ≤ℤ square_sum q
square_sum-nonneg q =
    omega (arith, ints, square_nonneg q.w, square_nonneg q.x, square_nonneg q.y, square_nonneg q.z)

pub quaternion_covered : (q : Quaternion) → WithinQuaternion q (unsigned_abs (quaternion_length q))
unfolding quaternion_length
quaternion_covered q =
    let w = square_nonneg q.w in
    let x = square_nonneg q.x in
    let y = square_nonneg q.y in
    let z = square_nonneg q.z in
    record {
      w = root_covers q.w (square_sum q) (omega (arith, ints));
      x = root_covers q.x (square_sum q) (omega (arith, ints));
      y = root_covers q.y (square_sum q) (omega (arith, ints));
      z = root_covers q.z (square_sum q) (omega (arith, ints));
    }

pub vector_covered : (v : Triple ℤ) → Within v (unsigned_abs (vector_length v))
unfolding vector_length
vector_covered v =
    let x = square_nonneg v.x in
    let y = square_nonneg v.y in
    let z = square_nonneg v.z in
    record {
      x = root_covers v.x (dot v v) (omega (arith, ints));
      y = root_covers v.y (dot v v) (omega (arith, ints));
      z = root_covers v.z (dot v v) (omega (arith, ints));
    }

pub vector_length-nonneg : (v : Triple ℤ) → pos 0 ≤ℤ vector_length v
unfolding vector_length
vector_length-nonneg v = isqrt-nonneg (dot v v)

below_square : (n : ℤ) (l : ℕ) → unsigned_abs n ≤ 3 * (l * l) → n <ℤ (pos (2 * l + 1) *ℤ pos (2 * l + 1))
below_square n l h =
    let k : 3 * (l * l) < (2 * l + 1) * (2 * l + 1) = omega arith in
    omega (arith, ints)

pub vector_length-le : (v : Triple ℤ) (limit : ℕ) → Within v limit → unsigned_abs (vector_length v) ≤ 2 * limit
unfolding vector_length
vector_length-le v limit h =
    let s : unsigned_abs (dot v v) ≤ 3 * (limit * limit) = le_trans (dot-size v v) (dot_size-le v v limit limit h h) in
    let b : isqrt (dot v v) <ℤ pos (2 * limit + 1) = isqrt-below (dot v v) (pos (2 * limit + 1)) (omega (arith, ints)) (below_square (dot v v) limit s) in
    let z : pos 0 ≤ℤ isqrt (dot v v) = isqrt-nonneg (dot v v) in
    omega (arith, ints)

pub root-fits : (n : ℤ) → pos 0 ≤ℤ n → unsigned_abs n < 2 ^ 124 → unsigned_abs (isqrt n) < 2 ^ 62
root-fits n z h =
    let b : isqrt n <ℤ pos (2 ^ 62) = isqrt-below n (pos (2 ^ 62)) (omega (arith, ints)) (omega (arith, ints)) in
    omega (arith, ints, isqrt-nonneg n)

-- ---- a quaternion over its length is a unit: k is 1 at its scale
-- a is near b, so their squares are near each other
near_square : (a b : ℤ) (l k : ℕ) → 2 * unsigned_abs (b -ℤ a) ≤ l → unsigned_abs b ≤ k * l → 4 * unsigned_abs (a *ℤ a -ℤ b *ℤ b) ≤ (4 * k + 1) * (l * l)
near_square a b l k h j =
    let d : ℕ = unsigned_abs (a -ℤ b) in
    let s : ℕ = unsigned_abs (a +ℤ b) in
    let e : unsigned_abs (a *ℤ a -ℤ b *ℤ b) ≡ s * d = ap unsigned_abs (sym (squares_apart a b)) ∙ unsigned_abs-mul (a +ℤ b) (a -ℤ b) in
    let g : 2 * d ≤ l = omega (arith, abs_turned a b) in
    let m : s ≤ d + 2 * unsigned_abs b = omega (arith, ints) in
    let t : 2 * s ≤ (4 * k + 1) * l = omega (arith) in
    let p : (2 * s) * (2 * d) ≤ ((4 * k + 1) * l) * l = mul-le-mul t g in
    omega (arith, e, p)

square_of_product : (a b : ℤ) → (a *ℤ b) *ℤ (a *ℤ b) ≡ (a *ℤ a) *ℤ (b *ℤ b)
square_of_product a b = simp ring refl

-- m is about n k over the length
over_square : (n m length : ℤ) (k : ℕ) → 2 * unsigned_abs (n *ℤ pos k -ℤ m *ℤ length) ≤ unsigned_abs length → unsigned_abs n ≤ unsigned_abs length
    → 4 * unsigned_abs ((m *ℤ m) *ℤ (length *ℤ length) -ℤ (n *ℤ n) *ℤ (pos k *ℤ pos k)) ≤ (4 * k + 1) * (unsigned_abs length * unsigned_abs length)
over_square n m length k h j =
    let b : unsigned_abs (n *ℤ pos k) ≤ k * unsigned_abs length = rw unsigned_abs-mul (let i : unsigned_abs n * k ≤ unsigned_abs length * k = mul-le-mul j (omega arith) in omega (arith, i)) in
    rw (← square_of_product m length, ← square_of_product n (pos k)) (near_square (m *ℤ length) (n *ℤ pos k) (unsigned_abs length) k h b)

four_near : (a b c d p q r s : ℤ) (u : ℕ) → 4 * unsigned_abs (a -ℤ p) ≤ u → 4 * unsigned_abs (b -ℤ q) ≤ u → 4 * unsigned_abs (c -ℤ r) ≤ u → 4 * unsigned_abs (d -ℤ s) ≤ u
    → unsigned_abs ((a +ℤ b +ℤ c +ℤ d) -ℤ (p +ℤ q +ℤ r +ℤ s)) ≤ u
four_near a b c d p q r s u e f g h = omega (arith, ints)

four_times : (a b c d k : ℤ) → (a +ℤ b +ℤ c +ℤ d) *ℤ k ≡ a *ℤ k +ℤ b *ℤ k +ℤ c *ℤ k +ℤ d *ℤ k
four_times a b c d k = simp ring refl

less_times : (a b k : ℤ) → (a -ℤ b) *ℤ k ≡ a *ℤ k -ℤ b *ℤ k
less_times a b k = simp ring refl

times_size : (a b : ℤ) (k : ℕ) → unsigned_abs (a *ℤ pos k -ℤ b *ℤ pos k) ≡ unsigned_abs (a -ℤ b) * k
times_size a b k = ap unsigned_abs (sym (less_times a b (pos k))) ∙ unsigned_abs-mul (a -ℤ b) (pos k)

cancel : (n m l : ℕ) → 0 < l → n * l ≤ m * l → n ≤ m
cancel n m l p h =
    let g : (pos n *ℤ pos l) ≤ℤ (pos m *ℤ pos l) = omega (arith, ints) in
    omega (arith, ints, le_of_mul (pos n) (pos m) (pos l) (omega (arith, ints)) g)

near_then : (x y z : ℤ) (m n : ℕ) → unsigned_abs (x -ℤ y) ≤ m → unsigned_abs (y -ℤ z) ≤ n → unsigned_abs (x -ℤ z) ≤ m + n
near_then x y z m n h k = omega (arith, abs_between x y z)

commute : (l k : ℕ) → pos l *ℤ pos k ≡ pos k *ℤ pos l
commute l k = simp ring refl

-- the squares of the quotients sum to t, those of the numbers to s, which is the square of l but for what the root leaves
unit_near : (t s : ℤ) (l k : ℕ) → 0 < l → k ≤ 2 * l → unsigned_abs (t *ℤ pos (l * l) -ℤ s *ℤ pos (k * k)) ≤ (4 * k + 1) * (l * l) → unsigned_abs (s -ℤ pos (l * l)) ≤ 2 * l
    → unsigned_abs (t -ℤ pos (k * k)) ≤ 8 * k + 1
unit_near t s l k p j h r =
    let u : unsigned_abs (s -ℤ pos (l * l)) * (k * k) ≤ (2 * l) * (k * k) = mul-le-mul r (le_refl (k * k)) in
    let a : unsigned_abs (s *ℤ pos (k * k) -ℤ pos (l * l) *ℤ pos (k * k)) ≤ (2 * l) * (k * k) = rw (times_size s (pos (l * l)) (k * k)) u in
    let b : (l * k) * k ≤ (l * k) * (2 * l) = mul-le-mul (le_refl (l * k)) j in
    let c : unsigned_abs (t *ℤ pos (l * l) -ℤ pos (l * l) *ℤ pos (k * k)) ≤ (4 * k + 1) * (l * l) + (2 * l) * (k * k) = near_then (t *ℤ pos (l * l)) (s *ℤ pos (k * k)) (pos (l * l) *ℤ pos (k * k)) _ _ h a in
    let d : unsigned_abs (t *ℤ pos (l * l) -ℤ pos (k * k) *ℤ pos (l * l)) ≤ (4 * k + 1) * (l * l) + (2 * l) * (k * k) = rw (← commute (l * l) (k * k)) c in
    let e : unsigned_abs (t -ℤ pos (k * k)) * (l * l) ≤ (4 * k + 1) * (l * l) + (2 * l) * (k * k) = rw (times_size t (pos (k * k)) (l * l)) at d in
    let g : unsigned_abs (t -ℤ pos (k * k)) * (l * l) ≤ (8 * k + 1) * (l * l) = le_trans e (slack l k b) in
    cancel (unsigned_abs (t -ℤ pos (k * k))) (8 * k + 1) (l * l) (mul_pos_ℕ l p) g
  where
    le_refl : (n : ℕ) → n ≤ n
    le_refl n = omega arith

    slack : (l k : ℕ) → (l * k) * k ≤ (l * k) * (2 * l) → (4 * k + 1) * (l * l) + (2 * l) * (k * k) ≤ (8 * k + 1) * (l * l)
    slack l k b = omega (arith, b)

    mul_pos_ℕ : (l : ℕ) → 0 < l → 0 < l * l
    mul_pos_ℕ zero p = elim p [ ]
    mul_pos_ℕ (suc l) p = omega arith

root_left : (s : ℤ) (l : ℕ) → IsRoot s (pos l) → unsigned_abs (s -ℤ pos (l * l)) ≤ 2 * l
root_left s l r =
    let a : (pos l *ℤ pos l) ≤ℤ s = r.below in
    let b = simp ring at r.above in
    omega (arith, ints, a, b)

-- n over the length, before it is rounded, is within half of a unit of m
pub record Quotient (k l : ℕ) (n m : ℤ) : Type 0 where
  pub size : unsigned_abs n ≤ l
  pub close : 2 * unsigned_abs (n *ℤ pos k -ℤ m *ℤ pos l) ≤ l

quotients_are_unit : (q r : Quaternion) (l k : ℕ) → 0 < l → k ≤ 2 * l → IsRoot (square_sum q) (pos l) → Quotient k l q.w r.w → Quotient k l q.x r.x → Quotient k l q.y r.y → Quotient k l q.z r.z
    → unsigned_abs (square_sum r -ℤ pos (k * k)) ≤ 8 * k + 1
quotients_are_unit q r l k p j root w x y z =
    let e = four_near ((r.w *ℤ r.w) *ℤ pos (l * l)) ((r.x *ℤ r.x) *ℤ pos (l * l)) ((r.y *ℤ r.y) *ℤ pos (l * l)) ((r.z *ℤ r.z) *ℤ pos (l * l))
    ((q.w *ℤ q.w) *ℤ pos (k * k)) ((q.x *ℤ q.x) *ℤ pos (k * k)) ((q.y *ℤ q.y) *ℤ pos (k * k)) ((q.z *ℤ q.z) *ℤ pos (k * k)) ((4 * k + 1) * (l * l))
    (over_square q.w r.w (pos l) k w.close w.size) (over_square q.x r.x (pos l) k x.close x.size) (over_square q.y r.y (pos l) k y.close y.size) (over_square q.z r.z (pos l) k z.close z.size) in
    unit_near (square_sum r) (square_sum q) l k p j
    (rw (four_times (r.w *ℤ r.w) (r.x *ℤ r.x) (r.y *ℤ r.y) (r.z *ℤ r.z) (pos (l * l)), four_times (q.w *ℤ q.w) (q.x *ℤ q.x) (q.y *ℤ q.y) (q.z *ℤ q.z) (pos (k * k))) e)
    (root_left (square_sum q) l root)

over-quotient : (n : ℤ) (l : ℕ) → 0 < l → unsigned_abs n ≤ l → Quotient (2 ^ 32) l n (over n (pos l))
over-quotient n l p h =
    let near : IsNearest (n *ℤ pos (2 ^ 32)) (pos l) (over n (pos l)) = nearest-is_nearest (n *ℤ pos (2 ^ 32)) (pos l) (omega (arith, ints)) in
    record { size = h; close = near.close }

over_root : (q : Quaternion) (l : ℕ) → 2 ^ 31 ≤ l → IsRoot (square_sum q) (pos l) → WithinQuaternion q l → IsUnit (quaternion_over q (pos l))
over_root q l h root c =
    let p : 0 < l = omega (arith, h) in
    record {
      near = quotients_are_unit q (quaternion_over q (pos l)) l (2 ^ 32) p (omega (arith, h)) root (over-quotient q.w l p c.w) (over-quotient q.x l p c.x) (over-quotient q.y l p c.y) (over-quotient q.z l p c.z);
    }

pub unit_quaternion-unit : (q : Quaternion) → pos (2 ^ 31) ≤ℤ quaternion_length q → IsUnit (unit_quaternion q)
unfolding quaternion_length
unit_quaternion-unit q h =
    let c = quaternion_covered q in
    let root = isqrt-root (square_sum q) (square_sum-nonneg q) in
    let e : pos (unsigned_abs (isqrt (square_sum q))) ≡ isqrt (square_sum q) = abs_nonneg (isqrt (square_sum q)) (isqrt-nonneg (square_sum q)) in
    subst (λ s. IsUnit (quaternion_over q s)) e
    (over_root q (unsigned_abs (isqrt (square_sum q))) (omega (arith, ints, h)) (subst (λ s. IsRoot (square_sum q) s) (sym e) root) c)

-- Vectors turned by a quaternion that is no unit, whose numbers are at most 1, and turns by nothing.
use Rattle.std.proofs.Common.{◌≡◌, ℕ, ◌*◌, ◌^◌, ◌≤◌, ℤ, pos, ◌+ℤ◌, ◌-ℤ◌, ◌*ℤ◌, ◌≤ℤ◌, unsigned_abs, ap, sym, ◌∙◌, arith}
use Rattle.std.proofs.lemmas.Int.{ints}
use Rattle.fx_whole.proofs.NearestLaws.{nearest-multiple, nearest-zero}
use Rattle.fx_whole.proofs.Ring.{abs_mul_le, square_nonneg}
use Rattle.fx_vec.specs.Vectors.{Triple, dot, no_vector}
use Rattle.fx_vec.specs.Settling.{along}
use Rattle.fx_vec.specs.Sizes.{Within}
use Rattle.fx_vec.proofs.Bounds.{along-le}
use Rattle.fx_vec.proofs.Same.{same3}
use Rattle.mj_quat.specs.Rotation.{Quaternion, WithinQuaternion, round, product, row_x, row_y, row_z, rotate, rotate_by}
use Rattle.mj_quat.proofs.RotationLaws.{round-le}
use Rattle.mj_kin.specs.Poses.{world}

abbrev four : ℤ → ℤ → ℤ → ℤ → Quaternion
four w x y z = record { w = w; x = x; y = y; z = z }

-- quaternions of the same numbers
same_quaternion : (a b : Quaternion) → a.w ≡ b.w → a.x ≡ b.x → a.y ≡ b.y → a.z ≡ b.z → a ≡ b
same_quaternion a b e f g h =
    ap (λ w. four w a.x a.y a.z) e ∙ ap (λ x. four b.w x a.y a.z) f ∙ ap (λ y. four b.w b.x y a.z) g ∙ ap (λ z. four b.w b.x b.y z) h

square_le : (a : ℤ) → unsigned_abs a ≤ 2 ^ 32 → unsigned_abs (a *ℤ a) ≤ 2 ^ 64
square_le a h = abs_mul_le a a (2 ^ 32) (2 ^ 32) h h

product_le : (a b : ℤ) → unsigned_abs a ≤ 2 ^ 32 → unsigned_abs b ≤ 2 ^ 32 → unsigned_abs (a *ℤ b) ≤ 2 ^ 64
product_le a b h k = abs_mul_le a b (2 ^ 32) (2 ^ 32) h k

diagonal_le : (a b : ℤ) → pos 0 ≤ℤ a → pos 0 ≤ℤ b → unsigned_abs a ≤ 2 ^ 64 → unsigned_abs b ≤ 2 ^ 64 → unsigned_abs (round (pos (2 ^ 64) -ℤ pos 2 *ℤ (a +ℤ b))) ≤ 4 * 2 ^ 32
diagonal_le a b h k i j = round-le (pos (2 ^ 64) -ℤ pos 2 *ℤ (a +ℤ b)) (4 * 2 ^ 32) (omega (arith, ints))

sum_le : (a b : ℤ) → unsigned_abs a ≤ 2 ^ 64 → unsigned_abs b ≤ 2 ^ 64 → unsigned_abs (round (pos 2 *ℤ (a +ℤ b))) ≤ 4 * 2 ^ 32
sum_le a b h k = round-le (pos 2 *ℤ (a +ℤ b)) (4 * 2 ^ 32) (omega (arith, ints))

difference_le : (a b : ℤ) → unsigned_abs a ≤ 2 ^ 64 → unsigned_abs b ≤ 2 ^ 64 → unsigned_abs (round (pos 2 *ℤ (a -ℤ b))) ≤ 4 * 2 ^ 32
difference_le a b h k = round-le (pos 2 *ℤ (a -ℤ b)) (4 * 2 ^ 32) (omega (arith, ints))

row_x_within : (q : Quaternion) → WithinQuaternion q (2 ^ 32) → Within (row_x q) (4 * 2 ^ 32)
unfolding row_x
row_x_within q h = record {
  x = diagonal_le (q.y *ℤ q.y) (q.z *ℤ q.z) (square_nonneg q.y) (square_nonneg q.z) (square_le q.y h.y) (square_le q.z h.z);
  y = difference_le (q.x *ℤ q.y) (q.w *ℤ q.z) (product_le q.x q.y h.x h.y) (product_le q.w q.z h.w h.z);
  z = sum_le (q.x *ℤ q.z) (q.w *ℤ q.y) (product_le q.x q.z h.x h.z) (product_le q.w q.y h.w h.y);
}

row_y_within : (q : Quaternion) → WithinQuaternion q (2 ^ 32) → Within (row_y q) (4 * 2 ^ 32)
unfolding row_y
row_y_within q h = record {
  x = sum_le (q.x *ℤ q.y) (q.w *ℤ q.z) (product_le q.x q.y h.x h.y) (product_le q.w q.z h.w h.z);
  y = diagonal_le (q.x *ℤ q.x) (q.z *ℤ q.z) (square_nonneg q.x) (square_nonneg q.z) (square_le q.x h.x) (square_le q.z h.z);
  z = difference_le (q.y *ℤ q.z) (q.w *ℤ q.x) (product_le q.y q.z h.y h.z) (product_le q.w q.x h.w h.x);
}

row_z_within : (q : Quaternion) → WithinQuaternion q (2 ^ 32) → Within (row_z q) (4 * 2 ^ 32)
unfolding row_z
row_z_within q h = record {
  x = difference_le (q.x *ℤ q.z) (q.w *ℤ q.y) (product_le q.x q.z h.x h.z) (product_le q.w q.y h.w h.y);
  y = sum_le (q.y *ℤ q.z) (q.w *ℤ q.x) (product_le q.y q.z h.y h.z) (product_le q.w q.x h.w h.x);
  z = diagonal_le (q.x *ℤ q.x) (q.y *ℤ q.y) (square_nonneg q.x) (square_nonneg q.y) (square_le q.x h.x) (square_le q.y h.y);
}

pub rotate-within : (q : Quaternion) (v : Triple ℤ) (h : ℕ) → WithinQuaternion q (2 ^ 32) → Within v h → Within (rotate q v) (12 * h)
rotate-within q v h i j = record {
  x = along-le (row_x q) v h 4 (row_x_within q i) j;
  y = along-le (row_y q) v h 4 (row_y_within q i) j;
  z = along-le (row_z q) v h 4 (row_z_within q i) j;
}

-- ---- turns by nothing
round_multiple : (n k : ℤ) → n ≡ k *ℤ pos (2 ^ 32) → round n ≡ k
round_multiple n k e = ap round e ∙ nearest-multiple k (pos (2 ^ 32)) (omega (arith, ints))

pub product-unturned : (a b : Quaternion) → b ≡ world.orientation → product a b ≡ a
unfolding product
product-unturned a b e =
    ap (product a) e
    ∙ same_quaternion (product a world.orientation) a
    (round_multiple _ a.w (omega (arith, ints)))
    (round_multiple _ a.x (omega (arith, ints)))
    (round_multiple _ a.y (omega (arith, ints)))
    (round_multiple _ a.z (omega (arith, ints)))

along-nothing : (row : Triple ℤ) → along row no_vector ≡ pos 0
along-nothing row = let e : dot row no_vector ≡ pos 0 = omega (arith, ints) in ap round e ∙ nearest-zero (pos (2 ^ 32))

pub rotate_by-nothing : (m : Triple (Triple ℤ)) (v : Triple ℤ) → v ≡ no_vector → rotate_by m v ≡ v
rotate_by-nothing m v e =
    ap (rotate_by m) e ∙ same3 (rotate_by m no_vector) no_vector (along-nothing m.x) (along-nothing m.y) (along-nothing m.z) ∙ sym e

-- How large products of vectors can be, from bounds on their coordinates and on the radii.
use Rattle.std.proofs.Common.{◌≡◌, ℕ, ◌+◌, ◌*◌, ◌^◌, ◌≤◌, ℤ, pos, ◌+ℤ◌, ◌-ℤ◌, ◌*ℤ◌, unsigned_abs, arith, mul-le-mul, add-le-add, le_trans, refl}
use Rattle.std.proofs.lemmas.Int.{unsigned_abs-mul}
use Rattle.fx_whole.proofs.Ring.{abs-add, abs-sub, abs_mul_le}
use Rattle.fx_whole.proofs.NearestLaws.{nearest-within}
use Rattle.fx_num.specs.Settled.{settled_mid}
use Rattle.fx_vec.specs.Settling.{stretched, moved, moved_one, along}
use Rattle.fx_num.specs.Radii.{product_width}
use Rattle.fx_vec.specs.Vectors.{Triple, dot, plus, minus}
use Rattle.fx_vec.specs.Sizes.{Within, Below, dot_size, cross_size}
use Rattle.fx_vec.specs.Widths.{dot_width, cross_width}

-- ---- values are at most their sizes
pub dot-size : (a b : Triple ℤ) → unsigned_abs (dot a b) ≤ dot_size a b
dot-size a b =
    let p : ℤ = a.x *ℤ b.x in
    let q : ℤ = a.y *ℤ b.y in
    let r : ℤ = a.z *ℤ b.z in
    omega (arith, abs-add (p +ℤ q) r, abs-add p q, unsigned_abs-mul a.x b.x, unsigned_abs-mul a.y b.y, unsigned_abs-mul a.z b.z)

minor-size : (a b c d : ℤ) → unsigned_abs (a *ℤ d -ℤ b *ℤ c) ≤ unsigned_abs a * unsigned_abs d + unsigned_abs b * unsigned_abs c
minor-size a b c d = omega (arith, abs-sub (a *ℤ d) (b *ℤ c), unsigned_abs-mul a d, unsigned_abs-mul b c)

-- ---- sizes, for coordinates of a at most m and of b at most n
pub dot_size-le : (a b : Triple ℤ) (m n : ℕ) → Within a m → Within b n → dot_size a b ≤ 3 * (m * n)
dot_size-le a b m n h k =
    let x = mul-le-mul h.x k.x in
    let y = mul-le-mul h.y k.y in
    let z = mul-le-mul h.z k.z in
    omega arith

two_le : (a b c d p : ℕ) → a * d ≤ p → b * c ≤ p → a * d + b * c ≤ 2 * p
two_le a b c d p h k = omega arith

pub cross_size-le : (a b : Triple ℤ) (m n : ℕ) → Within a m → Within b n → Below (cross_size a b) (2 * (m * n))
cross_size-le a b m n h k = record {
  x = two_le _ _ _ _ (m * n) (mul-le-mul h.y k.z) (mul-le-mul h.z k.y);
  y = two_le _ _ _ _ (m * n) (mul-le-mul h.z k.x) (mul-le-mul h.x k.z);
  z = two_le _ _ _ _ (m * n) (mul-le-mul h.x k.y) (mul-le-mul h.y k.x);
}

-- ---- widths, for radii of a at most r and of b at most s besides
pub product_width-le : (a b : ℤ) (ra rb m n r s : ℕ) → unsigned_abs a ≤ m → unsigned_abs b ≤ n → ra ≤ r → rb ≤ s → product_width a ra b rb ≤ m * s + n * r + r * s
product_width-le a b ra rb m n r s h k i j =
    let x : unsigned_abs a * rb ≤ m * s = mul-le-mul h j in
    let y : unsigned_abs b * ra ≤ n * r = mul-le-mul k i in
    let z : ra * rb ≤ r * s = mul-le-mul i j in
    omega arith

three_more_le : (a b c p : ℕ) → a ≤ p → b ≤ p → c ≤ p → a + b + c ≤ 3 * p
three_more_le a b c p h k i = omega arith

two_more_le : (a b p : ℕ) → a ≤ p → b ≤ p → a + b ≤ 2 * p
two_more_le a b p h k = omega arith

pub dot_width-le : (a : Triple ℤ) (ra : Triple ℕ) (b : Triple ℤ) (rb : Triple ℕ) (m n r s : ℕ) → Within a m → Within b n → Below ra r → Below rb s → dot_width a ra b rb ≤ 3 * (m * s + n * r + r * s)
dot_width-le a ra b rb m n r s h k i j =
    three_more_le (product_width a.x ra.x b.x rb.x) (product_width a.y ra.y b.y rb.y) (product_width a.z ra.z b.z rb.z) (m * s + n * r + r * s)
    (product_width-le a.x b.x ra.x rb.x m n r s h.x k.x i.x j.x)
    (product_width-le a.y b.y ra.y rb.y m n r s h.y k.y i.y j.y)
    (product_width-le a.z b.z ra.z rb.z m n r s h.z k.z i.z j.z)

pub cross_width-le : (a : Triple ℤ) (ra : Triple ℕ) (b : Triple ℤ) (rb : Triple ℕ) (m n r s : ℕ) → Within a m → Within b n → Below ra r → Below rb s → Below (cross_width a ra b rb) (2 * (m * s + n * r + r * s))
cross_width-le a ra b rb m n r s h k i j = record {
  x = two_more_le (product_width a.y ra.y b.z rb.z) (product_width a.z ra.z b.y rb.y) (m * s + n * r + r * s) (product_width-le a.y b.z ra.y rb.z m n r s h.y k.z i.y j.z) (product_width-le a.z b.y ra.z rb.y m n r s h.z k.y i.z j.y);
  y = two_more_le (product_width a.z ra.z b.x rb.x) (product_width a.x ra.x b.z rb.z) (m * s + n * r + r * s) (product_width-le a.z b.x ra.z rb.x m n r s h.z k.x i.z j.x) (product_width-le a.x b.z ra.x rb.z m n r s h.x k.z i.x j.z);
  z = two_more_le (product_width a.x ra.x b.y rb.y) (product_width a.y ra.y b.x rb.x) (m * s + n * r + r * s) (product_width-le a.x b.y ra.x rb.y m n r s h.x k.y i.x j.y) (product_width-le a.y b.x ra.y rb.x m n r s h.y k.x i.y j.x);
}

-- ---- plain vectors, added and moved
pub minus-within : (a b : Triple ℤ) (m n : ℕ) → Within a m → Within b n → Within (minus a b) (m + n)
minus-within a b m n h k = record {
  x = le_trans (abs-sub a.x b.x) (add-le-add h.x k.x);
  y = le_trans (abs-sub a.y b.y) (add-le-add h.y k.y);
  z = le_trans (abs-sub a.z b.z) (add-le-add h.z k.z);
}

pub plus-within : (a b : Triple ℤ) (m n : ℕ) → Within a m → Within b n → Within (plus a b) (m + n)
plus-within a b m n h k = record {
  x = le_trans (abs-add a.x b.x) (add-le-add h.x k.x);
  y = le_trans (abs-add a.y b.y) (add-le-add h.y k.y);
  z = le_trans (abs-add a.z b.z) (add-le-add h.z k.z);
}

-- n k at scale 32, for a direction n
stretched_one-le : (n k : ℤ) (h t u : ℕ) → unsigned_abs n ≤ t * u → unsigned_abs k ≤ h → u ≡ 2 ^ 32 → unsigned_abs (settled_mid (n *ℤ k) 32) ≤ t * h
stretched_one-le n k h t u i j e =
    let p : unsigned_abs (n *ℤ k) ≤ t * u * h = abs_mul_le n k (t * u) h i j in
    nearest-within (n *ℤ k) (pos (2 ^ 32)) (t * h) (rw (← e) (omega (arith, p)))

pub stretched-within : (n : Triple ℤ) (k : ℤ) (h t : ℕ) → Within n (t * 2 ^ 32) → unsigned_abs k ≤ h → Within (stretched n k) (t * h)
stretched-within n k h t i j = record {
  x = stretched_one-le n.x k h t (2 ^ 32) i.x j refl;
  y = stretched_one-le n.y k h t (2 ^ 32) i.y j refl;
  z = stretched_one-le n.z k h t (2 ^ 32) i.z j refl;
}

moved_one-le : (c n k : ℤ) (m h t u : ℕ) → unsigned_abs c ≤ m → unsigned_abs n ≤ t * u → unsigned_abs k ≤ h → u ≡ 2 ^ 32 → unsigned_abs (moved_one c n k) ≤ m + t * h
moved_one-le c n k m h t u i j l e =
    let p : unsigned_abs (c *ℤ pos u) ≤ m * u = abs_mul_le c (pos u) m u i (omega arith) in
    let q : unsigned_abs (n *ℤ k) ≤ t * u * h = abs_mul_le n k (t * u) h j l in
    let s : unsigned_abs (c *ℤ pos u +ℤ n *ℤ k) ≤ (m + t * h) * u = omega (arith, abs-add (c *ℤ pos u) (n *ℤ k), p, q) in
    nearest-within (c *ℤ pos (2 ^ 32) +ℤ n *ℤ k) (pos (2 ^ 32)) (m + t * h) (rw e at s)

pub moved-within : (c n : Triple ℤ) (k : ℤ) (m h t : ℕ) → Within c m → Within n (t * 2 ^ 32) → unsigned_abs k ≤ h → Within (moved c n k) (m + t * h)
moved-within c n k m h t i j l = record {
  x = moved_one-le c.x n.x k m h t (2 ^ 32) i.x j.x l refl;
  y = moved_one-le c.y n.y k m h t (2 ^ 32) i.y j.y l refl;
  z = moved_one-le c.z n.z k m h t (2 ^ 32) i.z j.z l refl;
}

pub within-le : (a : Triple ℤ) (m n : ℕ) → Within a m → m ≤ n → Within a n
within-le a m n h k = record { x = le_trans h.x k; y = le_trans h.y k; z = le_trans h.z k }

pub along-le : (a d : Triple ℤ) (h t : ℕ) → Within a (t * 2 ^ 32) → Within d h → unsigned_abs (along a d) ≤ 3 * t * h
along-le a d h t i j = one a d h t (2 ^ 32) i j refl
  where
    one : (a d : Triple ℤ) (h t u : ℕ) → Within a (t * u) → Within d h → u ≡ 2 ^ 32 → unsigned_abs (along a d) ≤ 3 * t * h
    one a d h t u i j e =
        let p : unsigned_abs (dot a d) ≤ 3 * (t * u * h) = le_trans (dot-size a d) (dot_size-le a d (t * u) h i j) in
        nearest-within (dot a d) (pos (2 ^ 32)) (3 * t * h) (rw (← e) (omega (arith, p)))

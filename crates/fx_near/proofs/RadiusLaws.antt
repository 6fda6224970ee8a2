-- How radii are computed: by halves that fit, and divisions rounded up.
use Rattle.std.proofs.Common.{◌≡◌, ℕ, ◌+◌, ◌-◌, ◌*◌, ◌/◌, ◌%◌, ◌^◌, ◌<◌, ◌≤◌, min, bit_and, ap, ◌∙◌, arith, pow_pos, pow_mono, pow-add, mul-le-mul, lt_of_mul-lt-mul_right, div-add-mod', ℤ, pos, unsigned_abs, SFits}
use Rattle.std.proofs.lemmas.Int.{ints}
use mir.Syntax.{w64}
use Rattle.std.proofs.lemmas.Nat.{one_shl, shl_whole, and_mask, and_le_r}
use Rattle.std.proofs.lemmas.Grind.{div_ceil_times}
use Rattle.std.proofs.Math.Nat.{mul-add-div_right}
use Rattle.std.specs.Int.{div_ceil}
use Rattle.fx_whole.specs.Least.{IsLeast, ceil_div}
use Rattle.fx_whole.specs.Nearest.{nearest, IsNearest}
use Rattle.fx_whole.proofs.LeastLaws.{ceil_div-least, ceil_div-past}
use Rattle.fx_whole.proofs.NearestLaws.{nearest-is_nearest}
use Rattle.fx_whole.proofs.Powers.{pow_positive}
use Rattle.fx_num.specs.Settled.{rounding_loss}
use Rattle.fx_near.specs.Widths.{settled_radius}

-- std's quotient rounded up is the one of the clauses
pub div_ceil-is : (a b : ℕ) → 0 < b → div_ceil a b ≡ ceil_div a b
div_ceil-is a b h =
    let above : a ≤ div_ceil a b * b = (div_ceil_times a b h).0 in
    let past : div_ceil a b * b < a + b = (div_ceil_times a b h).1 in
    let least : IsLeast (λ q. a ≤ q * b) (ceil_div a b) = ceil_div-least a b h in
    let le : ceil_div a b ≤ div_ceil a b = least.least (div_ceil a b) above in
    let below : div_ceil a b * b < (ceil_div a b + 1) * b = omega (arith, least.holds) in
    let lt : div_ceil a b < ceil_div a b + 1 = lt_of_mul-lt-mul_right b below in
    omega arith

pub radius_from : (r x y z w a b c d : ℕ) → r ≡ div_ceil (x + y + z) w → x ≡ a → y ≡ b → z ≡ c → w ≡ d → 0 < d → r ≡ ceil_div (a + b + c) d
radius_from r x y z w a b c d e f g h k l = e ∙ rw (f, g, h, k) (div_ceil-is (a + b + c) d l)

pub raised_small : (r s : ℕ) → r < 2 ^ 64 → s ≤ 40 → (r * 2 ^ s) % 2 ^ 128 < 2 ^ 104
raised_small r s h k =
    let whole : (r * 2 ^ s) % 2 ^ 128 ≡ r * 2 ^ s = shl_whole r 64 s 128 h (omega arith) in
    let most : r ≤ 2 ^ 64 - 1 = omega arith in
    let power : 2 ^ s ≤ 2 ^ 40 = pow_mono k in
    omega (arith, mul-le-mul most power)

pub mask_small : (s : ℕ) → s ≤ 126 → (1 * 2 ^ s) % 2 ^ 128 - 1 < 2 ^ 126
mask_small s h =
    let power : 2 ^ s ≤ 2 ^ 126 = pow_mono h in
    omega (arith, one_shl s 128 (omega arith))

pub masked_small : (a s : ℕ) → s ≤ 126 → bit_and a ((1 * 2 ^ s) % 2 ^ 128 - 1) < 2 ^ 126
masked_small a s h = omega (arith, mask_small s h, and_le_r a ((1 * 2 ^ s) % 2 ^ 128 - 1))

-- high and low parts, divided each for itself
ceil_parts : (a b d : ℕ) → 0 < d → ceil_div (a + b) d ≡ a / d + b / d + (a % d + b % d + (d - 1)) / d
ceil_parts a b d h =
    let whole : a + b + (d - 1) ≡ (a / d + b / d) * d + (a % d + b % d + (d - 1)) = omega (arith, div-add-mod' a d, div-add-mod' b d) in
    ap (λ (x : ℕ). x / d) whole ∙ mul-add-div_right h (a / d + b / d) (a % d + b % d + (d - 1))

pub shifted_parts : (a b s x y : ℕ) → s ≤ 126 → x ≡ min (a / 2 ^ s + b / 2 ^ s) (2 ^ 128 - 1)
    → y ≡ min (x + (bit_and a ((1 * 2 ^ s) % 2 ^ 128 - 1) + bit_and b ((1 * 2 ^ s) % 2 ^ 128 - 1) + ((1 * 2 ^ s) % 2 ^ 128 - 1)) / 2 ^ s) (2 ^ 128 - 1)
    → y ≡ min (ceil_div (a + b) (2 ^ s)) (2 ^ 128 - 1)
shifted_parts a b s x y h e f =
    let g : y ≡ min (x + (a % 2 ^ s + b % 2 ^ s + (2 ^ s - 1)) / 2 ^ s) (2 ^ 128 - 1) = rw (one_shl s 128 (omega arith), and_mask a s, and_mask b s) at f in
    rw (ceil_parts a b (2 ^ s) (pow_pos s)) (omega arith)

-- ---- widths far from the limit: the sum fits, and so does the radius
pub sum_small : (w l s : ℕ) → 24 ≤ s → s ≤ 62 → l ≤ 2 ^ 63 → w < 2 ^ (s + 39) → w + (l + (2 ^ s - 1)) < (2 ^ 40 + 1) * 2 ^ s
sum_small w l s a b c d =
    let e : 2 ^ (s + 39) ≡ 2 ^ s * 2 ^ 39 = pow-add 2 s 39 in
    let f : 2 ^ 24 ≤ 2 ^ s = pow_mono a in
    let g : 0 < 2 ^ s = pow_pos s in
    omega arith

pub radius_small : (a s : ℕ) → s ≤ 62 → a < (2 ^ 40 + 1) * 2 ^ s → a / 2 ^ s ≤ 2 ^ 40
radius_small a s b c =
    let whole = div-add-mod' a (2 ^ s) in
    let below : a / 2 ^ s * 2 ^ s < (2 ^ 40 + 1) * 2 ^ s = omega (arith, whole) in
    let lt : a / 2 ^ s < 2 ^ 40 + 1 = lt_of_mul-lt-mul_right (2 ^ s) below in
    omega arith

-- ---- the calls
pub scaled_small : (a w : ℤ) (f : ℕ) → SFits w64 a → f ≤ 40 → unsigned_abs w ≡ unsigned_abs a * 2 ^ f → unsigned_abs w ≤ 2 ^ 103
scaled_small a w f h k e =
    let most : unsigned_abs a ≤ 2 ^ 63 = omega (arith, ints) in
    let power : 2 ^ f ≤ 2 ^ 40 = pow_mono k in
    rw e (omega (arith, mul-le-mul most power))

-- ---- how large radii are
-- a rounding loses at most half of a unit
pub loss-half : (sum : ℤ) (s : ℕ) → 2 * rounding_loss sum s ≤ 2 ^ s
loss-half sum s = let near : IsNearest sum (pos (2 ^ s)) (nearest sum (pos (2 ^ s))) = nearest-is_nearest sum (pos (2 ^ s)) (pow_positive s) in omega (arith, near.close)

-- a width of at most n units gives a radius of at most n + 1
pub radius-le : (w n : ℕ) (sum : ℤ) (s : ℕ) → w ≤ n * 2 ^ s → settled_radius w (rounding_loss sum s) s ≤ n + 1
radius-le w n sum s h = bounded (ceil_div (w + rounding_loss sum s) (2 ^ s)) w (rounding_loss sum s) n (2 ^ s) (ceil_div-past (w + rounding_loss sum s) (2 ^ s) (pow_pos s)) (loss-half sum s) h
  where
    bounded : (r w l n d : ℕ) → r * d < w + l + d → 2 * l ≤ d → w ≤ n * d → r ≤ n + 1
    bounded r w l n d p q h = let below : r * d < (n + 2) * d = omega arith in let lt : r < n + 2 = lt_of_mul-lt-mul_right d below in omega arith

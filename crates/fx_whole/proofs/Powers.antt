-- Powers of two, as far as std lacks them.
use Rattle.std.proofs.Common.{◌≡◌, ℕ, ◌+◌, ◌-◌, ◌*◌, ◌%◌, ◌^◌, ◌<◌, ◌≤◌, ◌*ℤ◌, ◌<ℤ◌, ℤ, pos, to_z, ap, ◌∙◌, arith, pow_pos, pow-add, pow_mono, mul-le-mul}
use Rattle.std.proofs.lemmas.Int.{ints, to_z_pos}
use Rattle.std.proofs.lemmas.Nat.{pow_below, one_shl}
use mir.Syntax.{w128}

-- `1 << k` read as a signed number
pub power_read : (k : ℕ) (r : ℤ) → k ≤ 126 → r ≡ to_z w128 ((1 * 2 ^ k) % 2 ^ 128) → r ≡ pos (2 ^ k)
power_read k r h e = e ∙ ap (to_z w128) (one_shl k 128 (omega arith)) ∙ to_z_pos w128 (2 ^ k) (pow_below k 127 (omega arith))

-- a number of 64 bits times a power up to 2^63
pub scaled_fits : (a k : ℕ) → a ≤ 2 ^ 63 → k ≤ 63 → a * 2 ^ k < 2 ^ 127
scaled_fits a k h l = omega (arith, mul-le-mul h (pow_mono l))

-- 2^k, as a part of a higher power
pub pow-split : (j k : ℕ) → j ≤ k → 2 ^ k ≡ 2 ^ j * 2 ^ (k - j)
pow-split j k h = let e : k ≡ j + (k - j) = omega arith in ap (λ (x : ℕ). 2 ^ x) e ∙ pow-add 2 j (k - j)

pub pow-add_ℤ : (j k : ℕ) → pos (2 ^ (j + k)) ≡ pos (2 ^ j) *ℤ pos (2 ^ k)
pow-add_ℤ j k = ap pos (pow-add 2 j k)

pub pow_positive : (k : ℕ) → pos 0 <ℤ pos (2 ^ k)
pow_positive k = omega (arith, ints, pow_pos k)

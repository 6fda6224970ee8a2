-- What is within a radius is within a larger one, and the largest radius.
use Rattle.std.proofs.Common.{ℕ, zero, suc, ◌*◌, ◌<◌, ◌≤◌, arith, mul-le-mul_right}
use Rattle.std.proofs.Math.Nat.{max-le}
use Rattle.mj_factor.specs.Residuals.{greatest_to}

pub wider : (error radius most scale : ℕ) → error ≤ radius * scale → radius ≤ most → error ≤ most * scale
wider error radius most scale h l = omega (arith, mul-le-mul_right scale l)

-- the greatest is at most what each is at most
pub greatest-most : (n : ℕ) (f : ℕ → ℕ) (limit : ℕ) → ((i : ℕ) → i < n → f i ≤ limit) → greatest_to n f ≤ limit
greatest-most zero f limit each = omega arith
greatest-most (suc n) f limit each = max-le (greatest-most n f limit (λ i h. each i (omega arith))) (each n (omega arith))

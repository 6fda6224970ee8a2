-- Sums of a row of a mass matrix times accelerations.
use Rattle.std.proofs.Common.{◌≡◌, ℕ, ◌+◌, ◌*◌, ◌^◌, ◌<◌, ◌≤◌, ℤ, ◌*ℤ◌, unsigned_abs, ap, arith, mul-le-mul, mul-le-mul_right}
use Rattle.fx_whole.specs.Sums.{sum_to}
use Rattle.fx_whole.proofs.Ring.{abs_mul_le}
use Rattle.fx_whole.proofs.SumLaws.{sum_to-bounded}

pub row_small : (n : ℕ) (m a : ℕ → ℤ) → n ≤ 64 → ((j : ℕ) → j < n → unsigned_abs (m j) ≤ 2 ^ 60) → ((j : ℕ) → j < n → unsigned_abs (a j) ≤ 2 ^ 56)
    → (k : ℕ) → k ≤ n → (x : ℤ) → x ≡ sum_to k (λ j. m j *ℤ a j) → unsigned_abs x ≤ 2 ^ 122
row_small n m a few p q k h x e =
    let many : k ≤ 64 = omega arith in
    omega (
      arith,
      ap unsigned_abs e,
      sum_to-bounded k (2 ^ 116) (λ j. m j *ℤ a j) (λ j l. abs_mul_le (m j) (a j) (2 ^ 60) (2 ^ 56) (p j (omega arith)) (q j (omega arith))),
      mul-le-mul_right (2 ^ 116) many,
    )

pub row_fits : (s a b : ℕ) → s ≤ 2 ^ 122 → a ≤ 2 ^ 60 → b ≤ 2 ^ 56 → s + a * b < 2 ^ 127
row_fits s a b h p q = omega (arith, mul-le-mul p q)

-- Sums of at most 64 numbers of at most 2^116.
use Rattle.std.proofs.Common.{ℕ, ◌^◌, ◌<◌, ◌≤◌, ℤ, unsigned_abs, arith, mul-le-mul_right}
use Rattle.fx_whole.specs.Sums.{sum_to, sum_ℕ_to}
use Rattle.fx_whole.proofs.SumLaws.{sum_to-bounded, sum_ℕ_to-bounded}

pub sum_fits : (n k : ℕ) (f : ℕ → ℤ) → n ≤ 64 → k ≤ n → ((i : ℕ) → i < k → unsigned_abs (f i) ≤ 2 ^ 116) → unsigned_abs (sum_to k f) ≤ 2 ^ 122
sum_fits n k f h l small = let few : k ≤ 64 = omega arith in omega (arith, sum_to-bounded k (2 ^ 116) f small, mul-le-mul_right (2 ^ 116) few)

pub sum_ℕ_fits : (n k : ℕ) (f : ℕ → ℕ) → n ≤ 64 → k ≤ n → ((i : ℕ) → i < k → f i ≤ 2 ^ 116) → sum_ℕ_to k f ≤ 2 ^ 122
sum_ℕ_fits n k f h l small = let few : k ≤ 64 = omega arith in omega (arith, sum_ℕ_to-bounded k (2 ^ 116) f small, mul-le-mul_right (2 ^ 116) few)

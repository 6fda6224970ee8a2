-- Sizes of numbers that are rounded by 32 bits.
use Rattle.std.proofs.Common.{◌+◌, ◌*◌, ◌^◌, ◌<◌, ◌≤◌, ℤ, unsigned_abs, arith}
use Rattle.fx_whole.proofs.NearestLaws.{nearest-size_product}
use Rattle.fx_whole.proofs.Powers.{pow_positive}
use Rattle.fx_num.specs.Scalars.{one, round}

pub round_size : (n : ℤ) → 2 ^ 32 * unsigned_abs (round n) ≤ unsigned_abs n + 2 ^ 31
round_size n = omega (arith, nearest-size_product n one (pow_positive 32))

pub round_fits : (n : ℤ) → unsigned_abs n ≤ 2 ^ 94 → unsigned_abs (round n) < 2 ^ 63
round_fits n h = omega (arith, round_size n)

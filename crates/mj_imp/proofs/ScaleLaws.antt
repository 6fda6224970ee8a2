-- The time constant's scales are above 0.
use Rattle.std.proofs.Common.{◌≡◌, ◌^◌, ℤ, pos, ◌*ℤ◌, ◌<ℤ◌, ◌≤ℤ◌, subst, arith}
use Rattle.std.proofs.lemmas.Int.{ints}
use Rattle.fx_whole.specs.Nearest.{nearest}
use Rattle.fx_whole.proofs.NearestLaws.{nearest-mono, nearest-multiple}
use Rattle.fx_whole.proofs.Ring.{mul_mono_both}

-- dmax tc
pub time_low : (dmax tc : ℤ) → pos 429497 ≤ℤ dmax → pos (2 ^ 20) ≤ℤ tc → pos (2 ^ 38) ≤ℤ (dmax *ℤ tc)
time_low dmax tc d t = let p = mul_mono_both (pos 429497) dmax (pos (2 ^ 20)) tc (omega (arith, ints)) d (omega (arith, ints)) t in omega (arith, ints, p)

-- dmax tc dr
pub ratio_some : (scale dr : ℤ) → pos (2 ^ 38) ≤ℤ scale → pos (2 ^ 20) ≤ℤ dr → pos 0 <ℤ nearest (scale *ℤ dr) (pos (2 ^ 48))
ratio_some scale dr s d =
    let p = mul_mono_both (pos (2 ^ 38)) scale (pos (2 ^ 20)) dr (omega (arith, ints)) s (omega (arith, ints)) d in
    let one : pos 1 ≤ℤ nearest (scale *ℤ dr) (pos (2 ^ 48)) =
    subst (λ z. z ≤ℤ nearest (scale *ℤ dr) (pos (2 ^ 48))) (nearest-multiple (pos 1) (pos (2 ^ 48)) (omega (arith, ints)))
    (nearest-mono (pos 1 *ℤ pos (2 ^ 48)) (scale *ℤ dr) (pos (2 ^ 48)) (omega (arith, ints, p))) in
    omega (arith, ints, one)

use Rattle.std.proofs.Common.{◌≡◌, ◌^◌, ◌<ℤ◌, ◌*ℤ◌, ℤ, pos, unsigned_abs, to_z, of_z, rules, arith, ap}
use Rattle.std.proofs.lemmas.Int.{ints}
use mir.Syntax.{w128}
use Rattle.fx_whole.specs.Roots.{isqrt}
use Rattle.fx_whole.proofs.RootLaws.{isqrt-below, isqrt-nonneg}
use Rattle.mj_factor.proofs.numbers.pivot_root.Goals as goal

pub narrow-requires : goal.narrow-requires
narrow-requires c =
    let n : ℤ = c.args.d.now.mid *ℤ pos (2 ^ 24) in
    let v : to_z w128 (of_z w128 c.isqrt.result) ≡ isqrt n = search rules in
    let b : isqrt n <ℤ pos (2 ^ 43) = isqrt-below n (pos (2 ^ 43)) (omega (arith, ints)) (omega (arith, ints)) in
    omega (arith, ints, ap unsigned_abs v, b, isqrt-nonneg n)

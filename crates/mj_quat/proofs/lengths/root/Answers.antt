use Rattle.std.proofs.Common.{◌≡◌, unsigned_abs, to_z, of_z, rules, arith, ap}
use mir.Syntax.{w128}
use Rattle.fx_whole.specs.Roots.{isqrt}
use Rattle.mj_quat.proofs.LengthLaws.{root-fits}
use Rattle.mj_quat.proofs.lengths.root.Goals as goal

pub narrow-requires : goal.narrow-requires
narrow-requires c =
    let v : to_z w128 (of_z w128 c.isqrt_from.result) ≡ isqrt c.args.n.now = search rules in
    omega (arith, ap unsigned_abs v, root-fits c.args.n.now c.requires.not_negative c.requires.size)

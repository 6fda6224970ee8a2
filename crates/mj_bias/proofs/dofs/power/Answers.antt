use Rattle.std.proofs.Common.{rules, ◌≡◌, ◌^◌, ℤ, pos, ◌+ℤ◌, unsigned_abs, ap, arith}
use Rattle.std.proofs.lemmas.Int.{ints}
use Rattle.fx_num.specs.Radii.{radius_limit}
use Rattle.fx_vec.specs.Spatial.{pair}
use Rattle.fx_vec.specs.Views.{spatial}
use Rattle.mj_bias.proofs.SizeLaws.{pair_size-le, pair_width-le}
use Rattle.mj_bias.proofs.dofs.power.Goals as goal

pub pair_into-requires : goal.pair_into-requires
pair_into-requires g c =
    let size = pair_size-le _ _ (2 ^ 42) (2 ^ 62) c.requires.motion.value_ c.requires.force.value_ in
    let width = pair_width-le _ _ _ _ (2 ^ 42) (2 ^ 62) 0 radius_limit c.requires.motion.value_ c.requires.force.value_ c.requires.motion.width_ c.requires.force.width_ in
    (c.requires.motions, (c.requires.motions, (search rules, (c.requires.scale, (omega (arith, ap unsigned_abs c.none-sum.ensures.mid, size), omega (arith, c.none-sum.ensures.rad, width))))))

pub returns-clause-mid : goal.returns-clause-mid
returns-clause-mid g c = none_more _ _ (pair (spatial c.args.s.now) (spatial c.args.f.now)) c.none-sum.ensures.mid c.pair_into.ensures.mid
  where
    none_more : (a b p : ℤ) → a ≡ pos 0 → b ≡ a +ℤ p → b ≡ p
    none_more a b p e f = omega (arith, ints)

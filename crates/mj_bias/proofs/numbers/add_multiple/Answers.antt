use Rattle.std.proofs.Common.{◌+◌, ◌*◌, ◌^◌, ◌≤◌, unsigned_abs, refl, ap, arith, lit<}
use Rattle.fx_num.specs.Radii.{radius_limit}
use Rattle.mj_bias.proofs.SizeLaws.{fits6, narrow6, times6_size-le, times6_width-le}
use Rattle.mj_bias.proofs.numbers.add_multiple.Goals as goal

pub times6_into-requires : goal.times6_into-requires
times6_into-requires g c =
    let small : unsigned_abs c.exact.result.mid ≤ 2 ^ 44 = omega (arith, ap unsigned_abs c.exact.ensures.mid, c.requires.factor) in
    let none : g.K.Carry.width c.exact.result.rad ≤ 0 = omega (arith, c.exact.ensures.rad) in
    let size = times6_size-le c.exact.result.mid _ (2 ^ 44) (2 ^ 56) small c.requires.vector.value_ in
    let width = times6_width-le c.exact.result.mid _ _ _ (2 ^ 44) (2 ^ 56) 0 radius_limit small c.requires.vector.value_ none c.requires.vector.width_ in (
      c.requires.numbers,
      (
        c.requires.motions,
        (
          c.requires.sums,
          (
            refl,
            (
              fits6 _ _ (2 ^ 110) (2 ^ 44 * 2 ^ 56) c.requires.sum.value_ size (lit< tt),
              narrow6 _ _ (2 ^ 100) (2 ^ 44 * radius_limit + 2 ^ 56 * 0 + 0 * radius_limit) c.requires.sum.width_ width (lit< tt),
            ),
          ),
        ),
      ),
    )

use Rattle.std.proofs.Common.{ℕ, ◌+◌, ◌*◌, ◌^◌, refl, sym, subst, lit<, lit≤}
use Rattle.fx_num.specs.Radii.{radius_limit}
use Rattle.fx_vec.specs.Spatial.{Spatial}
use Rattle.fx_vec.specs.Sizes.{Below6}
use Rattle.fx_vec.specs.Views.{inertia}
use Rattle.mj_bias.specs.Measures.{numbers, totals}
use Rattle.mj_bias.proofs.SeenLaws.{same_measured}
use Rattle.mj_bias.proofs.MeasureLaws.{none_within, wrench_is}
use Rattle.mj_bias.proofs.SizeLaws.{fits6, narrow6, grown6, below6-le, below6-plus, inertia_size-le, inertia_width-le, force_cross_size-le, force_cross_width-le, short_inertia}
use Rattle.mj_bias.proofs.bodies.wrench.Goals as goal

pub short_inertia_into-requires : goal.short_inertia_into-requires
short_inertia_into-requires g c =
    let none = none_within _ c.no_sums-sum.ensures in
    let size = inertia_size-le _ _ (2 ^ 62) (2 ^ 56) c.requires.inertia c.requires.acceleration.value_ in
    let width = inertia_width-le _ _ (2 ^ 62) radius_limit c.requires.inertia c.requires.acceleration.width_ in
    (c.requires.motions, (c.requires.sums, (short_inertia c.args.inertia.now c.requires.inertia, (refl, (fits6 _ _ 0 (5 * (2 ^ 62 * 2 ^ 56)) none.value_ size (lit< tt), narrow6 _ _ 0 (5 * (2 ^ 62 * radius_limit)) none.width_ width (lit< tt))))))

pub force_cross_into-requires : goal.force_cross_into-requires
force_cross_into-requires g c =
    let none = none_within _ c.no_sums-sum.ensures in
    let size = inertia_size-le _ _ (2 ^ 62) (2 ^ 56) c.requires.inertia c.requires.acceleration.value_ in
    let width = inertia_width-le _ _ (2 ^ 62) radius_limit c.requires.inertia c.requires.acceleration.width_ in
    let more = force_cross_size-le _ _ (2 ^ 48) (2 ^ 62) c.requires.velocity.value_ c.requires.momentum.value_ in
    let wider = force_cross_width-le _ _ _ _ (2 ^ 48) (2 ^ 62) radius_limit radius_limit c.requires.velocity.value_ c.requires.momentum.value_ c.requires.velocity.width_ c.requires.momentum.width_ in
    let old = grown6 _ _ _ 0 (5 * (2 ^ 62 * 2 ^ 56)) none.value_ size c.short_inertia_into.ensures.size in
    let old_width = subst (λ (w : Spatial ℕ). Below6 w (0 + 5 * (2 ^ 62 * radius_limit))) (sym c.short_inertia_into.ensures.width) (below6-plus _ _ 0 (5 * (2 ^ 62 * radius_limit)) none.width_ width) in (
      c.requires.motions,
      (
        c.requires.motions,
        (
          c.requires.sums,
          (
            refl,
            (
              fits6 _ _ (0 + 5 * (2 ^ 62 * 2 ^ 56)) (4 * (2 ^ 48 * 2 ^ 62)) old more (lit< tt),
              narrow6 _ _ (0 + 5 * (2 ^ 62 * radius_limit)) (4 * (2 ^ 48 * radius_limit + 2 ^ 62 * radius_limit + radius_limit * radius_limit)) old_width wider (lit< tt),
            ),
          ),
        ),
      ),
    )

pub returns-clause-value : goal.returns-clause-value
returns-clause-value g c =
    wrench_is (inertia c.args.inertia.now) (numbers g.K.Carry.width c.args.a.now) (numbers g.K.Carry.width c.args.v.now) (numbers g.K.Carry.width c.args.p.now)
    (totals g.K.Carry.wide_width c.no_sums-sum.result) (totals g.K.Carry.wide_width c.short_inertia_into.new.out) (totals g.K.Carry.wide_width c.force_cross_into.new.out)
    c.no_sums-sum.ensures (same_measured _ _ c.short_inertia_into.ensures.mid c.short_inertia_into.ensures.width) (same_measured _ _ c.force_cross_into.ensures.mid c.force_cross_into.ensures.width)

pub returns-clause-width : goal.returns-clause-width
returns-clause-width g c =
    let none = none_within _ c.no_sums-sum.ensures in
    let width = inertia_width-le _ _ (2 ^ 62) radius_limit c.requires.inertia c.requires.acceleration.width_ in
    let wider = force_cross_width-le _ _ _ _ (2 ^ 48) (2 ^ 62) radius_limit radius_limit c.requires.velocity.value_ c.requires.momentum.value_ c.requires.velocity.width_ c.requires.momentum.width_ in
    let old_width = subst (λ (w : Spatial ℕ). Below6 w (0 + 5 * (2 ^ 62 * radius_limit))) (sym c.short_inertia_into.ensures.width) (below6-plus _ _ 0 (5 * (2 ^ 62 * radius_limit)) none.width_ width) in
    let limit : ℕ = 0 + 5 * (2 ^ 62 * radius_limit) + 4 * (2 ^ 48 * radius_limit + 2 ^ 62 * radius_limit + radius_limit * radius_limit) in
    record { width_ = below6-le _ limit (2 ^ 106) (subst (λ (w : Spatial ℕ). Below6 w limit) (sym c.force_cross_into.ensures.width) (below6-plus _ _ _ _ old_width wider)) (lit≤ tt) }

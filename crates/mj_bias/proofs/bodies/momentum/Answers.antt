use Rattle.std.proofs.Common.{◌≡◌, ◌*◌, ◌^◌, IfOk, refl, ap, subst, ◌∙◌, lit<}
use Rattle.fx_num.specs.Radii.{radius_limit}
use Rattle.fx_vec.specs.Views.{inertia}
use Rattle.mj_types.specs.declared.range.Quantity.TheVariants as kind
use Rattle.mj_bias.specs.Measures.{Measured, numbers, totals, momentum_of, settled_by, measure_fault}
use Rattle.mj_bias.specs.Steps.{momentum_there}
use Rattle.mj_bias.proofs.SeenLaws.{same_measured}
use Rattle.mj_bias.proofs.MeasureLaws.{none_within, sum_is}
use Rattle.mj_bias.proofs.SizeLaws.{fits6, narrow6, inertia_size-le, inertia_width-le, short_inertia}
use Rattle.mj_bias.proofs.bodies.momentum.Goals as goal

pub short_inertia_into-requires : goal.short_inertia_into-requires
short_inertia_into-requires g c =
    let none = none_within _ c.no_sums-sum.ensures in
    let size = inertia_size-le _ _ (2 ^ 62) (2 ^ 48) c.requires.inertia c.requires.velocity.value_ in
    let width = inertia_width-le _ _ (2 ^ 62) radius_limit c.requires.inertia c.requires.velocity.width_ in
    (c.requires.motions, (c.requires.sums, (short_inertia c.args.inertia.now c.requires.inertia, (refl, (fits6 _ _ 0 (5 * (2 ^ 62 * 2 ^ 48)) none.value_ size (lit< tt), narrow6 _ _ 0 (5 * (2 ^ 62 * radius_limit)) none.width_ width (lit< tt))))))

pub returns-clause-value : goal.returns-clause-value
unfolding momentum_there
returns-clause-value g c =
    let s = momentum_of (inertia c.args.inertia.now) (numbers g.K.Carry.width c.args.v.now) in
    let e = sum_is (totals g.K.Carry.wide_width c.no_sums-sum.result) (totals g.K.Carry.wide_width c.short_inertia_into.new.out) s c.no_sums-sum.ensures (same_measured _ _ c.short_inertia_into.ensures.mid c.short_inertia_into.ensures.width) in
    subst (λ (x : Measured). IfOk c.settle_vector.result (λ r. numbers g.K.Carry.width r ≡ settled_by g.K.Carry.settled 32 x)) e c.settle_vector.ensures.value

pub returns-clause-first : goal.returns-clause-first
unfolding momentum_there
returns-clause-first g c =
    let s = momentum_of (inertia c.args.inertia.now) (numbers g.K.Carry.width c.args.v.now) in
    let e = sum_is (totals g.K.Carry.wide_width c.no_sums-sum.result) (totals g.K.Carry.wide_width c.short_inertia_into.new.out) s c.no_sums-sum.ensures (same_measured _ _ c.short_inertia_into.ensures.mid c.short_inertia_into.ensures.width) in
    c.settle_vector.ensures.first ∙ ap (λ (x : Measured). measure_fault kind.BodyMotion c.args.k (2 ^ 62) (settled_by g.K.Carry.settled 32 x)) e

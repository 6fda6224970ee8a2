use Rattle.std.proofs.Common.{◌≡◌, ◌+◌, ◌*◌, ◌^◌, IfOk, refl, ap, subst, ◌∙◌, lit<}
use Rattle.fx_num.specs.Radii.{radius_limit}
use Rattle.mj_types.specs.declared.range.Quantity.TheVariants as kind
use Rattle.mj_bias.specs.Measures.{Measured, numbers, totals, motion_rate, settled_by, measure_fault}
use Rattle.mj_bias.proofs.SeenLaws.{same_measured}
use Rattle.mj_bias.proofs.MeasureLaws.{none_within, sum_is}
use Rattle.mj_bias.proofs.SizeLaws.{fits6, narrow6, motion_cross_size-le, motion_cross_width-le}
use Rattle.mj_bias.proofs.down.carried_rate.Goals as goal

pub motion_cross_into-requires : goal.motion_cross_into-requires
motion_cross_into-requires g c =
    let none = none_within _ c.no_sums-sum.ensures in
    let size = motion_cross_size-le _ _ (2 ^ 48) (2 ^ 42) c.requires.turn.value_ c.requires.column.value_ in
    let width = motion_cross_width-le _ _ _ _ (2 ^ 48) (2 ^ 42) radius_limit 0 c.requires.turn.value_ c.requires.column.value_ c.requires.turn.width_ c.requires.column.width_ in (
      c.requires.motions,
      (
        c.requires.motions,
        (
          c.requires.sums,
          (
            refl,
            (
              fits6 _ _ 0 (4 * (2 ^ 48 * 2 ^ 42)) none.value_ size (lit< tt),
              narrow6 _ _ 0 (4 * (2 ^ 48 * 0 + 2 ^ 42 * radius_limit + radius_limit * 0)) none.width_ width (lit< tt),
            ),
          ),
        ),
      ),
    )

pub returns-clause-value : goal.returns-clause-value
returns-clause-value g c =
    let s = motion_rate (numbers g.K.Carry.width c.args.turn.now) (numbers g.K.Carry.width c.args.column.now) in
    let e = sum_is (totals g.K.Carry.wide_width c.no_sums-sum.result) (totals g.K.Carry.wide_width c.motion_cross_into.new.out) s c.no_sums-sum.ensures (same_measured _ _ c.motion_cross_into.ensures.mid c.motion_cross_into.ensures.width) in
    subst (λ (x : Measured). IfOk c.settle_vector.result (λ r. numbers g.K.Carry.width r ≡ settled_by g.K.Carry.settled 32 x)) e c.settle_vector.ensures.value

pub returns-clause-first : goal.returns-clause-first
returns-clause-first g c =
    let s = motion_rate (numbers g.K.Carry.width c.args.turn.now) (numbers g.K.Carry.width c.args.column.now) in
    let e = sum_is (totals g.K.Carry.wide_width c.no_sums-sum.result) (totals g.K.Carry.wide_width c.motion_cross_into.new.out) s c.no_sums-sum.ensures (same_measured _ _ c.motion_cross_into.ensures.mid c.motion_cross_into.ensures.width) in
    c.settle_vector.ensures.first ∙ ap (λ (x : Measured). measure_fault kind.DofMotion (c.args.j + 1) (2 ^ 56) (settled_by g.K.Carry.settled 32 x)) e

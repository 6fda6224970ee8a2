use Rattle.std.proofs.Common.{ap, ◌∙◌, sym, subst}
use Rattle.fx_near.specs.Widths.{settled_radius}
use Rattle.fx_vec.specs.Settling.{radii6}
use Rattle.fx_vec.specs.Sizes.{Below6}
use Rattle.fx_vec.specs.Views.{spatial_sums, spatial_widths}
use Rattle.mj_inertia.specs.MassEntries.{momentum, momentum_radius}
use Rattle.mj_inertia.proofs.NumberLaws.{momentum_passes, momentum_stops, momentum_radius-le}
use Rattle.mj_inertia.proofs.numbers.rounded.Goals as goal

pub returns-in-Ok-clause-mid : goal.returns-in-Ok-clause-mid
unfolding momentum
returns-in-Ok-clause-mid c = c.in-Ok.ensures.mid

pub returns-in-Ok-clause-rad : goal.returns-in-Ok-clause-rad
unfolding momentum_radius
returns-in-Ok-clause-rad c = c.in-Ok.ensures.rad ∙ ap (λ w. radii6 settled_radius (spatial_sums c.args.sum.now) w 32) c.requires.exact

pub returns-in-Ok-clause-small : goal.returns-in-Ok-clause-small
unfolding momentum_radius
returns-in-Ok-clause-small c =
    subst (λ r. Below6 r 1) (sym (c.in-Ok.ensures.rad ∙ ap (λ w. radii6 settled_radius (spatial_sums c.args.sum.now) w 32) c.requires.exact)) (momentum_radius-le (spatial_sums c.args.sum.now))

pub returns-in-Ok-clause-first : goal.returns-in-Ok-clause-first
returns-in-Ok-clause-first c = momentum_passes (spatial_sums c.args.sum.now) (spatial_widths (λ w. w) c.args.sum.now) c.args.j c.requires.exact c.in-Ok.ensures.first

pub returns-in-Err-clause-first : goal.returns-in-Err-clause-first
returns-in-Err-clause-first c = momentum_stops (spatial_sums c.args.sum.now) (spatial_widths (λ w. w) c.args.sum.now) c.args.j _ c.requires.exact c.in-Err.ensures.first

use Rattle.std.proofs.Common.{ℤ, ap, ap₂, ◌∙◌}
use Rattle.fx_vec.specs.Spatial.{Spatial, plus6, inertia_times}
use Rattle.fx_vec.specs.Sums.{vectors}
use Rattle.fx_vec.specs.Vectors.{Triple}
use Rattle.fx_vec.specs.Views.{spatial, inertia}
use Rattle.fx_vec.proofs.SumLaws.{vectors-is_adding}
use Rattle.fx_whole.proofs.AddingLaws.{empty_plus}
use Rattle.mj_inertia.proofs.numbers.momentum_sum.Goals as goal

abbrev both : Triple ℤ → Triple ℤ → Spatial ℤ
both a b = record { ang = a; lin = b }

pub returns-clause-mid : goal.returns-clause-mid
returns-clause-mid c =
    ap₂ both c.exact3.ensures.mid c.exact3-2.ensures.mid
    ∙ c.inertia_into.ensures.mid
    ∙ ap (λ x. plus6 x (inertia_times (inertia c.args.inertia.now) (spatial c.args.column.now))) (ap₂ both c.no_sums3.ensures c.no_sums3-2.ensures)
    ∙ empty_plus vectors vectors-is_adding (inertia_times (inertia c.args.inertia.now) (spatial c.args.column.now))

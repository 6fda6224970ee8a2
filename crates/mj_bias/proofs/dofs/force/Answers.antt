use Rattle.std.proofs.Common.{◌∙◌}
use Rattle.std.proofs.lemmas.Result.{err_from_is_err_and}
use Rattle.fx_whole.proofs.FirstLaws.{stop_first, pass_first}
use Rattle.mj_types.specs.declared.range.Quantity.TheVariants as kind
use Rattle.mj_bias.specs.Measures.{numbers, totals}
use Rattle.mj_bias.specs.Steps.{load_there}
use Rattle.mj_bias.proofs.MeasureLaws.{force_is, force_radius_is, force_fault_is}
use Rattle.mj_bias.proofs.dofs.force.Goals as goal

pub returns-in_err-load-clause-first : goal.returns-in_err-load-clause-first
unfolding load_there
returns-in_err-load-clause-first g c =
    let r = err_from_is_err_and c.from_residual.result c.from_residual.ensures.1 in
    rw (r.1, r.2) (stop_first _ _ _ c.in_err-load.ensures.first)

pub returns-in_err-force-clause-first : goal.returns-in_err-force-clause-first
unfolding load_there
returns-in_err-force-clause-first g c =
    let r = err_from_is_err_and c.from_residual-in_err-force.result c.from_residual-in_err-force.ensures.1 in
    let column = numbers g.K.Carry.width c.args.column.now in
    let load = load_there g.K.Carry.settled (totals g.K.Carry.wide_width c.args.wrench.now) in
    rw (r.1, r.2)
    (pass_first _ _ _ c.in_ok-load.ensures.first
    (c.in_err-force.ensures.first
    ∙ force_fault_is kind.Bias _ g.K.Carry.settled column (numbers g.K.Carry.width c.in_ok-load.load) load _ _ c.power-sum.ensures.mid c.power-sum.ensures.width c.in_ok-load.ensures.value))

pub returns-clause-value : goal.returns-clause-value
unfolding load_there
returns-clause-value g c =
    let column = numbers g.K.Carry.width c.args.column.now in
    let load = load_there g.K.Carry.settled (totals g.K.Carry.wide_width c.args.wrench.now) in
    c.in_ok-force.ensures.mid ∙ force_is column (numbers g.K.Carry.width c.in_ok-load.load) load _ c.power-sum.ensures.mid c.in_ok-load.ensures.value

pub returns-clause-radius : goal.returns-clause-radius
unfolding load_there
returns-clause-radius g c =
    let column = numbers g.K.Carry.width c.args.column.now in
    let load = load_there g.K.Carry.settled (totals g.K.Carry.wide_width c.args.wrench.now) in
    c.in_ok-force.ensures.rad ∙ force_radius_is g.K.Carry.settled column (numbers g.K.Carry.width c.in_ok-load.load) load _ _ c.power-sum.ensures.mid c.power-sum.ensures.width c.in_ok-load.ensures.value

pub returns-clause-first : goal.returns-clause-first
unfolding load_there
returns-clause-first g c =
    let column = numbers g.K.Carry.width c.args.column.now in
    let load = load_there g.K.Carry.settled (totals g.K.Carry.wide_width c.args.wrench.now) in
    pass_first _ _ _ c.in_ok-load.ensures.first
    (c.in_ok-force.ensures.first
    ∙ force_fault_is kind.Bias _ g.K.Carry.settled column (numbers g.K.Carry.width c.in_ok-load.load) load _ _ c.power-sum.ensures.mid c.power-sum.ensures.width c.in_ok-load.ensures.value)

use Rattle.std.proofs.Common.{◌^◌, Bool, sym, ap, ◌∙◌}
use Rattle.std.proofs.lemmas.Result.{err_from_is_err_and}
use Rattle.fx_whole.proofs.FirstLaws.{stop_first, pass_first}
use Rattle.fx_vec.specs.Views.{mids, inertia, spatial_sums}
use Rattle.mj_types.specs.declared.range.Quantity.TheVariants as kind
use Rattle.mj_types.specs.Ranges.{unless}
use Rattle.mj_bias.specs.Faults.{is_within6}
use Rattle.mj_bias.specs.Measures.{Measured, totals, measure_fault}
use Rattle.mj_bias.specs.Steps.{velocity_there, momentum_there}
use Rattle.mj_bias.proofs.WrenchLaws.{unless_passes, within6_tested, wrench_of_sums}
use Rattle.mj_bias.proofs.bodies.body_wrench.Goals as goal

pub returns-in_err-v-clause-first : goal.returns-in_err-v-clause-first
unfolding velocity_there
returns-in_err-v-clause-first g c =
    let r = err_from_is_err_and c.from_residual.result c.from_residual.ensures.1 in
    rw (r.1, r.2) (stop_first _ _ _ c.in_err-v.ensures.first)

pub returns-in_err-a-clause-first : goal.returns-in_err-a-clause-first
unfolding velocity_there
returns-in_err-a-clause-first g c =
    let r = err_from_is_err_and c.from_residual-in_err-a.result c.from_residual-in_err-a.ensures.1 in
    rw (r.1, r.2) (pass_first _ _ _ c.in_ok-v.ensures.first (stop_first _ _ _ c.in_err-a.ensures.first))

pub returns-in_err-p-clause-first : goal.returns-in_err-p-clause-first
unfolding velocity_there
returns-in_err-p-clause-first g c =
    let i = inertia c.args.inertia.now in
    let r = err_from_is_err_and c.from_residual-in_err-p.result c.from_residual-in_err-p.ensures.1 in
    let momentum = ap (λ (s : Measured). measure_fault kind.BodyMotion c.args.k (2 ^ 62) (momentum_there g.K.Carry.settled i s)) c.in_ok-v.ensures.value in
    rw (r.1, r.2) (pass_first _ _ _ c.in_ok-v.ensures.first (pass_first _ _ _ c.in_ok-a.ensures.first (stop_first _ _ _ (c.in_err-p.ensures.first ∙ momentum))))

pub returns-in_err-unless-clause-first : goal.returns-in_err-unless-clause-first
unfolding velocity_there
returns-in_err-unless-clause-first g c =
    let i = inertia c.args.inertia.now in
    let r = err_from_is_err_and c.from_residual-in_err-unless.result c.from_residual-in_err-unless.ensures.1 in
    let momentum = ap (λ (s : Measured). measure_fault kind.BodyMotion c.args.k (2 ^ 62) (momentum_there g.K.Carry.settled i s)) c.in_ok-v.ensures.value in
    let force = wrench_of_sums g.K.Carry.settled (mids c.args.gravity.now) i (totals g.K.Carry.wide_width c.args.motion.now) (totals g.K.Carry.wide_width c.args.drift.now) _ _ _ (totals g.K.Carry.wide_width c.wrench-force.result)
    c.in_ok-a.ensures.value c.in_ok-v.ensures.value c.in_ok-p.ensures.value c.wrench-force.ensures.value in
    rw (r.1, r.2)
    (pass_first _ _ _ c.in_ok-v.ensures.first (pass_first _ _ _ c.in_ok-a.ensures.first (pass_first _ _ _ (c.in_ok-p.ensures.first ∙ momentum)
    (c.in_err-unless.ensures ∙ ap (λ (t : Bool). unless t kind.Wrench c.args.k) c.is_small6.ensures ∙ ap (λ (s : Measured). unless (is_within6 (2 ^ 118) s.value) kind.Wrench c.args.k) force))))

pub returns-clause-value : goal.returns-clause-value
unfolding velocity_there
returns-clause-value g c =
    wrench_of_sums g.K.Carry.settled (mids c.args.gravity.now) (inertia c.args.inertia.now) (totals g.K.Carry.wide_width c.args.motion.now) (totals g.K.Carry.wide_width c.args.drift.now) _ _ _ (totals g.K.Carry.wide_width c.wrench-force.result)
    c.in_ok-a.ensures.value c.in_ok-v.ensures.value c.in_ok-p.ensures.value c.wrench-force.ensures.value

pub returns-clause-within : goal.returns-clause-within
returns-clause-within g c =
    let good = unless_passes c.is_small6.result kind.Wrench c.args.k c.in_ok-unless.ensures in
    record { value_ = within6_tested (2 ^ 118) (spatial_sums c.wrench-force.result) (sym c.is_small6.ensures ∙ good); width_ = c.wrench-force.ensures.width.width_ }

pub returns-clause-first : goal.returns-clause-first
unfolding velocity_there
returns-clause-first g c =
    let i = inertia c.args.inertia.now in
    let momentum = ap (λ (s : Measured). measure_fault kind.BodyMotion c.args.k (2 ^ 62) (momentum_there g.K.Carry.settled i s)) c.in_ok-v.ensures.value in
    let force = wrench_of_sums g.K.Carry.settled (mids c.args.gravity.now) i (totals g.K.Carry.wide_width c.args.motion.now) (totals g.K.Carry.wide_width c.args.drift.now) _ _ _ (totals g.K.Carry.wide_width c.wrench-force.result)
    c.in_ok-a.ensures.value c.in_ok-v.ensures.value c.in_ok-p.ensures.value c.wrench-force.ensures.value in
    pass_first _ _ _ c.in_ok-v.ensures.first (pass_first _ _ _ c.in_ok-a.ensures.first (pass_first _ _ _ (c.in_ok-p.ensures.first ∙ momentum)
    (c.in_ok-unless.ensures ∙ ap (λ (t : Bool). unless t kind.Wrench c.args.k) c.is_small6.ensures ∙ ap (λ (s : Measured). unless (is_within6 (2 ^ 118) s.value) kind.Wrench c.args.k) force)))

use Rattle.std.proofs.Common.{◌≡◌, ◌^◌, ℤ, IfOk, ap, ap₂, subst, ◌∙◌}
use Rattle.mj_types.specs.declared.range.Quantity.TheVariants as kind
use Rattle.mj_bias.specs.Measures.{Measured, numbers, totals, sum_of, multiple, settled_by, measure_fault}
use Rattle.mj_bias.specs.Steps.{acceleration_there}
use Rattle.mj_bias.proofs.bodies.acceleration.Goals as goal

pub returns-clause-value : goal.returns-clause-value
unfolding acceleration_there
returns-clause-value g c =
    let drift = totals g.K.Carry.wide_width c.args.drift.now in
    let e = c.add_multiple.ensures ∙ ap₂ (λ (k : ℤ) (s : Measured). sum_of drift (multiple k s)) c.minus_one.ensures c.fall.ensures in
    subst (λ (x : Measured). IfOk c.settle_vector.result (λ r. numbers g.K.Carry.width r ≡ settled_by g.K.Carry.settled 32 x)) e c.settle_vector.ensures.value

pub returns-clause-first : goal.returns-clause-first
unfolding acceleration_there
returns-clause-first g c =
    let drift = totals g.K.Carry.wide_width c.args.drift.now in
    let e = c.add_multiple.ensures ∙ ap₂ (λ (k : ℤ) (s : Measured). sum_of drift (multiple k s)) c.minus_one.ensures c.fall.ensures in
    c.settle_vector.ensures.first ∙ ap (λ (x : Measured). measure_fault kind.BodyMotion c.args.k (2 ^ 56) (settled_by g.K.Carry.settled 32 x)) e

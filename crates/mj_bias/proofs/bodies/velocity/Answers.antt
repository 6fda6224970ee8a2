use Rattle.std.proofs.Common.{ap, sym, subst, ◌^◌, ◌∙◌, ◌<◌, length, arith}
use Rattle.fx_num.specs.Radii.{radius_limit}
use Rattle.mj_types.specs.declared.parts.Body.{Body}
use Rattle.mj_types.specs.declared.range.Quantity.TheVariants as kind
use Rattle.mj_types.specs.Parts.{no_body}
use Rattle.mj_bias.specs.Measures.{Measured, numbers, numbers_at, no_measure, IsWithin, measure_fault}
use Rattle.mj_bias.specs.Steps.{velocity_there}
use Rattle.mj_bias.proofs.SeenLaws.{seen-read}
use Rattle.mj_bias.proofs.StepLaws.{within_passes}
use Rattle.mj_bias.proofs.bodies.velocity.Goals as goal

pub entry-requires : goal.entry-requires
entry-requires g c = (c.carries_next.ensures c.if-carries_next.true).next

pub at-requires : goal.at-requires
at-requires g c =
    let h = c.carries_next.ensures c.if-carries_next.true in
    omega (arith, h.first.there, c.requires.turns, ap (λ (x : Body). x.dofadr) (c.entry.ensures no_body))

pub returns-then-carries_next-clause-value : goal.returns-then-carries_next-clause-value
unfolding velocity_there
returns-then-carries_next-clause-value g c =
    let h = c.carries_next.ensures c.if-carries_next.true in
    let e = ap (λ (x : Body). x.dofadr) (c.entry.ensures no_body) in
    let there : c.entry.result.now.dofadr < length c.args.turn.now = omega (arith, h.first.there, c.requires.turns, e) in
    sym (seen-read (numbers g.K.Carry.width) no_measure c.args.turn.now c.entry.result.now.dofadr c.at.result there c.at.ensures)
    ∙ ap (numbers_at g.K.Carry.width c.args.turn.now) (sym e)
    ∙ (c.requires.shared h).value_

pub returns-then-carries_next-clause-within : goal.returns-then-carries_next-clause-within
returns-then-carries_next-clause-within g c =
    let h = c.carries_next.ensures c.if-carries_next.true in
    let e = ap (λ (x : Body). x.dofadr) (c.entry.ensures no_body) in
    let there : c.entry.result.now.dofadr < length c.args.turn.now = omega (arith, h.first.there, c.requires.turns, e) in
    subst (λ (s : Measured). IsWithin s (2 ^ 48) radius_limit)
    (ap (numbers_at g.K.Carry.width c.args.turn.now) e
    ∙ seen-read (numbers g.K.Carry.width) no_measure c.args.turn.now c.entry.result.now.dofadr c.at.result there c.at.ensures)
    (c.requires.shared h).within

pub returns-then-carries_next-clause-first : goal.returns-then-carries_next-clause-first
unfolding velocity_there
returns-then-carries_next-clause-first g c =
    let v = c.requires.shared (c.carries_next.ensures c.if-carries_next.true) in
    sym (ap (measure_fault kind.BodyMotion c.args.k (2 ^ 48)) (sym v.value_) ∙ within_passes kind.BodyMotion c.args.k (2 ^ 48) _ v.within)

pub returns-else-carries_next-clause-value : goal.returns-else-carries_next-clause-value
unfolding velocity_there
returns-else-carries_next-clause-value g c = c.settle_vector.ensures.value

pub returns-else-carries_next-clause-first : goal.returns-else-carries_next-clause-first
unfolding velocity_there
returns-else-carries_next-clause-first g c = c.settle_vector.ensures.first

use Rattle.std.proofs.Common.{◌≡◌, Bool, IfOk, sym, subst, ◌∙◌}
use Rattle.mj_bias.specs.Measures.{numbers}
use Rattle.mj_bias.specs.Steps.{rate_there}
use Rattle.mj_bias.proofs.down.column_rate.Goals as goal

pub returns-else-is_translation-clause-value : goal.returns-else-is_translation-clause-value
returns-else-is_translation-clause-value g c =
    let turn = numbers g.K.Carry.width c.args.turn.now in
    let column = numbers g.K.Carry.width c.args.column.now in
    subst (λ (t : Bool). IfOk c.carried_rate.result (λ r. numbers g.K.Carry.width r ≡ rate_there g.K.Carry.settled t turn column))
    (sym c.if-is_translation.false ∙ c.is_translation.ensures) c.carried_rate.ensures.value

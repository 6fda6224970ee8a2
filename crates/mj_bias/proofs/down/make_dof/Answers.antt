use Rattle.std.proofs.Common.{◌+◌, ◌^◌, ◌<◌, length, sym, ap, ap₂, subst, ◌∙◌, arith}
use Rattle.std.proofs.lemmas.Result.{err_from_is_err_and}
use Rattle.fx_whole.proofs.FirstLaws.{pass_first}
use Rattle.fx_num.specs.Radii.{radius_limit}
use Rattle.fx_vec.specs.Views.{spatial}
use Rattle.mj_types.specs.declared.range.Quantity.TheVariants as kind
use Rattle.mj_types.specs.Parts.{no_motion}
use Rattle.mj_bias.specs.Movement.{is_translation}
use Rattle.mj_bias.specs.Measures.{Measured, exact, numbers, no_measure, measure_fault, IsWithin}
use Rattle.mj_bias.specs.Steps.{rate_there}
use Rattle.mj_bias.proofs.SeenLaws.{seen-same, seen-other}
use Rattle.mj_bias.proofs.StepLaws.{exact_within}
use Rattle.mj_bias.proofs.down.make_dof.Goals as goal

pub column_rate-requires-clause-column : goal.column_rate-requires-clause-column
column_rate-requires-clause-column g c =
    let e = c.exact6-column.ensures ∙ ap (λ s. exact (spatial s)) (sym (c.entry.ensures no_motion)) in
    subst (λ (s : Measured). IsWithin s (2 ^ 42) 0) (sym e) (exact_within _ (2 ^ 42) (c.requires.frames.column c.args.j c.requires.dof))

pub returns-in_err-rate-clause-first : goal.returns-in_err-rate-clause-first
returns-in_err-rate-clause-first g c =
    let r = err_from_is_err_and c.from_residual-in_err-rate.result c.from_residual-in_err-rate.ensures.1 in
    let e = c.exact6-column.ensures ∙ ap (λ s. exact (spatial s)) (sym (c.entry.ensures no_motion)) in
    let constant = is_translation c.args.model.now c.args.j in
    rw (r.1, r.2)
    (pass_first _ _ _ (c.in_ok-turn.ensures.first)
    (c.in_err-rate.ensures.first ∙ ap₂ (λ (t s : Measured). measure_fault kind.DofMotion (c.args.j + 1) (2 ^ 56) (rate_there g.K.Carry.settled constant t s)) c.in_ok-turn.ensures.value e))

pub returns-clause-first : goal.returns-clause-first
returns-clause-first g c =
    let e = c.exact6-column.ensures ∙ ap (λ s. exact (spatial s)) (sym (c.entry.ensures no_motion)) in
    let constant = is_translation c.args.model.now c.args.j in
    pass_first _ _ _ (c.in_ok-turn.ensures.first)
    (c.in_ok-rate.ensures.first ∙ ap₂ (λ (t s : Measured). measure_fault kind.DofMotion (c.args.j + 1) (2 ^ 56) (rate_there g.K.Carry.settled constant t s)) c.in_ok-turn.ensures.value e)

pub returns-clause-turn : goal.returns-clause-turn
returns-clause-turn g c =
    let there : c.args.j < length c.args.out.now.turn = omega (arith, c.requires.room.turn) in
    seen-same (numbers g.K.Carry.width) no_measure c.args.out.now.turn c.put.new.self c.args.j c.in_ok-turn.turn c.put.ensures.len there c.put.ensures.same ∙ c.in_ok-turn.ensures.value

pub returns-clause-rate : goal.returns-clause-rate
returns-clause-rate g c =
    let e = c.exact6-column.ensures ∙ ap (λ s. exact (spatial s)) (sym (c.entry.ensures no_motion)) in
    let there : c.args.j < length c.args.out.now.rate = omega (arith, c.requires.room.rate) in
    seen-same (numbers g.K.Carry.width) no_measure c.args.out.now.rate c.put-2.new.self c.args.j c.in_ok-rate.rate c.put-2.ensures.len there c.put-2.ensures.same
    ∙ c.in_ok-rate.ensures.value ∙ ap₂ (λ (t s : Measured). rate_there g.K.Carry.settled (is_translation c.args.model.now c.args.j) t s) c.in_ok-turn.ensures.value e

pub returns-clause-small_turn : goal.returns-clause-small_turn
returns-clause-small_turn g c =
    let there : c.args.j < length c.args.out.now.turn = omega (arith, c.requires.room.turn) in
    subst (λ (s : Measured). IsWithin s (2 ^ 48) radius_limit)
    (sym (seen-same (numbers g.K.Carry.width) no_measure c.args.out.now.turn c.put.new.self c.args.j c.in_ok-turn.turn c.put.ensures.len there c.put.ensures.same))
    c.in_ok-turn.ensures.within

pub returns-clause-small_rate : goal.returns-clause-small_rate
returns-clause-small_rate g c =
    let there : c.args.j < length c.args.out.now.rate = omega (arith, c.requires.room.rate) in
    subst (λ (s : Measured). IsWithin s (2 ^ 56) radius_limit)
    (sym (seen-same (numbers g.K.Carry.width) no_measure c.args.out.now.rate c.put-2.new.self c.args.j c.in_ok-rate.rate c.put-2.ensures.len there c.put-2.ensures.same))
    c.in_ok-rate.ensures.within

pub returns-clause-other_turns : goal.returns-clause-other_turns
returns-clause-other_turns g c = λ i h.
    seen-other (numbers g.K.Carry.width) no_measure c.args.out.now.turn c.put.new.self c.args.j i c.in_ok-turn.turn c.put.ensures.len c.put.ensures.others h

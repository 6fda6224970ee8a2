use Rattle.std.proofs.Common.{[], ◌∷◌, List, None, sym, ◌∙◌, subst}
use Rattle.std.proofs.lemmas.Bool.{cond-true, cond-false}
use Rattle.fx_whole.specs.First.{refusal_of}
use Rattle.mj_rows.specs.Constraint.{Constraint}
use Rattle.mj_types.specs.Parts.{number_at}
use Rattle.mj_rows.specs.Limits.{tendon_high_limit, is_high, tendon_extent}
use Rattle.mj_dual.specs.Reductions.{dynamics}
use Rattle.mj_dual.specs.Taking.{HasAdded}
use Rattle.mj_dual.proofs.TakingLaws.{added-none}
use Rattle.mj_dual.proofs.tendons.take_high.Goals as goal

pub returns-then-has_tendon_high : goal.returns-then-has_tendon_high
returns-then-has_tendon_high c =
    let m = c.args.model.now in
    let y = dynamics c.args.model.now c.args.state.now c.args.factor.now c.args.smooth.now in
    let part = tendon_high_limit c.args.model.now (number_at c.args.applied.now.length) c.args.t in
    subst (λ (xs : List Constraint). HasAdded m y xs (refusal_of c.take_row.result) c.args.rows.now c.take_row.new.rows c.args.out.now c.take_row.new.out)
    (sym (cond-true {A = List Constraint} (is_high (tendon_extent c.args.model.now (number_at c.args.applied.now.length) c.args.t)) (part ∷ []) [] (sym c.has_tendon_high.ensures ∙ c.if-has_tendon_high.true)))
    (c.take_row.ensures part c.tendon_high-row.ensures.row c.tendon_high-row.ensures.written.whole (c.tendon_high-row.ensures.sound _))

pub returns-else-has_tendon_high : goal.returns-else-has_tendon_high
returns-else-has_tendon_high c =
    let m = c.args.model.now in
    let y = dynamics c.args.model.now c.args.state.now c.args.factor.now c.args.smooth.now in
    subst (λ (xs : List Constraint). HasAdded m y xs None c.args.rows.now c.args.rows.now c.args.out.now c.args.out.now)
    (sym (cond-false {A = List Constraint} (is_high (tendon_extent c.args.model.now (number_at c.args.applied.now.length) c.args.t)) ((tendon_high_limit c.args.model.now (number_at c.args.applied.now.length) c.args.t) ∷ []) [] (sym c.has_tendon_high.ensures ∙ c.if-has_tendon_high.false)))
    (added-none m y c.args.rows.now c.args.out.now c.requires.open_)

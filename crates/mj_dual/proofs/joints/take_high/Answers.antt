use Rattle.std.proofs.Common.{[], ◌∷◌, List, None, sym, ◌∙◌, subst}
use Rattle.std.proofs.lemmas.Bool.{cond-true, cond-false}
use Rattle.fx_whole.specs.First.{refusal_of}
use Rattle.mj_rows.specs.Constraint.{Constraint}
use Rattle.mj_rows.specs.Limits.{high_limit, is_high, joint_extent}
use Rattle.mj_dual.specs.Reductions.{dynamics}
use Rattle.mj_dual.specs.Taking.{HasAdded}
use Rattle.mj_dual.proofs.TakingLaws.{added-none}
use Rattle.mj_dual.proofs.joints.take_high.Goals as goal

pub returns-then-has_high : goal.returns-then-has_high
returns-then-has_high c =
    let m = c.args.model.now in
    let y = dynamics c.args.model.now c.args.state.now c.args.factor.now c.args.smooth.now in
    let part = high_limit c.args.model.now c.args.state.now c.args.j in
    subst (λ (xs : List Constraint). HasAdded m y xs (refusal_of c.take_row.result) c.args.rows.now c.take_row.new.rows c.args.out.now c.take_row.new.out)
    (sym (cond-true {A = List Constraint} (is_high (joint_extent c.args.model.now c.args.state.now c.args.j)) (part ∷ []) [] (sym c.has_high.ensures ∙ c.if-has_high.true)))
    (c.take_row.ensures part c.high-row.ensures.row c.high-row.ensures.written.whole (c.high-row.ensures.sound _))

pub returns-else-has_high : goal.returns-else-has_high
returns-else-has_high c =
    let m = c.args.model.now in
    let y = dynamics c.args.model.now c.args.state.now c.args.factor.now c.args.smooth.now in
    subst (λ (xs : List Constraint). HasAdded m y xs None c.args.rows.now c.args.rows.now c.args.out.now c.args.out.now)
    (sym (cond-false {A = List Constraint} (is_high (joint_extent c.args.model.now c.args.state.now c.args.j)) ((high_limit c.args.model.now c.args.state.now c.args.j) ∷ []) [] (sym c.has_high.ensures ∙ c.if-has_high.false)))
    (added-none m y c.args.rows.now c.args.out.now c.requires.open_)

use Rattle.std.proofs.Common.{[], ◌∷◌, List, None, sym, ◌∙◌, subst}
use Rattle.std.proofs.lemmas.Bool.{cond-true, cond-false}
use Rattle.fx_whole.specs.First.{refusal_of}
use Rattle.mj_rows.specs.Constraint.{Constraint}
use Rattle.mj_rows.specs.Limits.{low_limit, is_low, joint_extent}
use Rattle.mj_dual.specs.Reductions.{dynamics}
use Rattle.mj_dual.specs.Taking.{HasAdded}
use Rattle.mj_dual.proofs.TakingLaws.{added-none}
use Rattle.mj_dual.proofs.joints.take_low.Goals as goal

pub returns-then-has_low : goal.returns-then-has_low
returns-then-has_low c =
    let m = c.args.model.now in
    let y = dynamics c.args.model.now c.args.state.now c.args.factor.now c.args.smooth.now in
    let part = low_limit c.args.model.now c.args.state.now c.args.j in
    subst (λ (xs : List Constraint). HasAdded m y xs (refusal_of c.take_row.result) c.args.rows.now c.take_row.new.rows c.args.out.now c.take_row.new.out)
    (sym (cond-true {A = List Constraint} (is_low (joint_extent c.args.model.now c.args.state.now c.args.j)) (part ∷ []) [] (sym c.has_low.ensures ∙ c.if-has_low.true)))
    (c.take_row.ensures part c.low-row.ensures.row c.low-row.ensures.written.whole (c.low-row.ensures.sound _))

pub returns-else-has_low : goal.returns-else-has_low
returns-else-has_low c =
    let m = c.args.model.now in
    let y = dynamics c.args.model.now c.args.state.now c.args.factor.now c.args.smooth.now in
    subst (λ (xs : List Constraint). HasAdded m y xs None c.args.rows.now c.args.rows.now c.args.out.now c.args.out.now)
    (sym (cond-false {A = List Constraint} (is_low (joint_extent c.args.model.now c.args.state.now c.args.j)) ((low_limit c.args.model.now c.args.state.now c.args.j) ∷ []) [] (sym c.has_low.ensures ∙ c.if-has_low.false)))
    (added-none m y c.args.rows.now c.args.out.now c.requires.open_)

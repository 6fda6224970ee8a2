use Rattle.std.proofs.Common.{[], ◌∷◌, List, None, sym, ◌∙◌, subst}
use Rattle.std.proofs.lemmas.Bool.{cond-true, cond-false}
use Rattle.fx_whole.specs.First.{refusal_of}
use Rattle.mj_rows.specs.Constraint.{Constraint}
use Rattle.mj_rows.specs.Joints.{friction_of, has_friction}
use Rattle.mj_dual.specs.Reductions.{dynamics}
use Rattle.mj_dual.specs.Taking.{HasAdded}
use Rattle.mj_dual.proofs.TakingLaws.{added-none}
use Rattle.mj_dual.proofs.joints.take_friction.Goals as goal

pub returns-then-has_friction : goal.returns-then-has_friction
returns-then-has_friction c =
    let m = c.args.model.now in
    let y = dynamics c.args.model.now c.args.state.now c.args.factor.now c.args.smooth.now in
    let part = friction_of c.args.model.now c.args.j in
    subst (λ (xs : List Constraint). HasAdded m y xs (refusal_of c.take_row.result) c.args.rows.now c.take_row.new.rows c.args.out.now c.take_row.new.out)
    (sym (cond-true {A = List Constraint} (has_friction c.args.model.now c.args.j) (part ∷ []) [] (sym c.has_friction.ensures ∙ c.if-has_friction.true)))
    (c.take_row.ensures part c.friction-row.ensures.row c.friction-row.ensures.written.whole (c.friction-row.ensures.sound _))

pub returns-else-has_friction : goal.returns-else-has_friction
returns-else-has_friction c =
    let m = c.args.model.now in
    let y = dynamics c.args.model.now c.args.state.now c.args.factor.now c.args.smooth.now in
    subst (λ (xs : List Constraint). HasAdded m y xs None c.args.rows.now c.args.rows.now c.args.out.now c.args.out.now)
    (sym (cond-false {A = List Constraint} (has_friction c.args.model.now c.args.j) ((friction_of c.args.model.now c.args.j) ∷ []) [] (sym c.has_friction.ensures ∙ c.if-has_friction.false)))
    (added-none m y c.args.rows.now c.args.out.now c.requires.open_)

use Rattle.std.proofs.Common.{◌≡◌, ℕ, None, refl, [], ◌∷◌, length, subst, arith}
use Rattle.std.proofs.lemmas.Result.{err_from_is_err_and}
use Rattle.fx_whole.specs.Joined.{joined}
use Rattle.mj_rows.specs.Joints.{equality_of}
use Rattle.mj_dual.specs.Reductions.{dynamics}
use Rattle.mj_dual.specs.Taking.{HasAdded}
use Rattle.mj_dual.proofs.TakingLaws.{turn-start, turn-more, turn-stop, turn-spare}
use Rattle.mj_dual.proofs.joints.take_equalities.Goals as goal

pub loop-e-init : goal.loop-e-init
loop-e-init c = record {
  added = turn-start c.args.model.now (dynamics c.args.model.now c.args.state.now c.args.factor.now c.args.smooth.now) c.args.rows.now c.args.out.now (λ (e : ℕ). equality_of c.args.model.now c.args.state.now e ∷ []) c.requires.open_;
}

pub take_equality-requires-clause-open_ : goal.take_equality-requires-clause-open_
take_equality-requires-clause-open_ c = c.loop-e.invariant.added.open_

pub take_equality-requires-clause-spare : goal.take_equality-requires-clause-spare
take_equality-requires-clause-spare c =
    turn-spare (length c.args.rows.now.list.list) (length c.loop-e.rows.list.list) c.args.model.now.njmax c.loop-e.e (length c.args.model.now.equalities) (λ (e : ℕ). equality_of c.args.model.now c.args.state.now e ∷ [])
    c.requires.spare (c.loop-e.invariant.added.count refl) (omega arith)

pub returns-in_err-take_equality : goal.returns-in_err-take_equality
returns-in_err-take_equality c =
    let p = err_from_is_err_and c.from_residual.result c.from_residual.ensures.1 in
    rw (p.1, p.2)
    (turn-stop c.args.model.now (dynamics c.args.model.now c.args.state.now c.args.factor.now c.args.smooth.now) c.args.rows.now c.loop-e.rows c.take_equality.new.rows c.args.out.now c.loop-e.out c.take_equality.new.out
    c.loop-e.e (length c.args.model.now.equalities) (λ (e : ℕ). equality_of c.args.model.now c.args.state.now e ∷ []) _ (omega arith) c.loop-e.invariant.added c.in_err-take_equality.ensures)

pub loop-e-preserved : goal.loop-e-preserved
loop-e-preserved c = record {
  added = turn-more c.args.model.now (dynamics c.args.model.now c.args.state.now c.args.factor.now c.args.smooth.now) c.args.rows.now c.loop-e.rows c.take_equality.new.rows c.args.out.now c.loop-e.out c.take_equality.new.out
      c.loop-e.e (λ (e : ℕ). equality_of c.args.model.now c.args.state.now e ∷ []) None c.loop-e.invariant.added c.in_ok-take_equality.ensures;
}

pub returns : goal.returns
returns c =
    let last : c.loop-e.e ≡ length c.args.model.now.equalities = omega arith in
    subst (λ (k : ℕ). HasAdded c.args.model.now (dynamics c.args.model.now c.args.state.now c.args.factor.now c.args.smooth.now) (joined k (λ (e : ℕ). equality_of c.args.model.now c.args.state.now e ∷ [])) None c.args.rows.now c.loop-e.rows c.args.out.now c.loop-e.out)
    last c.loop-e.invariant.added

use Rattle.std.proofs.Common.{◌≡◌, ℕ, None, refl, length, subst, arith}
use Rattle.std.proofs.lemmas.Result.{err_from_is_err_and}
use Rattle.fx_whole.specs.Joined.{joined}
use Rattle.mj_types.specs.Parts.{number_at}
use Rattle.mj_rows.specs.Limits.{tendon_limits}
use Rattle.mj_dual.specs.Reductions.{dynamics}
use Rattle.mj_dual.specs.Taking.{HasAdded}
use Rattle.mj_dual.proofs.TakingLaws.{turn-start, turn-more, turn-stop, turn-spare}
use Rattle.mj_dual.proofs.tendons.take_tendon_limits.Goals as goal

pub loop-t-init : goal.loop-t-init
loop-t-init c = record {
  added = turn-start c.args.model.now (dynamics c.args.model.now c.args.state.now c.args.factor.now c.args.smooth.now) c.args.rows.now c.args.out.now (tendon_limits c.args.model.now (number_at c.args.applied.now.length)) c.requires.open_;
}

pub take_limits-requires-clause-open_ : goal.take_limits-requires-clause-open_
take_limits-requires-clause-open_ c = c.loop-t.invariant.added.open_

pub take_limits-requires-clause-spare : goal.take_limits-requires-clause-spare
take_limits-requires-clause-spare c =
    turn-spare (length c.args.rows.now.list.list) (length c.loop-t.rows.list.list) c.args.model.now.njmax c.loop-t.t (length c.args.model.now.tendons) (tendon_limits c.args.model.now (number_at c.args.applied.now.length))
    c.requires.spare (c.loop-t.invariant.added.count refl) (omega arith)

pub returns-in_err-take_limits : goal.returns-in_err-take_limits
returns-in_err-take_limits c =
    let p = err_from_is_err_and c.from_residual.result c.from_residual.ensures.1 in
    rw (p.1, p.2)
    (turn-stop c.args.model.now (dynamics c.args.model.now c.args.state.now c.args.factor.now c.args.smooth.now) c.args.rows.now c.loop-t.rows c.take_limits.new.rows c.args.out.now c.loop-t.out c.take_limits.new.out
    c.loop-t.t (length c.args.model.now.tendons) (tendon_limits c.args.model.now (number_at c.args.applied.now.length)) _ (omega arith) c.loop-t.invariant.added c.in_err-take_limits.ensures)

pub loop-t-preserved : goal.loop-t-preserved
loop-t-preserved c = record {
  added = turn-more c.args.model.now (dynamics c.args.model.now c.args.state.now c.args.factor.now c.args.smooth.now) c.args.rows.now c.loop-t.rows c.take_limits.new.rows c.args.out.now c.loop-t.out c.take_limits.new.out
      c.loop-t.t (tendon_limits c.args.model.now (number_at c.args.applied.now.length)) None c.loop-t.invariant.added c.in_ok-take_limits.ensures;
}

pub returns : goal.returns
returns c =
    let last : c.loop-t.t ≡ length c.args.model.now.tendons = omega arith in
    subst (λ (k : ℕ). HasAdded c.args.model.now (dynamics c.args.model.now c.args.state.now c.args.factor.now c.args.smooth.now) (joined k (tendon_limits c.args.model.now (number_at c.args.applied.now.length))) None c.args.rows.now c.loop-t.rows c.args.out.now c.loop-t.out)
    last c.loop-t.invariant.added

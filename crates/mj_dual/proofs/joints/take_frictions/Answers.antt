use Rattle.std.proofs.Common.{◌≡◌, ℕ, None, refl, length, subst, arith}
use Rattle.std.proofs.lemmas.Result.{err_from_is_err_and}
use Rattle.fx_whole.specs.Joined.{joined}
use Rattle.mj_rows.specs.Joints.{frictions}
use Rattle.mj_dual.specs.Reductions.{dynamics}
use Rattle.mj_dual.specs.Taking.{HasAdded}
use Rattle.mj_dual.proofs.TakingLaws.{turn-start, turn-more, turn-stop, turn-spare}
use Rattle.mj_dual.proofs.joints.take_frictions.Goals as goal

pub loop-j-init : goal.loop-j-init
loop-j-init c = record {
  added = turn-start c.args.model.now (dynamics c.args.model.now c.args.state.now c.args.factor.now c.args.smooth.now) c.args.rows.now c.args.out.now (frictions c.args.model.now) c.requires.open_;
}

pub take_friction-requires-clause-open_ : goal.take_friction-requires-clause-open_
take_friction-requires-clause-open_ c = c.loop-j.invariant.added.open_

pub take_friction-requires-clause-spare : goal.take_friction-requires-clause-spare
take_friction-requires-clause-spare c =
    turn-spare (length c.args.rows.now.list.list) (length c.loop-j.rows.list.list) c.args.model.now.njmax c.loop-j.j (length c.args.model.now.joints) (frictions c.args.model.now)
    c.requires.spare (c.loop-j.invariant.added.count refl) (omega arith)

pub returns-in_err-take_friction : goal.returns-in_err-take_friction
returns-in_err-take_friction c =
    let p = err_from_is_err_and c.from_residual.result c.from_residual.ensures.1 in
    rw (p.1, p.2)
    (turn-stop c.args.model.now (dynamics c.args.model.now c.args.state.now c.args.factor.now c.args.smooth.now) c.args.rows.now c.loop-j.rows c.take_friction.new.rows c.args.out.now c.loop-j.out c.take_friction.new.out
    c.loop-j.j (length c.args.model.now.joints) (frictions c.args.model.now) _ (omega arith) c.loop-j.invariant.added c.in_err-take_friction.ensures)

pub loop-j-preserved : goal.loop-j-preserved
loop-j-preserved c = record {
  added = turn-more c.args.model.now (dynamics c.args.model.now c.args.state.now c.args.factor.now c.args.smooth.now) c.args.rows.now c.loop-j.rows c.take_friction.new.rows c.args.out.now c.loop-j.out c.take_friction.new.out
      c.loop-j.j (frictions c.args.model.now) None c.loop-j.invariant.added c.in_ok-take_friction.ensures;
}

pub returns : goal.returns
returns c =
    let last : c.loop-j.j ≡ length c.args.model.now.joints = omega arith in
    subst (λ (k : ℕ). HasAdded c.args.model.now (dynamics c.args.model.now c.args.state.now c.args.factor.now c.args.smooth.now) (joined k (frictions c.args.model.now)) None c.args.rows.now c.loop-j.rows c.args.out.now c.loop-j.out)
    last c.loop-j.invariant.added

use Rattle.mj_types.specs.Masses.{mass_at}
use Rattle.mj_ball.proofs.BoundLaws.{no_ball}
use Rattle.mj_ball.proofs.balls.ball_at.Goals as goal

pub returns-else-may_be_good-clause-value : goal.returns-else-may_be_good-clause-value
returns-else-may_be_good-clause-value c =
    let m = c.args.model.now in
    let w = c.may_be_good.ensures c.if-may_be_good.false in
    no_ball m.nv (mass_at m.nv c.args.mass.now.m) c.args.total c.args.k w.0 w.1 w.2

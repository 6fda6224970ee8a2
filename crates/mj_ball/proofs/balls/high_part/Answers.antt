use Rattle.std.proofs.Common.{◌^◌, arith, div-add-mod'}
use Rattle.mj_ball.proofs.balls.high_part.Goals as goal

pub returns-clause-small : goal.returns-clause-small
returns-clause-small c = omega (arith, div-add-mod' c.args.n (2 ^ 64), c.requires)

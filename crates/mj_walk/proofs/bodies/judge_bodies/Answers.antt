use Rattle.mj_walk.proofs.EachLaws.{each-more}
use Rattle.mj_walk.proofs.bodies.judge_bodies.Goals as goal

pub loop-i-preserved : goal.loop-i-preserved
loop-i-preserved c = each-more _ _ _ _ _ _ _ _ c.loop-i.invariant c.loop-i-test.true c.index-all-i.is c.in_ok-x.ensures c.in_ok-push.ensures.items

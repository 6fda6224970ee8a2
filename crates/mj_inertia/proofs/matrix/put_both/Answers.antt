use Rattle.mj_types.specs.Masses.{no_near}
use Rattle.mj_inertia.proofs.WritingLaws.{writes_both}
use Rattle.mj_inertia.proofs.matrix.put_both.Goals as goal

pub returns-clause-writes : goal.returns-clause-writes
returns-clause-writes c =
    writes_both c.args.n c.args.i c.args.j c.args.x c.args.out.now c.put.new.self c.put-2.new.self c.requires.order c.requires.row
    (c.put.ensures.same no_near) (c.put.ensures.others no_near) (c.put-2.ensures.same no_near) (c.put-2.ensures.others no_near)

use Rattle.mj_reading.proofs.ReadingLaws.{within-some, within-none}
use Rattle.mj_reading.proofs.scan.read_within.Goals as goal

pub returns-in-Some : goal.returns-in-Some
returns-in-Some c = within-some c.args.least c.args.most c.args.text.now c.in-Some.n c.at_least.result (rw c.in-Some.is at c.read_natural.ensures) c.at_least.ensures.more c.at_least.ensures.less

pub returns-in-None : goal.returns-in-None
returns-in-None c = within-none c.args.least c.args.most c.args.text.now (rw c.in-None.is at c.read_natural.ensures)

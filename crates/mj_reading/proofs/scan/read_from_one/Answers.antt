use Rattle.std.proofs.Common.{◌^◌, ◌-◌}
use Rattle.mj_reading.proofs.ReadingLaws.{within-some, within-none}
use Rattle.mj_reading.proofs.scan.read_from_one.Goals as goal

pub returns-in-Some : goal.returns-in-Some
returns-in-Some c = within-some 1 (2 ^ 127 - 1) c.args.text.now c.in-Some.n c.from_one.result (rw c.in-Some.is at c.read_natural.ensures) c.from_one.ensures.more c.from_one.ensures.less

pub returns-in-None : goal.returns-in-None
returns-in-None c = within-none 1 (2 ^ 127 - 1) c.args.text.now (rw c.in-None.is at c.read_natural.ensures)

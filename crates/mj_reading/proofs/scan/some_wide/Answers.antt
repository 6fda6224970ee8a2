use Rattle.mj_reading.proofs.ReadingLaws.{number-token, no-token}
use Rattle.mj_reading.proofs.scan.some_wide.Goals as goal

pub returns-in-Some : goal.returns-in-Some
returns-in-Some c = number-token c.args.text.now c.in-Some.x (rw c.in-Some.is at c.read_wide.ensures) c.requires

pub returns-in-None : goal.returns-in-None
returns-in-None c = no-token c.args.text.now (rw c.in-None.is at c.read_wide.ensures) c.requires

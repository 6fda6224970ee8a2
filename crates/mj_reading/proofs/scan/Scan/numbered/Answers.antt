use Rattle.mj_reading.proofs.ReadingLaws.{read-fixed}
use Rattle.mj_reading.proofs.scan.Scan.numbered.Goals as goal

pub returns : goal.returns
returns c = read-fixed c.args.n c.labelled.ensures

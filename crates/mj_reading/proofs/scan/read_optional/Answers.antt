use Rattle.mj_reading.proofs.ReadingLaws.{mark-token}
use Rattle.mj_reading.proofs.scan.read_optional.Goals as goal

pub returns-then-is_mark : goal.returns-then-is_mark
returns-then-is_mark c = mark-token c.args.text.now (c.is_mark.ensures.yes c.if-is_mark.true)

use Rattle.std.proofs.lemmas.Slice.Eq.{starts_is}
use Rattle.mj_reading.proofs.ReadingLaws.{byte-decides}
use Rattle.mj_reading.proofs.scan.begins.Goals as goal

pub returns-clause-yes : goal.returns-clause-yes
returns-clause-yes c = (starts_is byte-decides c.args.text.now c.args.word.now c.starts_with.result c.starts_with.ensures.value).0

pub returns-clause-only : goal.returns-clause-only
returns-clause-only c = (starts_is byte-decides c.args.text.now c.args.word.now c.starts_with.result c.starts_with.ensures.value).1

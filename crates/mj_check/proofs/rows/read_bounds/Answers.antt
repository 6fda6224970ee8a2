use Rattle.std.proofs.Common.{refl}
use Rattle.mj_reading.proofs.ReadingLaws.{read-nothing}
use Rattle.mj_check.proofs.BoundLaws.{untold, untold-only}
use Rattle.mj_check.proofs.rows.read_bounds.Goals as goal

pub returns-then-bounds : goal.returns-then-bounds
returns-then-bounds c = rw c.if-bounds.true c.read_both_bounds.ensures

pub returns-else-bounds : goal.returns-else-bounds
returns-else-bounds c = rw c.if-bounds.false (read-nothing untold c.args.scan.now (refl, refl) untold-only refl)

use Rattle.std.proofs.Common.{FitsSigned}
use Rattle.std.specs.Int.{w128}
use Rattle.mj_reading.proofs.ReadingLaws.{wide-fits}
use Rattle.std.proofs.lemmas.Int.{to_z-of_z}
use Rattle.mj_reading.proofs.ReadingLaws.{raw-some, raw-none}
use Rattle.mj_reading.proofs.scan.read_wide.Goals as goal

pub returns-in-Some : goal.returns-in-Some
returns-in-Some c =
    let h = rw c.in-Some.is at c.read_raw.ensures in
    let f : FitsSigned w128 c.in-Some.raw = wide-fits c.in-Some.raw h.wide in
    rw (to_z-of_z w128 c.in-Some.raw f) (raw-some c.args.text.now c.in-Some.raw h)

pub returns-in-None : goal.returns-in-None
returns-in-None c = raw-none c.args.text.now (rw c.in-None.is at c.read_raw.ensures)

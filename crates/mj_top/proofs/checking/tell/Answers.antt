use Rattle.std.proofs.Common.{sym, subst}
use Rattle.mj_types.specs.declared.verdict.Verdict.{Verdict}
use Rattle.mj_types.specs.declared.verdict.Verdict.TheVariants as verdict
use Rattle.mj_top.specs.Ends.{Ends}
use Rattle.mj_top.specs.Outcome.{judged_as}
use Rattle.mj_top.proofs.Endings.{ends-from_wrote}
use Rattle.mj_top.proofs.checking.tell.Goals as goal

pub returns-in-Accepted : goal.returns-in-Accepted
returns-in-Accepted g c =
    let P = λ (v : Verdict). Ends g.S.Sink.holds g.S.Sink.faults (judged_as v) c.args.sink.now c.answered.result c.accepted-written.new.sink in
    let told = ends-from_wrote g.S.Sink.holds g.S.Sink.faults c.args.sink.now c.accepted-written.new.sink c.accepted-written.result
    (judged_as (verdict.Accepted c.in-Accepted.blocks)) c.answered.result tt c.accepted-written.ensures.wrote c.answered.ensures in
    subst P (sym c.in-Accepted.is) told

pub returns-in-Rejected : goal.returns-in-Rejected
returns-in-Rejected g c =
    let P = λ (v : Verdict). Ends g.S.Sink.holds g.S.Sink.faults (judged_as v) c.args.sink.now c.answered-in-Rejected.result c.rejected-written.new.sink in
    let told = ends-from_wrote g.S.Sink.holds g.S.Sink.faults c.args.sink.now c.rejected-written.new.sink c.rejected-written.result
    (judged_as (verdict.Rejected c.in-Rejected.line c.in-Rejected.reason)) c.answered-in-Rejected.result tt c.rejected-written.ensures.wrote c.answered-in-Rejected.ensures in
    subst P (sym c.in-Rejected.is) told

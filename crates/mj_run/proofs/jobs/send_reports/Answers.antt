use Rattle.std.proofs.Common.{rules}
use Rattle.mj_io.proofs.Sent.{sent-more}
use Rattle.mj_run.specs.Batch.{held_report}
use Rattle.mj_run.proofs.jobs.send_reports.Goals as goal

pub loop-i-preserved : goal.loop-i-preserved
loop-i-preserved g c = record {
  sent = sent-more held_report c.args.jobs.now c.loop-i.i c.index-jobs-i.result c.index-jobs-i.result c.loop-i-test.true (search rules) c.loop-i.invariant.sent c.send_report.ensures;
}

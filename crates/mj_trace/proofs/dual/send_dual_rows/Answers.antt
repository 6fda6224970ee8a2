use Rattle.std.proofs.Common.{arith}
use Rattle.mj_trace.proofs.Joining.{sent-begun, sent-joined, sent-whole}
use Rattle.mj_types.specs.StepValues.{dual_values}
use Rattle.mj_trace.specs.Block.{dual_row_text}
use Rattle.mj_trace.proofs.dual.send_dual_rows.Goals as goal

pub loop-i-init : goal.loop-i-init
loop-i-init g c = record {
  sent = sent-begun g.S.Sink.holds g.S.Sink.faults c.args.sink.now c.args.page.now (dual_row_text c.args.format (dual_values c.args.dual.now));
}

pub loop-i-preserved : goal.loop-i-preserved
loop-i-preserved g c = record {
  sent = sent-joined c.loop-i.i (dual_row_text c.args.format (dual_values c.args.dual.now)) c.loop-i.invariant.sent (c.send_dual_row.ensures);
}

pub returns : goal.returns
returns g c = sent-whole c.loop-i.i c.args.dual.now.m (dual_row_text c.args.format (dual_values c.args.dual.now)) (omega arith) c.loop-i.invariant.sent
